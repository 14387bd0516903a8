-- Laws of the C interface: a run's numbers return, and what the calls behind the interface promise is what it promises.
use mathlib.Core.Bool.{Bool, true, false}
use mathlib.Core.List.{List}
use mathlib.Core.Path.{◌≡◌, refl, sym, ap, ◌∙◌, subst}
use Prim.Native.Nat.{ℕ, ◌<◌, ◌≤◌}
use lib.Dec.{leb, ltb, eqb}
use lib.ListN.{length}
use native.Mathlib.Omega.{arith}
use borrow.Author.Tests.{eqb-true, eqb-false, leb-true, lt-ltb, le-ltb, le-leb, lt-leb, ne_eqb}
use Rattle.codepage.specs.CodePage.{CodePage, pick, first_fault, is_good}
use Rattle.engine.specs.declared.Direction.{Direction}
use Rattle.engine.specs.declared.Direction.TheVariants.{Decoding, Encoding}
use Rattle.codepage.specs.Lent.{over}
use Rattle.codepage.specs.Reading.{is_high}
use Rattle.codepage.proofs.ShapeLaws.{and_left, and_right}
use Rattle.convert.specs.declared.Pending.{Pending}
use Rattle.convert.specs.declared.Pending.TheVariants.{Nothing, Byte, High}
use Rattle.convert.specs.declared.Run.{Run}
use Rattle.convert.specs.declared.Outcome.{Outcome}
use Rattle.convert.specs.Runs.{piece_limit, valid_run, start_number}
use Rattle.convert.specs.declared.StartError.{StartError}
use Rattle.convert.specs.declared.StartError.TheVariants.{NotAllowed}
use Rattle.convert.specs.Calls.{number_of, check, refusal, Called, refused_call, run_call, Answered}
use Rattle.convert.proofs.CallLaws.{PendingIn, valid_in, valid_facts}
use Rattle.convert.proofs.RunLaws.{refused_same}
use Rattle.std.specs.Prelude.{Result}
use Rattle.checkpoint.specs.declared.Refusal.{Refusal}
use Rattle.checkpoint.specs.Line.{write_of, written_as, Saved, PendingFits, Representable}
use Rattle.capi.specs.declared.TillRun.{TillRun}
use Rattle.capi.specs.declared.TillOutcome.{TillOutcome}
use Rattle.capi.specs.declared.TillSaved.{TillSaved}
use Rattle.capi.specs.Interface.{direction_in, direction_out, is_pending, pending_in, pending_out, flag_out, is_run, run_on, run_in, run_out, TillCalled, called_out, till_refusal, till_refused, is_last, till_call, TillAnswered, page_named, answer_out, till_save, TillSavedAs}

-- ---- a run and its numbers
direction_returns : (n : ℕ) → n ≤ 1 → direction_out (direction_in n) ≡ n
direction_returns n h = by_test (eqb n 0) refl
  where
    by_test : (t : Bool) → eqb n 0 ≡ t → direction_out (pick t Decoding Encoding) ≡ n
    by_test true e = omega (arith, eqb-true n 0 e)
    by_test false e = omega (arith, eqb-false n 0 e, h)

pending_returns : (n : ℕ) → pending_out (pending_in n) ≡ n
pending_returns n = by_test (ltb n 256) (eqb n 256) refl
  where
    by_test : (t u : Bool) → eqb n 256 ≡ u → pending_out (pick t (Byte n) (pick u Nothing (High n))) ≡ n
    by_test true u e = refl
    by_test false true e = omega (arith, eqb-true n 256 e)
    by_test false false e = refl

ended_returns : (n : ℕ) → n ≤ 1 → flag_out (eqb n 1) ≡ n
ended_returns n h = by_test (eqb n 1) refl
  where
    by_test : (t : Bool) → eqb n 1 ≡ t → flag_out t ≡ n
    by_test true e = omega (arith, eqb-true n 1 e)
    by_test false e = omega (arith, eqb-false n 1 e, h)

-- THE NUMBERS OF A RUN return.
pub numbers_return : (run : TillRun) → is_run run ≡ true → run_out (run_in run) ≡ run
unfolding is_run run_on run_out
numbers_return run e =
    let rest = and_right (leb run.direction 1) _ e in
    rw (
      direction_returns run.direction (leb-true _ _ (and_left (leb run.direction 1) _ e)),
      pending_returns run.pending,
      ended_returns run.ended (leb-true _ _ (and_right (is_pending run.pending) _ rest)),
    )

-- EVERY RUN that the program can hold is the one that its numbers name, and its numbers are those of a run; where a unit is
-- pending, if it is a high surrogate, as the run rules ask.
abbrev pub HighPending : Pending → Type 0
HighPending Nothing = Unit {0}
HighPending (Byte byte) = Unit {0}
HighPending (High unit) = is_high unit ≡ true

direction_named : (d : Direction) → direction_in (direction_out d) ≡ d
direction_named Decoding = refl
direction_named Encoding = refl

high_large : (unit : ℕ) → is_high unit ≡ true → 256 < unit
unfolding is_high
high_large unit e = omega (arith, leb-true 0xD800 unit (and_left (leb 0xD800 unit) _ e))

pending_named : (p : Pending) → PendingFits p → HighPending p → pending_in (pending_out p) ≡ p
pending_named Nothing h i = refl
pending_named (Byte byte) h i = rw (lt-ltb byte 256 h)
pending_named (High unit) h i =
    let large : 256 < unit = high_large unit i in
    rw (le-ltb unit 256 (omega arith), ne_eqb unit 256 (λ z. omega arith))

ended_named : (t : Bool) → eqb (flag_out t) 1 ≡ t
ended_named true = refl
ended_named false = refl

direction_is : (d : Direction) → leb (direction_out d) 1 ≡ true
direction_is Decoding = refl
direction_is Encoding = refl

pending_is : (p : Pending) → PendingFits p → HighPending p → is_pending (pending_out p) ≡ true
unfolding is_pending
pending_is Nothing h i = refl
pending_is (Byte byte) h i = rw (le-leb byte 256 (omega (arith, h)))
pending_is (High unit) h i = rw (lt-leb unit 256 (high_large unit i), i)

ended_is : (t : Bool) → leb (flag_out t) 1 ≡ true
ended_is true = refl
ended_is false = refl

-- a run that the program can hold comes back from its numbers, and they name a run
pub run_returns : (run : Run) → Representable run → HighPending run.pending → (run_in (run_out run) ≡ run) × (is_run (run_out run) ≡ true)
unfolding is_run run_on run_out
run_returns run fits high = (
  rw (direction_named run.direction, pending_named run.pending fits.pending high, ended_named run.ended),
  rw (direction_is run.direction, pending_is run.pending fits.pending high, ended_is run.ended),
)

-- a run that keeps the rules
pub valid_high : (run : Run) → valid_run run ≡ true → HighPending run.pending
valid_high run v = by_pending run.direction run.pending (valid_in run run.direction refl (valid_facts run v))
  where
    by_pending : (direction : Direction) (pending : Pending) → PendingIn direction pending → HighPending pending
    by_pending direction Nothing i = tt
    by_pending direction (Byte byte) i = tt
    by_pending Decoding (High unit) i = absurd i
    by_pending Encoding (High unit) i = i

-- ---- run calls

-- the first two checks, made twice, are those made once
checked_once : (shape size : Bool) (next : ℕ) → check 10 shape (check 11 size (check 10 shape (check 11 size next))) ≡ check 10 shape (check 11 size next)
checked_once true true next = refl
checked_once true false next = refl
checked_once false size next = refl

module _ (direction : Direction) (run : TillRun) (p : CodePage) (piece : List ℕ) (last : ℕ) (before : List ℕ) where
  -- NUMBERS THAT NAME A RUN are refused as that run, with the same number.
  pub refusal_named : is_run run ≡ true → till_refusal direction run p (length piece) ≡ refusal direction (run_in run) p (length piece)
  unfolding till_refusal refusal
  refusal_named k = rw k (checked_once (is_good (first_fault p)) (leb (length piece) piece_limit) _)

  -- A CALL ON THEM gives what that run's call gives.
  pub call_named : is_run run ≡ true
      → till_call direction run p piece last (length before) ≡ called_out (run_call direction (run_in run) p piece (is_last last) (length before))
  unfolding till_call refused_call
  call_named k = rw (refusal_named k) (by_test (eqb (refusal direction (run_in run) p (length piece)) 0) refl)
    where
      given : TillCalled
      given = called_out (run_call direction (run_in run) p piece (is_last last) (length before))

      by_test : (t : Bool) → eqb (refusal direction (run_in run) p (length piece)) 0 ≡ t
          → pick t given (till_refused (refusal direction (run_in run) p (length piece)) run) ≡ given
      by_test true e = refl
      by_test false e = rw (refused_same direction (run_in run) p piece (is_last last) (length before) (eqb-false _ _ e), numbers_return run k)

  -- A REFUSED CALL gives back the numbers it was handed, reads nothing and writes nothing.
  pub refused_returns : (till_refusal direction run p (length piece) ≡ 0 → ⊥)
      → till_call direction run p piece last (length before) ≡ till_refused (till_refusal direction run p (length piece)) run
  unfolding till_call
  refused_returns h = rw (ne_eqb (till_refusal direction run p (length piece)) 0 h)

  -- numbers that name no run: the call is refused, as that of a run of page 0 is
  no_run : is_run run ≡ false → till_refusal direction run p (length piece) ≡ refusal direction (run_on 0 run) p (length piece)
  unfolding till_refusal refusal valid_run run_on
  no_run k = rw k

  no_run_refused : refusal direction (run_on 0 run) p (length piece) ≡ 0 → ⊥
  unfolding refusal valid_run run_on
  no_run_refused = never (is_good (first_fault p)) (leb (length piece) piece_limit)
    where
      never : (shape size : Bool) → check 10 shape (check 11 size 12) ≡ 0 → ⊥
      never true true e = omega arith
      never true false e = omega arith
      never false size e = omega arith

  -- the promise of a run call, from that of the call behind it
  pub call_answered : (inner : Run) (mark : Bool) (o : Outcome) (r : TillOutcome) (after : List ℕ) → inner ≡ run_on (page_named run) run → mark ≡ is_last last
      → Answered (run_call direction inner p piece mark (length before)) o before after → r ≡ answer_out run o → TillAnswered (till_call direction run p piece last (length before)) r before after
  unfolding answer_out refused_call
  call_answered inner mark o r after i m a e = rw e (by_test (is_run run) refl)
    where
      by_test : (t : Bool) → is_run run ≡ t
          → TillAnswered (till_call direction run p piece last (length before)) (record { run = pick t (run_out o.run) run; read = o.read; written = o.written; number = number_of o.answer }) before
          after
      by_test true k =
          rw (call_named k, ← m, ← rw k at i)
          (record { number = a.number; read = a.read; written = a.written; run = ap run_out a.run; lent = a.lent })
      by_test false k =
          let h : till_refusal direction run p (length piece) ≡ 0 → ⊥ = λ z. no_run_refused (sym (no_run k) ∙ z) in
          let b : Answered (refused_call (refusal direction (run_on 0 run) p (length piece)) (run_on 0 run)) o before after =
          subst (λ (x : Called). Answered x o before after)
          (ap (λ (x : Run). run_call direction x p piece mark (length before)) (rw k at i) ∙ refused_same direction (run_on 0 run) p piece mark (length before) no_run_refused) a in
          rw (refused_returns h, no_run k) (record { number = b.number; read = b.read; written = b.written; run = refl; lent = b.lent })

-- ---- starts

-- a start has one reason to be refused
pub start_refused : (why : StartError) → start_number why ≡ 17
start_refused NotAllowed = refl

-- ---- line writing
module _ (run : TillRun) (before : List ℕ) where
  -- line writing refuses numbers that name no run, and changes nothing
  pub refused_saved : (r : TillSaved) → is_run run ≡ false → r.number ≡ 12 → r.size ≡ 0 → TillSavedAs (till_save run (length before)) r before before
  unfolding till_save over
  refused_saved r k n s = rw k (record { number = n; size = s; lent = refl })

  -- line writing of numbers that name a run, from the promise of the call behind it
  pub line_saved : (inner : Run) (w : Result ℕ Refusal) (r : TillSaved) (after : List ℕ) → is_run run ≡ true → inner ≡ run_in run
      → Saved (write_of inner (length before)) w before after → r.number ≡ (written_as w).number → r.size ≡ (written_as w).size
      → TillSavedAs (till_save run (length before)) r before after
  unfolding till_save
  line_saved inner w r after k i a n s =
      rw (k, ← i) (record { number = n ∙ a.number; size = s ∙ a.size; lent = a.lent })
