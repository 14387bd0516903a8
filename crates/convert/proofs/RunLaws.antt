-- Every start and every accepted call gives a run that keeps the rules, and an accepted call with units and room reads.
use mathlib.Core.Bool.{Bool, true, false, not, ◌&&◌, ◌||◌, false≢true}
use mathlib.Core.List.{List, [], ◌∷◌, ◌++◌}
use mathlib.Core.Logic.{◌⊎◌, inl, inr}
use mathlib.Core.Path.{◌≡◌, refl, sym, ap, ◌∙◌, subst}
use Prim.Native.Nat.{ℕ, ◌+◌, ◌-◌, ◌*◌, ◌^◌, ◌<◌, ◌≤◌}
use native.Mathlib.Nat.{mul-zero}
use native.Mathlib.Omega.{arith}
use lib.Dec.{leb, ltb, eqb}
use lib.ListN.{length, get_or, length-append}
use lib.Bits.{bit_or, or_lt}
use borrow.Author.Tests.{eqb-true, eqb-false, ltb-true, leb-true, eq-eqb, ne_eqb, lt-ltb, le-leb}
use Rattle.codepage.specs.Reading.{is_high, as_units}
use Rattle.codepage.specs.CodePage.{CodePage, pick}
use Rattle.codepage.proofs.ShapeLaws.{and_left, and_right}
use Rattle.engine.specs.declared.Direction.{Direction}
use Rattle.engine.specs.declared.Direction.TheVariants.{Decoding, Encoding}
use Rattle.engine.specs.declared.Policy.{Policy}
use Rattle.convert.specs.declared.Pending.{Pending}
use Rattle.convert.specs.declared.Pending.TheVariants.{Nothing, Byte, High}
use Rattle.convert.specs.declared.Run.{Run}
use Rattle.engine.specs.Policies.{policy_allowed}
use Rattle.engine.specs.Engine.{Fed, limit}
use Rattle.convert.specs.Runs.{read_limit, most_written, pending_allowed, valid_run, fresh, start_of, written_limit}
use Rattle.convert.specs.Calls.{refusal, ReadsOrSettles, pending_unit, pending_count, pending_as, final_unit, units_read, pending_after, ended_after, run_after, fed_by, accepted_call, refused_call, run_call}
use Rattle.engine.specs.Engine.{converter_of}
use Rattle.engine.proofs.EngineLaws.{Shape}
use Rattle.engine.proofs.EncodeLaws.{encoder_high}
use Rattle.engine.proofs.BoundLaws.{Kept, kept_from, reads, widest, bounded_of}
use Rattle.convert.proofs.CallLaws.{valid_facts, valid_of, Accepted, accepted_facts, pending_units, valid_in, final_as, feed_shape, read_le}

-- ---- a start
-- AN ACCEPTED START gives a run that keeps the rules.
pub start_kept : (direction : Direction) (page : ℕ) (policy : Policy) → (start_of direction page policy).number ≡ 0 → valid_run (fresh direction page policy) ≡ true
unfolding start_of valid_run
start_kept direction page policy e = by_test (not (eqb page 0) && policy_allowed direction policy) refl e
  where
    by_test : (t : Bool) → (not (eqb page 0) && policy_allowed direction policy) ≡ t → (start_of direction page policy).number ≡ 0 → valid_run (fresh direction page policy) ≡ true
    by_test true q e = rw (and_left (not (eqb page 0)) (policy_allowed direction policy) q, and_right (not (eqb page 0)) (policy_allowed direction policy) q) (written direction)
      where
        written : (d : Direction) → (leb 0 (most_written d 0) && true) ≡ true
        written Decoding = refl
        written Encoding = refl
    by_test false q e = absurd (let z : ◌≡◌ {A = ℕ} 17 0 = sym (rw q) ∙ e in omega arith)

-- ---- an accepted call
-- what is pending leaves room for what it writes
pending_room : (pending : Pending) (direction : Direction) (ended : Bool) (written read : ℕ) → written ≤ most_written direction read → pending_allowed pending direction ended written read ≡ true
    → written + widest direction * pending_count pending ≤ most_written direction read
pending_room Nothing direction ended written read h e = omega (arith, mul-zero (widest direction))
pending_room (Byte byte) Decoding ended written read h e = omega (arith, ltb-true written read (and_right (not ended) _ e))
pending_room (Byte byte) Encoding ended written read h e = absurd (false≢true e)
pending_room (High unit) Decoding ended written read h e = absurd (false≢true e)
pending_room (High unit) Encoding ended written read h e = omega (arith, leb-true (written + 2) (2 * read) (and_right (not ended) _ (and_right (is_high unit) _ e)))

-- what stays pending keeps its rule where nothing else changes
pending_stays : (pending : Pending) (direction : Direction) (ended ended' : Bool) (written read written' read' : ℕ) → written' ≡ written → read' ≡ read → ended ≡ false → (1 ≤ pending_count pending → ended' ≡ false)
    → pending_allowed pending direction ended written read ≡ true → pending_allowed pending direction ended' written' read' ≡ true
pending_stays Nothing direction ended ended' written read written' read' w r g h e = refl
pending_stays (Byte byte) direction ended ended' written read written' read' w r g h e = rw (h (omega arith), w, r) (rw g at e)
pending_stays (High unit) direction ended ended' written read written' read' w r g h e = rw (h (omega arith), w, r) (rw g at e)

-- a unit that waits may be pending
waits_allowed : (direction : Direction) (p : CodePage) (policy : Policy) (unit : ℕ) (ended : Bool) (written read : ℕ) → (converter_of direction p policy).reader.waits unit ≡ true
    → ended ≡ false → written + widest direction ≤ most_written direction read → pending_allowed (pending_as direction unit) direction ended written read ≡ true
waits_allowed Decoding p policy unit ended written read w e h = rw (e, lt-ltb written read (omega arith))
waits_allowed Encoding p policy unit ended written read w e h = rw (encoder_high p.index p.blocks policy p.default_byte unit w, e, le-leb (written + 2) (2 * read) h)

stopped_or : (a b : Bool) → b ≡ true → (a || b) ≡ true
stopped_or true b e = refl
stopped_or false b e = e

or_first : (a b : Bool) → a ≡ true → (a || b) ≡ true
or_first true b e = refl
or_first false b e = absurd (false≢true e)

or_not : (a b : Bool) → (a || b) ≡ true → b ≡ false → a ≡ true
or_not true b e h = refl
or_not false b e h = absurd (false≢true (sym h ∙ e))

-- a unit is read, or one that was pending is used
read_first : (direction : Direction) (run : Run) (p : CodePage) (piece : List ℕ) (last : Bool) (room b : ℕ) (l : List ℕ) → piece ≡ b ∷ l → widest direction ≤ room
    → ((fed_by direction run p piece last room).answer ≡ 1) ⊎ (1 ≤ (fed_by direction run p piece last room).used)
unfolding fed_by
read_first direction run p piece last room b l e w =
    rw e (reads (widest direction) (converter_of direction p run.policy) (bounded_of direction p run.policy) last room (pending_unit run.pending) b l w)

module _ (direction : Direction) (run : Run) (p : CodePage) (piece : List ℕ) (last : Bool) (room : ℕ) (a : Accepted direction run p (length piece)) where
  f : Fed
  f = fed_by direction run p piece last room

  kept : Kept (widest direction) f
  unfolding f fed_by
  kept = kept_from (widest direction) (converter_of direction p run.policy) (bounded_of direction p run.policy) last (limit room) (pending_unit run.pending) piece

  formed : Shape (converter_of direction p run.policy) last (as_units (pending_unit run.pending) ++ piece) f
  unfolding f
  formed = feed_shape direction run p piece last room a

  units : length (as_units (pending_unit run.pending) ++ piece) ≡ pending_count run.pending + length piece
  units = length-append (as_units (pending_unit run.pending)) piece

  abbrev read' : ℕ
  read' = units_read run.pending (length piece) f.answer f.used

  -- what is read, in each case
  read_all : f.answer ≡ 1 → read' ≡ length piece
  unfolding units_read
  read_all e = rw (eq-eqb _ _ e)

  read_used : (f.answer ≡ 1 → ⊥) → read' ≡ f.used - pending_count run.pending
  unfolding units_read
  read_used e = rw (ne_eqb _ _ e)

  flags_kept : bit_or run.flags f.flags ≤ 15
  flags_kept = omega (arith, or_lt 4 run.flags f.flags (omega (arith, a.valid.flags)) kept.flags)

  stopped_kept : (t : Bool) → eqb f.answer 3 ≡ t → (ltb (bit_or run.flags f.flags) 8 || ended_after last f.answer) ≡ true
  unfolding ended_after
  stopped_kept true e = stopped_or (ltb (bit_or run.flags f.flags) 8) _ (rw e)
  stopped_kept false e =
      let before : run.flags < 2 ^ 3 = ltb-true run.flags 8 (or_not (ltb run.flags 8) run.ended a.valid.stopped a.going) in
      or_first (ltb (bit_or run.flags f.flags) 8) _ (lt-ltb _ _ (or_lt 3 run.flags f.flags before (kept.low (eqb-false _ _ e))))

  -- what is written stays within what is read, and where a unit waits there is room for what it writes
  within : run.written + widest run.direction * pending_count run.pending ≤ most_written run.direction run.read
  within = pending_room run.pending run.direction run.ended run.written run.read a.valid.written a.valid.pending

  output_le : length f.output ≤ widest run.direction * f.used
  output_le = subst (λ (d : Direction). length f.output ≤ widest d * f.used) a.same kept.output

  written_waits : f.answer ≡ 1 → run.written + length f.output + widest run.direction ≤ most_written run.direction (run.read + read')
  written_waits q = by_direction run.direction within output_le
    where
      by_direction : (d : Direction) → run.written + widest d * pending_count run.pending ≤ most_written d run.read → length f.output ≤ widest d * f.used
          → run.written + length f.output + widest d ≤ most_written d (run.read + read')
      by_direction Decoding h o = omega (arith, read_all q, (formed.holds q).0, units)
      by_direction Encoding h o = omega (arith, read_all q, (formed.holds q).0, units)

  written_goes : (f.answer ≡ 1 → ⊥) → run.written + length f.output ≤ most_written run.direction (run.read + read')
  written_goes n = by_direction run.direction within output_le
    where
      by_direction : (d : Direction) → run.written + widest d * pending_count run.pending ≤ most_written d run.read → length f.output ≤ widest d * f.used
          → run.written + length f.output ≤ most_written d (run.read + read')
      by_direction Decoding h o = omega (arith, read_used n)
      by_direction Encoding h o = omega (arith, read_used n)

  written_kept : run.written + length f.output ≤ most_written run.direction (run.read + read')
  written_kept = by_answer (eqb f.answer 1) refl
    where
      by_answer : (t : Bool) → eqb f.answer 1 ≡ t → run.written + length f.output ≤ most_written run.direction (run.read + read')
      by_answer true q = omega (arith, written_waits (eqb-true _ _ q))
      by_answer false q = written_goes (eqb-false _ _ q)

  -- what is pending keeps its rule
  abbrev PendingKept : Pending → Type 0
  PendingKept pending = pending_allowed pending run.direction (ended_after last f.answer) (run.written + length f.output) (run.read + read') ≡ true

  waits_kept : f.answer ≡ 1 → PendingKept (final_unit run.direction run.pending piece)
  unfolding ended_after
  waits_kept q =
      let unit : ℕ = get_or (pending_units run.pending ++ piece) f.used 0 in
      let final : final_unit run.direction run.pending piece ≡ pending_as run.direction unit =
      final_as run.direction run.pending piece f.used (valid_in run run.direction refl a.valid) (formed.holds q).0 in
      let waits : (converter_of run.direction p run.policy).reader.waits unit ≡ true =
      subst (λ (d : Direction). (converter_of d p run.policy).reader.waits unit ≡ true) a.same (formed.holds q).1 in
      subst PendingKept (sym final)
      (waits_allowed run.direction p run.policy unit (ended_after last f.answer) (run.written + length f.output) (run.read + read') waits
      (rw (ne_eqb f.answer 3 (λ z. omega arith), ne_eqb f.answer 0 (λ z. omega arith))) (written_waits q))

  not_ended : f.used ≡ 0 → 1 ≤ pending_count run.pending → ended_after last f.answer ≡ false
  unfolding ended_after
  not_ended q h =
      rw (ne_eqb f.answer 3 (λ z. omega (arith, formed.reads z)), ne_eqb f.answer 0 (λ z. omega (arith, formed.all z, units)))

  pending_same : (f.answer ≡ 1 → ⊥) → f.used ≡ 0 → PendingKept run.pending
  pending_same n q =
      pending_stays run.pending run.direction run.ended (ended_after last f.answer) run.written run.read (run.written + length f.output) (run.read + read')
      (omega (arith, no_output)) (omega (arith, read_used n)) a.going (not_ended q) a.valid.pending
    where
      no_output : length f.output ≡ 0
      no_output = omega (arith, kept.output, ap (λ (u : ℕ). widest direction * u) q, mul-zero (widest direction))

  pending_kept : (t₁ t₂ : Bool) → eqb f.answer 1 ≡ t₁ → eqb f.used 0 ≡ t₂ → PendingKept (pending_after run.direction run.pending piece f.answer f.used)
  unfolding pending_after
  pending_kept true t₂ e₁ e₂ = rw e₁ (waits_kept (eqb-true _ _ e₁))
  pending_kept false true e₁ e₂ = rw (e₁, e₂) (pending_same (eqb-false _ _ e₁) (eqb-true _ _ e₂))
  pending_kept false false e₁ e₂ = rw (e₁, e₂)

  read_kept : run.read + read' ≤ read_limit
  unfolding f
  read_kept = omega (arith, a.total, read_le run.pending (length piece) f.answer f.used (omega (arith, formed.within, units)))

  accepted_kept : valid_run (accepted_call run piece last f).run ≡ true
  unfolding accepted_call run_after
  accepted_kept =
      valid_of (accepted_call run piece last f).run
      (record {
        page = a.valid.page;
        policy = a.valid.policy;
        flags = flags_kept;
        read = read_kept;
        written = written_kept;
        stopped = stopped_kept (eqb f.answer 3) refl;
        pending = pending_kept (eqb f.answer 1) (eqb f.used 0) refl refl;
      })

  -- the reading promise
  reads_some : 1 ≤ length piece → widest direction ≤ room → ReadsOrSettles read' run.pending (pending_after run.direction run.pending piece f.answer f.used)
  unfolding f
  reads_some h w = by_case (some_read piece refl h)
    where
      some_read : (l : List ℕ) → piece ≡ l → 1 ≤ length l → (f.answer ≡ 1) ⊎ (1 ≤ f.used)
      some_read [] e q = absurd (omega arith)
      some_read (b ∷ l) e q = read_first direction run p piece last room b l e w

      settles : (f.answer ≡ 1 → ⊥) → 1 ≤ f.used → pending_after run.direction run.pending piece f.answer f.used ≡ Nothing
      settles n u = unfold pending_after in rw (ne_eqb f.answer 1 n, ne_eqb f.used 0 (λ z. omega arith))

      some_pending : ◌≡◌ {A = ℕ} 1 0 → ⊥
      some_pending z = omega arith

      by_answer : 1 ≤ f.used → (t : Bool) → eqb f.answer 1 ≡ t → (pending : Pending) → run.pending ≡ pending
          → ReadsOrSettles read' run.pending (pending_after run.direction run.pending piece f.answer f.used)
      by_answer u true q pending e = inl (omega (arith, read_all (eqb-true _ _ q)))
      by_answer u false q Nothing e = inl (omega (arith, read_used (eqb-false _ _ q), ap pending_count e))
      by_answer u false q (Byte byte) e = inr (λ z. some_pending (ap pending_count (sym e ∙ z)), settles (eqb-false _ _ q) u)
      by_answer u false q (High unit) e = inr (λ z. some_pending (ap pending_count (sym e ∙ z)), settles (eqb-false _ _ q) u)

      by_case : (f.answer ≡ 1) ⊎ (1 ≤ f.used) → ReadsOrSettles read' run.pending (pending_after run.direction run.pending piece f.answer f.used)
      by_case (inl e) = inl (omega (arith, read_all e))
      by_case (inr u) = by_answer u (eqb f.answer 1) refl run.pending refl

-- EVERY ACCEPTED CALL gives a run that keeps the rules; a refused one gives back the run it was handed.
pub call_kept : (direction : Direction) (run : Run) (p : CodePage) (piece : List ℕ) (last : Bool) (room : ℕ) → refusal direction run p (length piece) ≡ 0
    → valid_run (run_call direction run p piece last room).run ≡ true
unfolding run_call f
call_kept direction run p piece last room e =
    rw (eq-eqb (refusal direction run p (length piece)) 0 e) (accepted_kept direction run p piece last room (accepted_facts direction run p (length piece) e))

-- A call with a refusal is the refused call: the run it was handed, nothing read, nothing written.
pub refused_same : (direction : Direction) (run : Run) (p : CodePage) (piece : List ℕ) (last : Bool) (room : ℕ) → (refusal direction run p (length piece) ≡ 0 → ⊥)
    → run_call direction run p piece last room ≡ refused_call (refusal direction run p (length piece)) run
unfolding run_call
refused_same direction run p piece last room e = rw (ne_eqb (refusal direction run p (length piece)) 0 e)

-- A RUN GOES ON UNDER ITS OWN DIGITS: no call changes them, whatever the standard policy is (CR 4).
pub policy_stays : (direction : Direction) (run : Run) (p : CodePage) (piece : List ℕ) (last : Bool) (room : ℕ) → (run_call direction run p piece last room).run.policy ≡ run.policy
unfolding run_call accepted_call refused_call run_after
policy_stays direction run p piece last room = by_test (eqb (refusal direction run p (length piece)) 0)
  where
    by_test : (t : Bool)
        → (pick t (accepted_call run piece last (fed_by direction run p piece last room)) (refused_call (refusal direction run p (length piece)) run)).run.policy ≡ run.policy
    by_test true = refl
    by_test false = refl

-- TOTALS NEVER OVERFLOW: those of a run that keeps the rules fit 64 bits.
pub totals_fit : (run : Run) → valid_run run ≡ true → (run.read ≤ read_limit) × (run.written ≤ written_limit)
totals_fit run e = ((valid_facts run e).read, by_direction run.direction (valid_facts run e).written)
  where
    by_direction : (d : Direction) → run.written ≤ most_written d run.read → run.written ≤ written_limit
    by_direction Decoding h = omega (arith, (valid_facts run e).read)
    by_direction Encoding h = omega (arith, (valid_facts run e).read)

-- THE READING PROMISE: with a non_empty input and room for one unit (decoding) or two bytes (encoding), an accepted call reads
-- a unit of input or settles the pending one. (CR 2)
pub reading_promise : (direction : Direction) (run : Run) (p : CodePage) (piece : List ℕ) (last : Bool) (room : ℕ) → refusal direction run p (length piece) ≡ 0
    → 1 ≤ length piece → widest direction ≤ room → ReadsOrSettles (run_call direction run p piece last room).read run.pending (run_call direction run p piece last room).run.pending
unfolding run_call f accepted_call run_after
reading_promise direction run p piece last room e h w =
    rw (eq-eqb (refusal direction run p (length piece)) 0 e) (reads_some direction run p piece last room (accepted_facts direction run p (length piece) e) h w)
