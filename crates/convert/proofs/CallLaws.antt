-- Laws of a run call.
use mathlib.Core.Bool.{Bool, true, false, not, ◌&&◌, ◌||◌, false≢true}
use mathlib.Core.List.{List, [], ◌∷◌, ◌++◌, map}
use mathlib.Core.Option.{Option, some}
use mathlib.Core.Path.{◌≡◌, refl, sym, ap, ◌∙◌, subst}
use Prim.Native.Nat.{ℕ, suc, ◌+◌, ◌-◌, ◌*◌, ◌^◌, ◌<◌, ◌≤◌}
use native.Mathlib.Omega.{arith}
use lib.Dec.{leb, ltb, eqb}
use lib.ListN.{length, get_or, length-append, get_or-eq_default}
use Rattle.codepage.specs.CodePage.{CodePage, pick, entry_at, is_lead, GoodShape, first_fault, is_good}
use Rattle.codepage.specs.Reading.{is_high, decoder, encoder, as_units}
use Rattle.codepage.proofs.ShapeLaws.{shape_exact, and_left, and_right}
use Rattle.engine.specs.declared.Direction.{Direction}
use Rattle.engine.specs.declared.Direction.TheVariants.{Decoding, Encoding}
use Rattle.convert.specs.declared.Outcome.{Outcome}
use Rattle.engine.specs.declared.progress.Progress.{Progress}
use Rattle.convert.specs.declared.Pending.{Pending}
use Rattle.convert.specs.declared.Pending.TheVariants.{Nothing, Byte, High}
use Rattle.engine.specs.declared.Policy.{Policy}
use Rattle.convert.specs.declared.Run.{Run}
use borrow.Author.Tests.{eqb-true, eqb-false, leb-true, ltb-true, ltb-false, eq-eqb, ne_eqb, le-leb, not-true}
use Rattle.engine.specs.Policies.{policy_allowed}
use Rattle.convert.specs.Runs.{piece_limit, read_limit, most_written, pending_allowed, valid_run}
use Rattle.engine.specs.Engine.{Converter, converter, limit, Fed, feed_from}
use Rattle.convert.specs.Calls.{refusal_number, number_of, same_direction, lead_in, check, refusal, pending_unit, pending_count, pending_as, final_unit, units_read, pending_after, ended_after, run_after, fed_by, accepted_call, refused_call, run_call, Answered}
use Rattle.codepage.specs.Lent.{over}
use Rattle.engine.specs.Engine.{converter_of}
use Rattle.convert.specs.Steps.{pending_byte, pending_high, run_refusal, rest_refusal, Finished, refused_outcome}
use Rattle.std.specs.Prelude.{Some, slice_get}
use Rattle.std.proofs.lemmas.List.{length-map}
use Rattle.engine.proofs.BoundLaws.{kept_from, widest, bounded_of}
use Rattle.convert.specs.declared.Answer.{Answer}
use Rattle.convert.specs.declared.Answer.TheVariants.{AllRead, UnitPending, OutputFull, Stopped, Refused}
use Rattle.convert.specs.declared.Refusal.{Refusal}
use Rattle.convert.specs.declared.Refusal.TheVariants.{BadShape, PieceTooLong, InvalidRun, OtherRun, PendingNotLead, RunEnded, ReadLimit}
use Rattle.engine.specs.Steps.{summary}
use Rattle.engine.specs.Pending.{waiting}
use Rattle.engine.proofs.EngineLaws.{Waits, Shape, shape_from}

-- ---- the final unit
module _ (direction : Direction) where
  final_at : (pending : Pending) (a : ℕ) (l : List ℕ) → pending_as direction (get_or (a ∷ l) (length l) 0) ≡ final_unit direction pending (a ∷ l)
  final_at pending a [] = refl
  final_at pending a (b ∷ l) = final_at (pending_as direction a) b l

  last_at : {A : Type 0} (unit : A → ℕ) (pending : Pending) (a : A) (l : List A) (x : A) → slice_get (a ∷ l) (length l) ≡ Some x → pending_as direction (unit x) ≡ final_unit direction pending (map unit (a ∷ l))
  last_at {A} unit pending a [] x e = let z : a ≡ x = cc in ap (λ (y : A). pending_as direction (unit y)) (sym z)
  last_at unit pending a (b ∷ l) x e = last_at unit (pending_as direction (unit a)) b l x e

  -- the final unit of a piece that has a last one, of units of any type
  pub final_last : {A : Type 0} (unit : A → ℕ) (pending : Pending) (piece : List A) (units : List ℕ) → map unit piece ≡ units → (x : A) → slice_get piece (length piece - 1) ≡ Some x
      → pending_as direction (unit x) ≡ final_unit direction pending units
  final_last unit pending [] units m x e = cc
  final_last unit pending (a ∷ l) units m x e =
      let z : suc (length l) - 1 ≡ length l = omega arith in
      last_at unit pending a l x (sym (ap (slice_get (a ∷ l)) z) ∙ e) ∙ ap (final_unit direction pending) m

-- units as numbers are as many
pub units_count : {A : Type 0} (unit : A → ℕ) (piece : List A) (units : List ℕ) → map unit piece ≡ units → length units ≡ length piece
units_count unit piece units m = sym (ap length m) ∙ length-map piece unit

-- ---- what is read is of the piece
-- a call reads no more units than the piece has
pub read_le : (pending : Pending) (count answer used : ℕ) → used ≤ pending_count pending + count → units_read pending count answer used ≤ count
unfolding units_read
read_le pending count answer used h = by_answer (eqb answer 1)
  where
    by_answer : (b : Bool) → pick b count (used - pending_count pending) ≤ count
    by_answer true = omega arith
    by_answer false = omega arith

-- ---- what a valid run is
-- the facts behind the run rules
pub record Valid (run : Run) : Type 0 where
  pub page : run.page ≡ 0 → ⊥
  pub policy : policy_allowed run.direction run.policy ≡ true
  pub flags : run.flags ≤ 15
  pub read : run.read ≤ read_limit
  pub written : run.written ≤ most_written run.direction run.read
  pub stopped : (ltb run.flags 8 || run.ended) ≡ true
  pub pending : pending_allowed run.pending run.direction run.ended run.written run.read ≡ true

-- a run that passes the test keeps each rule
pub valid_facts : (run : Run) → valid_run run ≡ true → Valid run
unfolding valid_run
valid_facts run e =
    let e₁ = and_right (not (eqb run.page 0)) _ e in
    let e₂ = and_right (policy_allowed run.direction run.policy) _ e₁ in
    let e₃ = and_right (leb run.flags 15) _ e₂ in
    let e₄ = and_right (leb run.read read_limit) _ e₃ in
    let e₅ = and_right (leb run.written (most_written run.direction run.read)) _ e₄ in
    let e₆ = and_right (ltb run.flags 8 || run.ended) _ e₅ in
    record {
      page = eqb-false _ _ (not-true _ (and_left _ _ e));
      policy = and_left _ _ e₁;
      flags = leb-true _ _ (and_left _ _ e₂);
      read = leb-true _ _ (and_left _ _ e₃);
      written = leb-true _ _ (and_left _ _ e₄);
      stopped = and_left _ _ e₅;
      pending = and_left _ _ e₆;
    }

-- a run that keeps each rule passes the test
pub valid_of : (run : Run) → Valid run → valid_run run ≡ true
unfolding valid_run
valid_of run v =
    rw (
      ne_eqb _ _ v.page,
      v.policy,
      le-leb _ _ v.flags,
      le-leb _ _ v.read,
      le-leb _ _ v.written,
      v.stopped,
      v.pending,
    )

-- a run that keeps the rules has read no more than the limit
pub valid_read : (run : Run) → valid_run run ≡ true → run.read ≤ read_limit
valid_read run e = (valid_facts run e).read

-- ---- what an accepted call may rely on
-- What checks 10 to 16 say of a call that none of them refuses.
pub record Accepted (direction : Direction) (run : Run) (p : CodePage) (count : ℕ) : Type 0 where
  pub good : GoodShape p
  pub short : count ≤ piece_limit
  pub valid : Valid run
  pub same : direction ≡ run.direction
  pub page : run.page ≡ p.page
  pub lead : lead_in p.classes run.pending ≡ true
  pub going : run.ended ≡ false
  pub total : run.read + count ≤ read_limit

-- directions that the test finds the same are equal
pub same_direction_lem : (a b : Direction) → same_direction a b ≡ true → a ≡ b
same_direction_lem Decoding Decoding e = refl
same_direction_lem Decoding Encoding e = absurd (false≢true e)
same_direction_lem Encoding Decoding e = absurd (false≢true e)
same_direction_lem Encoding Encoding e = refl

passed : (number : ℕ) (holds : Bool) (next : ℕ) → (number ≡ 0 → ⊥) → check number holds next ≡ 0 → (holds ≡ true) × (next ≡ 0)
passed number true next h e = (refl, e)
passed number false next h e = absurd (h e)

-- A call that no check refuses: what each of the seven checks says.
pub accepted_facts : (direction : Direction) (run : Run) (p : CodePage) (count : ℕ) → refusal direction run p count ≡ 0 → Accepted direction run p count
unfolding refusal
accepted_facts direction run p count e =
    let e₁ = passed 10 (is_good (first_fault p)) _ (λ z. omega arith) e in
    let e₂ = passed 11 (leb count piece_limit) _ (λ z. omega arith) e₁.1 in
    let e₃ = passed 12 (valid_run run) _ (λ z. omega arith) e₂.1 in
    let e₄ = passed 13 (same_direction direction run.direction && eqb run.page p.page) _ (λ z. omega arith) e₃.1 in
    let e₅ = passed 14 (lead_in p.classes run.pending) _ (λ z. omega arith) e₄.1 in
    let e₆ = passed 15 (not run.ended) _ (λ z. omega arith) e₅.1 in
    let e₇ = passed 16 (leb (run.read + count) read_limit) _ (λ z. omega arith) e₆.1 in
    record {
      good = (shape_exact p).0 e₁.0;
      short = leb-true _ _ e₂.0;
      valid = valid_facts run e₃.0;
      same = same_direction_lem direction run.direction (and_left _ _ e₄.0);
      page = eqb-true _ _ (and_right (same_direction direction run.direction) _ e₄.0);
      lead = e₅.0;
      going = not-true _ e₆.0;
      total = leb-true _ _ e₇.0;
    }

-- a refusal's number is one of 10 to 16
pub record Named (number : ℕ) : Type 0 where
  pub low : 10 ≤ number
  pub high : number ≤ 16

named_check : (number : ℕ) (holds : Bool) (next : ℕ) → 10 ≤ number → number ≤ 16 → ((next ≡ 0 → ⊥) → Named next) → (check number holds next ≡ 0 → ⊥) → Named (check number holds next)
named_check number true next l h rest ne = rest ne
named_check number false next l h rest ne = record { low = l; high = h }

-- the number of a refusal is one of 10 to 16
pub refusal_named : (direction : Direction) (run : Run) (p : CodePage) (count : ℕ) → (refusal direction run p count ≡ 0 → ⊥) → Named (refusal direction run p count)
unfolding refusal
refusal_named direction run p count =
    named_check 10 (is_good (first_fault p)) _ (omega arith) (omega arith)
    (named_check 11 (leb count piece_limit) _ (omega arith) (omega arith)
    (named_check 12 (valid_run run) _ (omega arith) (omega arith)
    (named_check 13 (same_direction direction run.direction && eqb run.page p.page) _ (omega arith) (omega arith)
    (named_check 14 (lead_in p.classes run.pending) _ (omega arith) (omega arith)
    (named_check 15 (not run.ended) _ (omega arith) (omega arith)
    (named_check 16 (leb (run.read + count) read_limit) _ (omega arith) (omega arith)
    (λ ne. absurd (ne refl))))))))

-- a refusal's number is at least 10
pub number_from : (refusal' : Refusal) → 10 ≤ refusal_number refusal'
number_from BadShape = omega arith
number_from PieceTooLong = omega arith
number_from InvalidRun = omega arith
number_from OtherRun = omega arith
number_from PendingNotLead = omega arith
number_from RunEnded = omega arith
number_from ReadLimit = omega arith

-- an answer that is neither a stop nor that all was read ends no run
pub ended_no : (last : Bool) (a : Answer) → (a ≡ Stopped → ⊥) → (a ≡ AllRead → ⊥) → false ≡ ended_after last (number_of a)
unfolding ended_after
ended_no last AllRead n m = absurd (m refl)
ended_no last UnitPending n m = refl
ended_no last OutputFull n m = refl
ended_no last Stopped n m = absurd (n refl)
ended_no last (Refused refusal') n m =
    rw (ne_eqb (refusal_number refusal') 3 (λ z. omega (arith, number_from refusal')), ne_eqb (refusal_number refusal') 0 (λ z. omega (arith, number_from refusal')))

-- where checks 11 to 13 pass, the piece is within its limit and the run keeps the rules
pub run_passes : (direction : Direction) (run : Run) (page count : ℕ) → run_refusal direction run page count ≡ 0 → (count ≤ piece_limit) × (valid_run run ≡ true)
run_passes direction run page count e =
    let e₁ = passed 11 (leb count piece_limit) _ (λ z. omega arith) e in
    (leb-true _ _ e₁.0, (passed 12 (valid_run run) _ (λ z. omega arith) e₁.1).0)

-- ---- what is pending
-- a pending unit or none, as a list
abbrev pub pending_units : Pending → List ℕ
pending_units pending = as_units (pending_unit pending)

-- at most one unit is pending
pub count_le_one : (pending : Pending) → pending_count pending ≤ 1
count_le_one Nothing = omega arith
count_le_one (Byte byte) = omega arith
count_le_one (High unit) = omega arith

-- the final unit is the last of what is pending and the piece
final_place : (pending : Pending) (a : ℕ) (piece : List ℕ) (n : ℕ) → n + 1 ≡ length (pending_units pending ++ (a ∷ piece)) → get_or (a ∷ piece) (length piece) 0 ≡ get_or (pending_units pending ++ (a ∷ piece)) n 0
final_place Nothing a piece n h = let z : n ≡ length piece = omega arith in rw z
final_place (Byte byte) a piece n h = let z : n ≡ suc (length piece) = omega arith in rw z
final_place (High unit) a piece n h = let z : n ≡ suc (length piece) = omega arith in rw z

unit_as : (direction : Direction) (unit : ℕ) → pending_unit (pending_as direction unit) ≡ some unit
unit_as Decoding unit = refl
unit_as Encoding unit = refl

-- the final unit, of what is pending and the piece as one list, is the unit at the last index
pub final_unit_lem : (direction : Direction) (pending : Pending) (piece : List ℕ) (n : ℕ) → n + 1 ≡ length (pending_units pending ++ piece)
    → pending_unit (final_unit direction pending piece) ≡ some (get_or (pending_units pending ++ piece) n 0)
final_unit_lem direction Nothing [] n h = absurd (omega arith)
final_unit_lem direction (Byte byte) [] n h = let z : n ≡ 0 = omega arith in rw z
final_unit_lem direction (High unit) [] n h = let z : n ≡ 0 = omega arith in rw z
final_unit_lem direction pending (a ∷ piece) n h =
    ap pending_unit (sym (final_at direction pending a piece)) ∙ unit_as direction (get_or (a ∷ piece) (length piece) 0) ∙ ap some (final_place pending a piece n h)

-- what is pending is of the direction: a byte in decoding, a high surrogate in encoding
abbrev pub PendingIn : Direction → Pending → Type 0
PendingIn direction Nothing = Prim.Unit {0}
PendingIn Decoding (Byte byte) = Prim.Unit {0}
PendingIn Encoding (Byte byte) = ⊥
PendingIn Decoding (High unit) = ⊥
PendingIn Encoding (High unit) = is_high unit ≡ true

pub allowed_in : (pending : Pending) (direction : Direction) (ended : Bool) (written read : ℕ) → pending_allowed pending direction ended written read ≡ true → PendingIn direction pending
allowed_in Nothing direction ended written read e = tt
allowed_in (Byte byte) Decoding ended written read e = tt
allowed_in (Byte byte) Encoding ended written read e = false≢true e
allowed_in (High unit) Decoding ended written read e = false≢true e
allowed_in (High unit) Encoding ended written read e = and_left (is_high unit) _ e

-- what is pending in a run that keeps the rules is of the run's direction
pub valid_in : (run : Run) (direction : Direction) → direction ≡ run.direction → Valid run → PendingIn direction run.pending
valid_in run direction e v = subst (λ (d : Direction). PendingIn d run.pending) (sym e) (allowed_in run.pending run.direction run.ended run.written run.read v.pending)

-- the final unit as what is pending
pub final_as : (direction : Direction) (pending : Pending) (piece : List ℕ) (n : ℕ) → PendingIn direction pending → n + 1 ≡ length (pending_units pending ++ piece)
    → final_unit direction pending piece ≡ pending_as direction (get_or (pending_units pending ++ piece) n 0)
final_as direction Nothing [] n i h = absurd (omega arith)
final_as Decoding (Byte byte) [] n i h = let z : n ≡ 0 = omega arith in rw z
final_as Encoding (Byte byte) [] n i h = absurd i
final_as Decoding (High unit) [] n i h = absurd i
final_as Encoding (High unit) [] n i h = let z : n ≡ 0 = omega arith in rw z
final_as direction pending (a ∷ piece) n i h = sym (final_at direction pending a piece) ∙ ap (pending_as direction) (final_place pending a piece n h)

-- ---- what a call feeds
-- what is pending, as the loops take it
pub byte_waits : (pending : Pending) → PendingIn Decoding pending → waiting (pending_byte pending) ≡ pending_unit pending
byte_waits Nothing i = refl
byte_waits (Byte byte) i = refl
byte_waits (High unit) i = absurd i

pub high_waits : (pending : Pending) → PendingIn Encoding pending → waiting (pending_high pending) ≡ pending_unit pending
high_waits Nothing i = refl
high_waits (Byte byte) i = absurd i
high_waits (High unit) i = refl

-- a pending byte is a lead
pub byte_leads : (classes : List ℕ) (pending : Pending) → lead_in classes pending ≡ true → (lead : ℕ) → pending_byte pending ≡ Some lead → is_lead (entry_at classes lead) ≡ true
byte_leads classes Nothing e lead q = cc
byte_leads classes (Byte byte) e lead q = let z : byte ≡ lead = cc in subst (λ (b : ℕ). is_lead (entry_at classes b) ≡ true) z e
byte_leads classes (High unit) e lead q = cc

-- a pending unit is a high surrogate
pub high_is : (pending : Pending) → PendingIn Encoding pending → (high : ℕ) → pending_high pending ≡ Some high → is_high high ≡ true
high_is Nothing i high q = cc
high_is (Byte byte) i high q = absurd i
high_is (High unit) i high q = let z : unit ≡ high = cc in subst (λ (u : ℕ). is_high u ≡ true) z i

decode_waits : (p : CodePage) (policy : Policy) (pending : Pending) → PendingIn Decoding pending → lead_in p.classes pending ≡ true → Waits (converter_of Decoding p policy) (pending_unit pending)
unfolding converter decoder
decode_waits p policy Nothing i e = tt
decode_waits p policy (Byte byte) i e = e
decode_waits p policy (High unit) i e = absurd i

encode_waits : (p : CodePage) (policy : Policy) (pending : Pending) → PendingIn Encoding pending → Waits (converter_of Encoding p policy) (pending_unit pending)
unfolding converter encoder
encode_waits p policy Nothing i = tt
encode_waits p policy (Byte byte) i = absurd i
encode_waits p policy (High unit) i = i

pub call_in : (direction : Direction) (run : Run) (p : CodePage) (count : ℕ) → Accepted direction run p count → PendingIn direction run.pending
call_in direction run p count a = valid_in run direction a.same a.valid

pub call_waits : (direction : Direction) (run : Run) (p : CodePage) (count : ℕ) → Accepted direction run p count → Waits (converter_of direction p run.policy) (pending_unit run.pending)
call_waits Decoding run p count a = decode_waits p run.policy run.pending (call_in Decoding run p count a) a.lead
call_waits Encoding run p count a = encode_waits p run.policy run.pending (call_in Encoding run p count a)

-- What each answer of an accepted call says of the units it used, the pending one among them (`Shape`, of the engine).
pub feed_shape : (direction : Direction) (run : Run) (p : CodePage) (piece : List ℕ) (last : Bool) (room : ℕ) → Accepted direction run p (length piece)
    → Shape (converter_of direction p run.policy) last (as_units (pending_unit run.pending) ++ piece) (fed_by direction run p piece last room)
unfolding fed_by
feed_shape direction run p piece last room a = shape_from (converter_of direction p run.policy) last (limit room) (pending_unit run.pending) piece (call_waits direction run p (length piece) a)

-- ---- the result
-- in both directions no more than twice read is written
pub most_twice : (direction : Direction) (read : ℕ) → most_written direction read ≤ 2 * read
most_twice Decoding read = omega arith
most_twice Encoding read = omega arith

module _ (direction : Direction) (run : Run) (p : CodePage) (piece : List ℕ) (last : Bool) (before : List ℕ) where
  pub used_le : Accepted direction run p (length piece) → (fed_by direction run p piece last (length before)).used ≤ pending_count run.pending + length piece
  used_le a = omega (arith, (feed_shape direction run p piece last (length before) a).within, length-append (as_units (pending_unit run.pending)) piece)

  -- what `accepted` requires: an answer of 0 to 3, and totals that fit their numbers
  pub finish_needs : (count : ℕ) (s : Progress) → length piece ≡ count → refusal direction run p (length piece) ≡ 0 → s ≡ summary (fed_by direction run p piece last (length before))
      → (s.answer ≤ 3) × ((s.used ≤ pending_count run.pending + count) × (run.read + count ≤ read_limit) × (run.written + s.written < 2 ^ 64))
  unfolding summary fed_by
  finish_needs count s n z e =
      let a = accepted_facts direction run p (length piece) z in (
        omega (arith, ap (λ (v : Progress). v.answer) e, (feed_shape direction run p piece last (length before) a).known),
        (
          omega (arith, ap (λ (v : Progress). v.used) e, used_le a),
          omega (arith, a.total),
          omega (
            arith,
            ap (λ (v : Progress). v.written) e,
            output_le,
            used_le a,
            a.short,
            count_le_one run.pending,
            a.valid.written,
            a.valid.read,
            most_twice run.direction run.read,
          ),
        ),
      )
    where
      twice : (d : Direction) (k n : ℕ) → k ≤ widest d * n → k ≤ 2 * n
      twice Decoding k n h = omega arith
      twice Encoding k n h = omega arith

      output_le : length (fed_by direction run p piece last (length before)).output ≤ 2 * (fed_by direction run p piece last (length before)).used
      output_le = twice direction _ _ (kept_from (widest direction) (converter_of direction p run.policy) (bounded_of direction p run.policy) last (limit (length before)) (pending_unit run.pending) piece).output

  -- An accepted call whose loop gave what the rules give, and whose result was built from that, keeps the promise.
  pub answered_accepted : (count : ℕ) (s : Progress) (after : List ℕ) (pending : Pending) (r : Outcome) → length piece ≡ count → refusal direction run p (length piece) ≡ 0
      → s ≡ summary (fed_by direction run p piece last (length before)) → after ≡ over before (fed_by direction run p piece last (length before)).output
      → pending ≡ pending_after direction run.pending piece s.answer s.used → Finished run s pending count last r
      → Answered (run_call direction run p piece last (length before)) r before after
  unfolding run_call accepted_call summary
  answered_accepted count s after pending r n z e f q finished =
      let w : Finished run s pending (length piece) last r = subst (λ (k : ℕ). Finished run s pending k last r) (sym n) finished in
      let accepted : eqb (refusal direction run p (length piece)) 0 ≡ true = eq-eqb _ _ z in
      let answer : s.answer ≡ (fed_by direction run p piece last (length before)).answer = ap (λ (v : Progress). v.answer) e in
      rw accepted
      (record {
        number = w.number ∙ answer;
        read = w.read ∙ ap (λ (v : Progress). units_read run.pending (length piece) v.answer v.used) e;
        written = w.written ∙ ap (λ (v : Progress). v.written) e;
        run =
            w.run'
            ∙ ap (λ (n : Pending). run_after run n (units_read run.pending (length piece) s.answer s.used) s.written s.flags (ended_after last s.answer))
            (q ∙ ap (λ (d : Direction). pending_after d run.pending piece s.answer s.used) (accepted_facts direction run p (length piece) z).same)
            ∙ ap (λ (v : Progress). run_after run (pending_after run.direction run.pending piece v.answer v.used) (units_read run.pending (length piece) v.answer v.used) v.written v.flags (ended_after last v.answer)) e;
        lent = f;
      })

  -- A refused call, with its refusal, the run it was handed and the output untouched, keeps the promise.
  pub answered_refused : (refusal' : Refusal) → refusal_number refusal' ≡ refusal direction run p (length piece)
      → Answered (run_call direction run p piece last (length before)) (refused_outcome refusal' run) before before
  unfolding run_call refused_call over
  answered_refused refusal' e =
      rw (← e, ne_eqb (refusal_number refusal') 0 (λ z. omega (arith, number_from refusal'))) (record { number = refl; read = refl; written = refl; run = refl; lent = refl })

-- ---- the checks in two parts
in_parts : (a b c : Bool) (rest : ℕ) → check 11 a (check 12 b (check 13 c rest)) ≡ pick (eqb (check 11 a (check 12 b (check 13 c 0))) 0) rest (check 11 a (check 12 b (check 13 c 0)))
in_parts true true true rest = refl
in_parts true true false rest = refl
in_parts true false c rest = refl
in_parts false b c rest = refl

-- a shape that is not good is refused with 10, whatever else there is
pub refusal_shape : (direction : Direction) (run : Run) (p : CodePage) (count : ℕ) → is_good (first_fault p) ≡ false → 10 ≡ refusal direction run p count
unfolding refusal
refusal_shape direction run p count e = rw e

module _ (direction : Direction) (run : Run) (p : CodePage) (count : ℕ) (good : is_good (first_fault p) ≡ true) where
  refusal_parts : refusal direction run p count ≡ pick (eqb (run_refusal direction run p.page count) 0) (rest_refusal run p.classes count) (run_refusal direction run p.page count)
  unfolding refusal
  refusal_parts = rw good (in_parts (leb count piece_limit) (valid_run run) (same_direction direction run.direction && eqb run.page p.page) (rest_refusal run p.classes count))

  -- what checks 11 to 13 refuse is the call's refusal, if the shape is good
  pub refusal_first : (refused : Refusal) → refusal_number refused ≡ run_refusal direction run p.page count → refusal_number refused ≡ refusal direction run p count
  refusal_first refused e = e ∙ sym (refusal_parts ∙ rw (ne_eqb (run_refusal direction run p.page count) 0 (λ z. omega (arith, e, number_from refused))))

  -- where checks 11 to 13 pass, the call's refusal is what checks 14 to 16 give
  pub refusal_rest : run_refusal direction run p.page count ≡ 0 → {number : ℕ} → number ≡ rest_refusal run p.classes count → number ≡ refusal direction run p count
  refusal_rest z q = q ∙ sym (refusal_parts ∙ rw (eq-eqb (run_refusal direction run p.page count) 0 z))

-- what the checks of a call gave, with its direction and the count of its units written otherwise
pub checked_as : {d direction : Direction} (run : Run) (p : CodePage) {n count k : ℕ} → d ≡ direction → count ≡ n → refusal d run p n ≡ k → refusal direction run p count ≡ k
checked_as run p e f g = rw (← e, f) g

-- ---- the two loops
-- a loop on what is pending and the piece takes what the call takes
pub loop_fed : (direction : Direction) (run : Run) (p : CodePage) (piece : List ℕ) (last : Bool) (room : ℕ) {v : Converter} {pending : Option ℕ} → v ≡ converter_of direction p run.policy → pending ≡ pending_unit run.pending
    → feed_from v last (limit room) pending piece ≡ fed_by direction run p piece last room
unfolding fed_by
loop_fed direction run p piece last room e f = rw (e, f)

-- whatever place of the index is asked, also one behind its end, the block that it names is there
pub index_high : (index : List ℕ) (blocks high : ℕ) → length index ≡ 256 → ((h : ℕ) → h < 256 → 256 * entry_at index h + 256 ≤ blocks) → 256 ≤ blocks → 256 * entry_at index high + 256 ≤ blocks
index_high index blocks high e h l = by_place (ltb high 256) refl
  where
    by_place : (t : Bool) → ltb high 256 ≡ t → 256 * entry_at index high + 256 ≤ blocks
    by_place true q = h high (ltb-true _ _ q)
    by_place false q = omega (arith, ltb-false high 256 q, get_or-eq_default index 0 {n = high} (omega (arith, ltb-false high 256 q)))
