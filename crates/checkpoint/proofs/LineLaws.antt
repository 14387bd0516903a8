-- Laws of the saved line: each run that keeps the rules has one line and each line one run; nothing else is read.
use mathlib.Core.Bool.{Bool, true, false, not, ◌&&◌, ◌||◌, false≢true}
use mathlib.Core.List.{List, [], ◌∷◌, ◌++◌, append_assoc}
use mathlib.Core.Logic.{◌↔◌}
use mathlib.Core.Option.{Option, none, some}
use mathlib.Core.Path.{◌≡◌, refl, sym, ap, ◌∙◌, subst}
use Prim.Native.Nat.{ℕ, ◌+◌, ◌<◌, ◌≤◌, ◌^◌}
use native.Mathlib.Omega.{arith}
use lib.Dec.{leb, ltb}
use lib.ListN.{length, take, drop, length-append}
use lib.Seq.{take-append_seam}
use borrow.Author.Tests.{le-leb, leb-true, lt-ltb, le-ltb, ltb-true, ltb-false}
use Rattle.codepage.specs.CodePage.{pick}
use Rattle.codepage.specs.Reading.{is_high}
use Rattle.engine.specs.declared.Direction.{Direction}
use Rattle.engine.specs.declared.Direction.TheVariants.{Decoding, Encoding}
use Rattle.engine.specs.declared.Policy.{Policy}
use Rattle.convert.specs.declared.Pending.{Pending}
use Rattle.convert.specs.declared.Pending.TheVariants.{Nothing, Byte, High}
use Rattle.convert.specs.declared.Run.{Run}
use Rattle.convert.specs.Runs.{valid_run, is_decoding, is_encoding, pending_allowed, read_limit, written_limit}
use Rattle.engine.specs.Policies.{policy_allowed, highest_single}
use Rattle.codepage.specs.Lent.{over}
use Rattle.codepage.proofs.ShapeLaws.{and_left, and_right}
use Rattle.convert.proofs.CallLaws.{Valid, valid_facts, most_twice}
use Rattle.std.specs.declared.result.Result.{Result}
use Rattle.checkpoint.specs.declared.Refusal.{Refusal}
use Rattle.checkpoint.specs.Line.{tab, line_of, field_of, closing_of, decimal, run_of, kept, fields_by, fields, field, letter, number, three_digits, pending_field, closing, succeed, ◌>>=◌, Parsed, Parser, Representable, Restores, PendingFits, letter_of, digits_of, pending_of, Saving, unwritten, write_of, written_as, Saved, Loading, loaded, read_of}
use Rattle.checkpoint.specs.Sample.{sample_run, sample_line, pending_run, pending_line, longest_run, longest_pending, not_lines, AllAnswered}
use Rattle.checkpoint.proofs.Computing.{line_rules}
use Rattle.checkpoint.proofs.DecimalLaws.{decimal_short}
use Rattle.checkpoint.proofs.ParserLaws.{got, none_some, some_eq, Reads, PendingOfLine, then_some, then_back, DecimalDigits, letter_reads, number_reads, digits_read, pending_reads, field_forth, field_back, closing_forth, closing_back}

-- ---- the fields of a line
line_fields : (run : Run) → line_of run ≡
    field_of (letter_of run.direction)
    ++ (field_of (decimal run.page)
    ++ (field_of (digits_of run.policy)
    ++ (field_of (pending_of run.pending)
    ++ (field_of (decimal run.flags)
    ++ (field_of (decimal run.read)
    ++ (field_of (decimal run.written)
    ++ closing_of run.ended))))))
unfolding line_of
line_fields run = simp append_assoc

pub fields_forth : (run : Run) → DecimalDigits run.policy → PendingOfLine run.direction run.pending → fields (line_of run) ≡ got run []
unfolding fields fields_by succeed
fields_forth run d c =
    ap fields (line_fields run)
    ∙ then_some (field letter) _ _ _ _ (field_forth letter_reads run.direction _ tt)
    ∙ then_some (field number) _ _ _ _ (field_forth number_reads run.page _ tt)
    ∙ then_some (field three_digits) _ _ _ _ (field_forth digits_read run.policy _ d)
    ∙ then_some (field (pending_field run.direction)) _ _ _ _ (field_forth (pending_reads run.direction) run.pending _ c)
    ∙ then_some (field number) _ _ _ _ (field_forth number_reads run.flags _ tt)
    ∙ then_some (field number) _ _ _ _ (field_forth number_reads run.read _ tt)
    ∙ then_some (field number) _ _ _ _ (field_forth number_reads run.written _ tt)
    ∙ then_some closing _ _ _ _ (closing_forth run.ended)

-- what was read is the line of the run, whose digits and what is pending are such
pub record Spelled (Good : Direction → Pending → Type 0) (line : List ℕ) (run : Run) : Type 0 where
  pub line_is : line ≡ line_of run
  pub digits : DecimalDigits run.policy
  pub pending : Good run.direction run.pending

-- the next field of what was read
peel : {A : Type 0} {p : Parser A} {written : A → List ℕ} {Good : A → Type 0} {Goal : Type 0} → Reads p written Good → (next : A → Parser Run) (bytes : List ℕ) (r : Parsed Run)
    → (field p >>= next) bytes ≡ some r → ((a : A) (rest : List ℕ) → bytes ≡ field_of (written a) ++ rest → Good a → next a rest ≡ some r → Goal) → Goal
peel {p} w next bytes r e goal =
    let v = then_back (field p) next bytes r e in
    let b = field_back w bytes v.0 v.1 in
    goal v.0.value v.0.rest b.0 b.1 v.2

-- over any parser of what is pending
pub spelled_by : (pending_field : Direction → Parser Pending) (Good : Direction → Pending → Type 0) → ((direction : Direction) → Reads (pending_field direction) pending_of (Good direction))
    → (line : List ℕ) (r : Parsed Run) → fields_by pending_field line ≡ some r → Spelled Good line r.value
unfolding fields_by succeed
spelled_by pending_field Good reads line r e =
    peel letter_reads _ line r e λ direction l₁ s₁ g₁ e₁.
    peel number_reads _ l₁ r e₁ λ page l₂ s₂ g₂ e₂.
    peel digits_read _ l₂ r e₂ λ policy l₃ s₃ g₃ e₃.
    peel (reads direction) _ l₃ r e₃ λ pending l₄ s₄ g₄ e₄.
    peel number_reads _ l₄ r e₄ λ flags l₅ s₅ g₅ e₅.
    peel number_reads _ l₅ r e₅ λ read l₆ s₆ g₆ e₆.
    peel number_reads _ l₆ r e₆ λ written l₇ s₇ g₇ e₇.
    let w = then_back closing _ l₇ r e₇ in
    let run : Run = record { direction = direction; page = page; policy = policy; pending = pending; flags = flags; read = read; written = written; ended = w.0.value } in
    let same : run ≡ r.value = ap (λ (f : Parsed Run). f.value) (some_eq w.2) in
    let s₈ : l₇ ≡ closing_of run.ended = (closing_back l₇ w.0 w.1).0 in
    let spelled : line ≡ line_of run =
    s₁ ∙ ap (λ (l : List ℕ). field_of (letter_of direction) ++ l)
    (s₂ ∙ ap (λ (l : List ℕ). field_of (decimal page) ++ l)
    (s₃ ∙ ap (λ (l : List ℕ). field_of (digits_of policy) ++ l)
    (s₄ ∙ ap (λ (l : List ℕ). field_of (pending_of pending) ++ l)
    (s₅ ∙ ap (λ (l : List ℕ). field_of (decimal flags) ++ l)
    (s₆ ∙ ap (λ (l : List ℕ). field_of (decimal read) ++ l)
    (s₇ ∙ ap (λ (l : List ℕ). field_of (decimal written) ++ l) s₈))))))
    ∙ sym (line_fields run) in
    subst (Spelled Good line) same (record { line_is = spelled; digits = g₃; pending = g₄ })

pub fields_back : (line : List ℕ) (r : Parsed Run) → fields line ≡ some r → Spelled PendingOfLine line r.value
unfolding fields
fields_back line r e = spelled_by pending_field PendingOfLine pending_reads line r e

-- what is pending in a line of its direction fits, and what a run that keeps the rules has pending is of its direction
pub pending_of_line_fits : (direction : Direction) (pending : Pending) → PendingOfLine direction pending → PendingFits pending
pending_of_line_fits direction Nothing c = tt
pending_of_line_fits Decoding (Byte byte) c = c
pending_of_line_fits Encoding (Byte byte) c = absurd c
pending_of_line_fits Decoding (High unit) c = absurd c
pending_of_line_fits Encoding (High unit) c = c

pending_of_line : (direction : Direction) (pending : Pending) (ended : Bool) (written read : ℕ) → pending_allowed pending direction ended written read ≡ true → PendingFits pending → PendingOfLine direction pending
pending_of_line direction Nothing ended written read e c = tt
pending_of_line Decoding (Byte byte) ended written read e c = c
pending_of_line Encoding (Byte byte) ended written read e c = absurd (false≢true e)
pending_of_line Decoding (High unit) ended written read e c = absurd (false≢true e)
pending_of_line Encoding (High unit) ended written read e c = c

-- ---- a run that keeps the rules
allowed_digits : (direction : Direction) (policy : Policy) → policy_allowed direction policy ≡ true → DecimalDigits policy
unfolding policy_allowed
allowed_digits direction policy e =
    let rest = and_right (leb policy.single (highest_single direction)) _ e in
    record {
      single = omega (arith, leb-true policy.single (highest_single direction) (and_left (leb policy.single (highest_single direction)) _ e), highest direction);
      pair = omega (arith, leb-true policy.pair 5 (and_left (leb policy.pair 5) _ rest));
      invalid = omega (arith, leb-true policy.invalid 5 (and_right (leb policy.pair 5) _ rest));
    }
  where
    highest : (direction : Direction) → highest_single direction ≤ 6
    highest Decoding = omega arith
    highest Encoding = omega arith

-- what a valid run holds
pub record Bounded (run : Run) : Type 0 where
  pub digits : DecimalDigits run.policy
  pub flags : run.flags ≤ 15
  pub read : run.read ≤ read_limit
  pub written : run.written ≤ written_limit

-- A run that keeps the rules has digits below 10, flags up to 15, and totals within their limits.
pub bounded : (run : Run) → valid_run run ≡ true → Bounded run
bounded run e =
    let v : Valid run = valid_facts run e in
    record {
      digits = allowed_digits run.direction run.policy v.policy;
      flags = v.flags;
      read = v.read;
      written = omega (arith, v.read, v.written, most_twice run.direction run.read);
    }

-- of a valid run only the page and what is pending are still to be bounded
pub representable : (run : Run) → valid_run run ≡ true → run.page < 2 ^ 16 → PendingFits run.pending → Representable run
representable run e h c =
    let b : Bounded run = bounded run e in
    record {
      page = h;
      single = omega (arith, b.digits.single);
      pair = omega (arith, b.digits.pair);
      invalid = omega (arith, b.digits.invalid);
      pending = c;
      flags = omega (arith, b.flags);
      read = omega (arith, b.read);
      written = omega (arith, b.written);
    }

-- a run with a page of at most 65,535 that keeps the rules is read
pub kept_some : (run : Run) (rest : List ℕ) → run.page ≤ 65535 → valid_run run ≡ true → kept (got run rest) ≡ some run
unfolding kept
kept_some run rest h e = rw (le-leb run.page 65535 h, e)

-- ---- each run that keeps the rules has one line and each line one run
-- The line of a run that the program can hold and that keeps the rules is read as that run.
pub write_read : (run : Run) → Representable run → valid_run run ≡ true → run_of (line_of run) ≡ some run
unfolding run_of
write_read run w e =
    let c : PendingOfLine run.direction run.pending = pending_of_line run.direction run.pending run.ended run.written run.read (valid_facts run e).pending w.pending in
    ap kept (fields_forth run (bounded run e).digits c) ∙ kept_some run [] (omega (arith, w.page)) e

pub read_write : (line : List ℕ) (run : Run) → run_of line ≡ some run → Restores line run
unfolding run_of kept
read_write line run e = by_fields (fields line) refl
  where
    by_test : (r : Parsed Run) → fields line ≡ some r → (t : Bool) → (leb r.value.page 65535 && valid_run r.value) ≡ t → Restores line run
    by_test r q false u = absurd (none_some (rw (q, u) at e))
    by_test r q true u =
        let same : r.value ≡ run = some_eq (rw (q, u) at e) in
        let v : valid_run r.value ≡ true = and_right (leb r.value.page 65535) _ u in
        let w : Spelled PendingOfLine line r.value = fields_back line r q in
        subst (Restores line) same
        (record {
          line_is = sym w.line_is;
          valid = v;
          fits = representable r.value v (omega (arith, leb-true r.value.page 65535 (and_left (leb r.value.page 65535) _ u))) (pending_of_line_fits r.value.direction r.value.pending w.pending);
        })

    by_fields : (o : Option (Parsed Run)) → fields line ≡ o → Restores line run
    by_fields none q = absurd (none_some (rw q at e))
    by_fields (some r) q = by_test r q (leb r.value.page 65535 && valid_run r.value) refl

-- nothing else is read
pub refused_exactly : (line : List ℕ) → (run_of line ≡ none) ↔ ((run : Run) → Representable run → valid_run run ≡ true → line_of run ≡ line → ⊥)
refused_exactly line = (
  λ e run w v q. none_some (sym e ∙ ap run_of (sym q) ∙ write_read run w v),
  λ never. by_run never (run_of line) refl,
)
  where
    by_run : ((run : Run) → Representable run → valid_run run ≡ true → line_of run ≡ line → ⊥) → (o : Option Run) → run_of line ≡ o → run_of line ≡ none
    by_run never none q = q
    by_run never (some run) q =
        let w : Restores line run = read_write line run q in
        absurd (never run w.fits w.valid w.line_is)

-- Two runs that the program can hold, that keep the rules and have the same line, are the same run.
pub one_line_one_run : (a b : Run) → Representable a → valid_run a ≡ true → Representable b → valid_run b ≡ true → line_of a ≡ line_of b → a ≡ b
one_line_one_run a b fa va fb vb e = some_eq (sym (write_read a fa va) ∙ ap run_of e ∙ write_read b fb vb)

-- ---- a line has at most 44 bytes
-- a field has one byte more than its value: the tab
pub field_length : (bytes : List ℕ) → length (field_of bytes) ≡ length bytes + 1
unfolding field_of
field_length bytes = length-append bytes (tab ∷ [])

-- the line's length: the lengths of the other fields, and 10 for the three digits and the seven tabs
pub line_length : (run : Run) → length (line_of run) ≡
    length (letter_of run.direction) + length (decimal run.page) + length (pending_of run.pending) + length (decimal run.flags) + length (decimal run.read) + length (decimal run.written) + length (closing_of run.ended) + 10
unfolding line_of
line_length run = simp (length-append, field_length) (omega arith)

-- the letter is one byte
pub letter_length : (direction : Direction) → length (letter_of direction) ≡ 1
letter_length Decoding = refl
letter_length Encoding = refl

-- what is pending only if not ended, and flag 8 only if ended
ends_length : (pending : Pending) (direction : Direction) (ended : Bool) (written read flags : ℕ) → pending_allowed pending direction ended written read ≡ true → (ltb flags 8 || ended) ≡ true → flags ≤ 15
    → length (pending_of pending) + length (closing_of ended) + length (decimal flags) ≤ 8
unfolding closing_of
ends_length Nothing direction true written read flags e s h = omega (arith, decimal_short 1 flags (omega arith))
ends_length Nothing direction false written read flags e s h = omega (arith, decimal_short 1 flags (omega arith))
ends_length (Byte byte) direction true written read flags e s h = absurd (false≢true (and_right (is_decoding direction) false e))
ends_length (Byte byte) direction false written read flags e s h = omega (arith, decimal_short 1 flags (omega arith))
ends_length (High unit) direction true written read flags e s h = absurd (false≢true (and_right (is_high unit) false (and_right (is_encoding direction) (is_high unit && false) e)))
ends_length (High unit) direction false written read flags e s h = omega (arith, decimal_short 0 flags (omega (arith, ltb-true flags 8 (low (ltb flags 8) s))))
  where
    low : (t : Bool) → (t || false) ≡ true → t ≡ true
    low true q = refl
    low false q = q

pub at_most_44 : (run : Run) → Representable run → valid_run run ≡ true → length (line_of run) ≤ 44
at_most_44 run w e =
    let b : Bounded run = bounded run e in
    let v : Valid run = valid_facts run e in
    omega (
      arith,
      line_length run,
      letter_length run.direction,
      decimal_short 4 run.page (omega (arith, w.page)),
      decimal_short 9 run.read (omega (arith, b.read)),
      decimal_short 9 run.written (omega (arith, b.written)),
      ends_length run.pending run.direction run.ended run.written run.read run.flags v.pending v.stopped b.flags,
    )

-- and one has 44
pub longest_valid : valid_run longest_run ≡ true
unfolding line_rules
longest_valid = refl

pub longest_fits : Representable longest_run
unfolding line_rules
longest_fits = record { page = omega arith; single = omega arith; pair = omega arith; invalid = omega arith; pending = tt; flags = omega arith; read = omega arith; written = omega arith }

pub longest_has_44 : length (line_of longest_run) ≡ 44
unfolding line_rules
longest_has_44 = refl

-- as has one with a unit pending
pub longest_pending_valid : valid_run longest_pending ≡ true
unfolding line_rules
longest_pending_valid = refl

pub longest_pending_44 : length (line_of longest_pending) ≡ 44
unfolding line_rules
longest_pending_44 = refl

-- ---- the answers, each exactly in its case
saves : (valid full : Bool) → List ℕ → Saving
saves valid full line = pick (not valid) (unwritten 12) (pick full (unwritten 19) (record { number = 0; line = line }))

writes_as : (run : Run) (room : ℕ) → write_of run room ≡ saves (valid_run run) (ltb room (length (line_of run))) (line_of run)
unfolding write_of saves
writes_as run room = refl

saves_12 : (t u : Bool) (line : List ℕ) → (saves t u line).number ≡ 12 → t ≡ false
unfolding saves
saves_12 true true line e = absurd (omega arith)
saves_12 true false line e = absurd (omega arith)
saves_12 false u line e = refl

saves_19 : (t u : Bool) (line : List ℕ) → (saves t u line).number ≡ 19 → (t ≡ true) × (u ≡ true)
unfolding saves
saves_19 true true line e = (refl, refl)
saves_19 true false line e = absurd (omega arith)
saves_19 false u line e = absurd (omega arith)

pub writes_12 : (run : Run) (room : ℕ) → ((write_of run room).number ≡ 12) ↔ (valid_run run ≡ false)
unfolding saves
writes_12 run room = (
  λ e. saves_12 (valid_run run) (ltb room (length (line_of run))) (line_of run) (ap (λ (s : Saving). s.number) (sym (writes_as run room)) ∙ e),
  λ e. ap (λ (s : Saving). s.number) (writes_as run room) ∙ rw e,
)

pub writes_19 : (run : Run) (room : ℕ) → ((write_of run room).number ≡ 19) ↔ ((valid_run run ≡ true) × (room < length (line_of run)))
unfolding saves
writes_19 run room = (
  λ e.
      let w = saves_19 (valid_run run) (ltb room (length (line_of run))) (line_of run) (ap (λ (s : Saving). s.number) (sym (writes_as run room)) ∙ e) in
      (w.0, ltb-true room (length (line_of run)) w.1),
  λ e. ap (λ (s : Saving). s.number) (writes_as run room) ∙ rw (e.0, lt-ltb room (length (line_of run)) e.1),
)

-- so a room of 44 is always enough
pub never_19 : (run : Run) (room : ℕ) → Representable run → 44 ≤ room → (write_of run room).number ≡ 19 → ⊥
never_19 run room w h e =
    let c = (writes_19 run room).0 e in
    omega (arith, c.1, at_most_44 run w c.0)

saves_0 : (t u : Bool) (line : List ℕ) → (saves t u line).number ≡ 0 → (t ≡ true) × (u ≡ false) × ((saves t u line).line ≡ line)
unfolding saves
saves_0 true true line e = absurd (omega arith)
saves_0 true false line e = (refl, refl, refl)
saves_0 false u line e = absurd (omega arith)

pub writes_0 : (run : Run) (room : ℕ) → ((write_of run room).number ≡ 0) ↔ ((valid_run run ≡ true) × (length (line_of run) ≤ room))
unfolding saves
writes_0 run room = (
  λ e.
      let w = saves_0 (valid_run run) (ltb room (length (line_of run))) (line_of run) (ap (λ (s : Saving). s.number) (sym (writes_as run room)) ∙ e) in
      (w.0, ltb-false room (length (line_of run)) w.1),
  λ e. ap (λ (s : Saving). s.number) (writes_as run room) ∙ rw (e.0, le-ltb room (length (line_of run)) e.1),
)

-- an accepted writing gives the run's line
pub writes_line : (run : Run) (room : ℕ) → (write_of run room).number ≡ 0 → (write_of run room).line ≡ line_of run
writes_line run room e =
    let w = saves_0 (valid_run run) (ltb room (length (line_of run))) (line_of run) (ap (λ (s : Saving). s.number) (sym (writes_as run room)) ∙ e) in
    ap (λ (s : Saving). s.line) (writes_as run room) ∙ w.2

loads_18 : (o : Option Run) → (loaded o).number ≡ 18 → o ≡ none
unfolding loaded
loads_18 none e = refl
loads_18 (some run) e = absurd (omega arith)

pub reads_18 : (line : List ℕ) → ((read_of line).number ≡ 18) ↔ ((run : Run) → Representable run → valid_run run ≡ true → line_of run ≡ line → ⊥)
unfolding read_of loaded
reads_18 line = (
  λ e. (refused_exactly line).0 (loads_18 (run_of line) e),
  λ never. ap (λ (o : Option Run). (loaded o).number) ((refused_exactly line).1 never),
)

loads_run : (o : Option Run) → (loaded o).run ≡ o
unfolding loaded
loads_run none = refl
loads_run (some run) = refl

-- an accepted reading gives the run whose line it is
pub reads_0 : (line : List ℕ) (run : Run) → (read_of line ≡ record { number = 0; run = some run }) ↔ Restores line run
unfolding read_of loaded
reads_0 line run = (
  λ e. read_write line run (sym (loads_run (run_of line)) ∙ ap (λ (l : Loading). l.run) e),
  λ w. ap loaded (ap run_of (sym w.line_is) ∙ write_read run w.fits w.valid),
)

-- what was saved is restored
pub saved_restored : (run : Run) (room : ℕ) → Representable run → (write_of run room).number ≡ 0 → read_of (write_of run room).line ≡ record { number = 0; run = some run }
saved_restored run room w e =
    ap read_of (writes_line run room e) ∙ (reads_0 (line_of run) run).1 (record { line_is = refl; valid = ((writes_0 run room).0 e).0; fits = w })

-- the line stands at the front of the output
pub saved_front : (s : Saving) (r : Result ℕ Refusal) (before after : List ℕ) → Saved s r before after → take (written_as r).size after ≡ s.line
unfolding over
saved_front s r before after w = rw (w.lent, w.size) (take-append_seam s.line (drop (length s.line) before))

-- ---- the sample line of document 01
-- ROW 16 by the two calls, with their answers: the line fits 26 places, and is read back.
pub sample_saved : write_of sample_run 26 ≡ record { number = 0; line = sample_line }
unfolding line_rules
sample_saved = refl

-- reading: the sample line is read back as the sample run, with answer 0
pub sample_restored : read_of sample_line ≡ record { number = 0; run = some sample_run }
unfolding line_rules
sample_restored = refl

-- ---- a line with a unit pending (document 02, CR 5), written and read back
pub pending_saved : write_of pending_run 22 ≡ record { number = 0; line = pending_line }
unfolding line_rules
pending_saved = refl

pub pending_restored : read_of pending_line ≡ record { number = 0; run = some pending_run }
unfolding line_rules
pending_restored = refl

-- 18 for what a pending unit may not be
pub not_lines_lem : AllAnswered 18 not_lines
unfolding line_rules
not_lines_lem = (refl, (refl, (refl, (refl, (refl, (refl, tt))))))
