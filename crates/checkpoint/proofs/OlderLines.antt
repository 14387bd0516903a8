-- Every line that was read before CR 5 is still read, to the same run.
use mathlib.Core.Bool.{Bool, true, false, not, ◌&&◌, ◌||◌, false≢true}
use mathlib.Core.List.{List, [], ◌∷◌, ◌++◌}
use mathlib.Core.Option.{Option, none, some}
use mathlib.Core.Path.{◌≡◌, refl, sym, ap, ◌∙◌}
use Prim.Native.Nat.{ℕ}
use native.Mathlib.Omega.{arith}
use lib.Dec.{leb, ltb, eqb}
use borrow.Author.Tests.{leb-true}
use Rattle.codepage.proofs.ShapeLaws.{and_left, and_right}
use Rattle.engine.specs.declared.Direction.{Direction}
use Rattle.engine.specs.declared.Direction.TheVariants.{Decoding}
use Rattle.engine.specs.Policies.{policy_allowed}
use Rattle.convert.specs.declared.Pending.{Pending}
use Rattle.convert.specs.declared.Pending.TheVariants.{Nothing, Byte, High}
use Rattle.convert.specs.declared.Run.{Run}
use Rattle.convert.specs.Runs.{read_limit, is_decoding, most_written, pending_allowed, every, valid_run}
use Rattle.checkpoint.specs.Line.{Parsed, Parser, pending_field, hex_pending, fields_by, run_of, Representable, loaded, read_of}
use Rattle.checkpoint.specs.Base.{base_if_pending, base_valid_run, base_hex, base_pending, base_fields, base_kept, base_run_of}
use Rattle.checkpoint.specs.Sample.{sample_run, sample_line}
use Rattle.checkpoint.proofs.Computing.{line_rules}
use Rattle.checkpoint.proofs.ParserLaws.{none_some, some_eq, PendingOfLine, pending_reads}
use Rattle.checkpoint.proofs.LineLaws.{Spelled, spelled_by, pending_of_line_fits, representable, write_read}

-- ---- the run rules
pending_still : (pending : Pending) (direction : Direction) (ended : Bool) (written read : ℕ) → base_if_pending pending (is_decoding direction && (not ended && ltb written read)) ≡ true
    → pending_allowed pending direction ended written read ≡ true
pending_still Nothing direction ended written read e = refl
pending_still (Byte byte) direction ended written read e = e
pending_still (High unit) direction ended written read e = absurd (false≢true e)

-- the last of some tests for another
every_last : (tests : List Bool) (a b : Bool) → (a ≡ true → b ≡ true) → every (tests ++ (a ∷ [])) ≡ true → every (tests ++ (b ∷ [])) ≡ true
every_last [] a b h e = rw (h (and_left a true e))
every_last (true ∷ tests) a b h e = every_last tests a b h e
every_last (false ∷ tests) a b h e = absurd (false≢true e)

pub rules_still : (run : Run) → base_valid_run run ≡ true → valid_run run ≡ true
unfolding base_valid_run valid_run
rules_still run e =
    every_last
    (not (eqb run.page 0)
    ∷ policy_allowed run.direction run.policy
    ∷ leb run.flags 15
    ∷ leb run.read read_limit
    ∷ leb run.written (most_written run.direction run.read)
    ∷ (ltb run.flags 8 || run.ended)
    ∷ [])
    (base_if_pending run.pending (is_decoding run.direction && (not run.ended && ltb run.written run.read)))
    (pending_allowed run.pending run.direction run.ended run.written run.read)
    (pending_still run.pending run.direction run.ended run.written run.read) e

-- ---- the line
base_fields_by : base_fields ≡ fields_by (λ direction. pending_field Decoding)
unfolding base_fields base_pending base_hex pending_field hex_pending fields_by
base_fields_by = refl

base_spelled : (line : List ℕ) (r : Parsed Run) → base_fields line ≡ some r → Spelled (λ direction. PendingOfLine Decoding) line r.value
base_spelled line r e =
    spelled_by (λ direction. pending_field Decoding) (λ direction. PendingOfLine Decoding) (λ direction. pending_reads Decoding) line r (ap (λ (p : Parser Run). p line) (sym base_fields_by) ∙ e)

-- OLDER LINES ARE STILL READ, to the same run.
pub older_lines : (line : List ℕ) (run : Run) → base_run_of line ≡ some run → run_of line ≡ some run
unfolding base_run_of base_kept
older_lines line run e = by_fields (base_fields line) refl
  where
    by_test : (r : Parsed Run) → base_fields line ≡ some r → (t : Bool) → (leb r.value.page 65535 && base_valid_run r.value) ≡ t → run_of line ≡ some run
    by_test r q false u = absurd (none_some (rw (q, u) at e))
    by_test r q true u =
        let same : r.value ≡ run = some_eq (rw (q, u) at e) in
        let valid : valid_run r.value ≡ true = rules_still r.value (and_right (leb r.value.page 65535) _ u) in
        let w = base_spelled line r q in
        let fits : Representable r.value =
        representable r.value valid (omega (arith, leb-true r.value.page 65535 (and_left (leb r.value.page 65535) _ u))) (pending_of_line_fits Decoding r.value.pending w.pending) in
        ap run_of w.line_is ∙ write_read r.value fits valid ∙ ap some same

    by_fields : (o : Option (Parsed Run)) → base_fields line ≡ o → run_of line ≡ some run
    by_fields none q = absurd (none_some (rw q at e))
    by_fields (some r) q = by_test r q (leb r.value.page 65535 && base_valid_run r.value) refl

pub older_lines_accepted : (line : List ℕ) (run : Run) → base_run_of line ≡ some run → read_of line ≡ record { number = 0; run = some run }
unfolding read_of loaded
older_lines_accepted line run e = ap loaded (older_lines line run e)

-- the sample line of document 01 is one of them
pub older_sample : base_run_of sample_line ≡ some sample_run
unfolding line_rules base_valid_run base_hex base_pending base_fields base_kept base_run_of
older_sample = refl
