-- Laws of a table that is filled in part.
use mathlib.Core.Bool.{Bool, true, false}
use mathlib.Core.List.{List}
use mathlib.Core.Path.{◌≡◌, refl, ap, ◌∙◌}
use Prim.Native.Nat.{ℕ, zero, suc, ◌+◌, ◌≤◌, ◌<◌}
use native.Mathlib.Omega.{arith}
use lib.Dec.{eqb}
use lib.ListN.{length, get_or, set}
use lib.Seq.{get_or-set_same, get_or-set_other}
use borrow.Author.Tests.{eqb-true, eqb-false}
use Rattle.codepage.specs.CodePage.{entry_at}
use Rattle.listing.specs.Tables.{filled}
use Rattle.listing.proofs.TableLaws.{filled_length}

-- inside the filled part
pub filled_in : (table : List ℕ) (place count value i : ℕ) → i < count → place + count ≤ length table → entry_at (filled table place count value) (place + i) ≡ value
unfolding filled
filled_in table place zero value i h l = absurd (omega arith)
filled_in table place (suc count) value i h l = by_place (eqb i count) refl (λ k. filled_in table place count value i k (omega arith))
  where
    by_place : (b : Bool) → eqb i count ≡ b → (i < count → entry_at (filled table place count value) (place + i) ≡ value) → entry_at (filled table place (suc count) value) (place + i) ≡ value
    by_place true q more =
        let e : place + i ≡ place + count = omega (arith, eqb-true i count q) in
        ap (λ (n : ℕ). get_or (set (filled table place count value) (place + count) value) n 0) e
        ∙ get_or-set_same (filled table place count value) (place + count) value 0 (omega (arith, filled_length table place count value))
    by_place false q more =
        get_or-set_other (filled table place count value) (place + count) (place + i) value 0 (λ e. eqb-false i count q (omega arith)) ∙ more (omega (arith, eqb-false i count q))

-- before it
pub filled_out : (table : List ℕ) (place count value i : ℕ) → i < place → entry_at (filled table place count value) i ≡ entry_at table i
unfolding filled
filled_out table place zero value i h = refl
filled_out table place (suc count) value i h = get_or-set_other (filled table place count value) (place + count) i value 0 (λ e. omega arith) ∙ filled_out table place count value i h

-- filled from the front
pub filled_front_lem : (table : List ℕ) (count value i : ℕ) → i < count → count ≤ length table → entry_at (filled table 0 count value) i ≡ value
filled_front_lem table count value i h l = let e : i ≡ 0 + i = omega arith in ap (entry_at (filled table 0 count value)) e ∙ filled_in table 0 count value i h (omega arith)
