use Rattle.utf16.proofs.Utf16Laws.{fitting_bytes, fitting_low, fitting_high, two_turn, lay_end}
use lib.Seq.{length-take-le}
use lib.ListN.{length, get_or, take}
use mathlib.Core.List.{List}
use Prim.Native.Nat.{ℕ, ◌*◌, ◌/◌, ◌%◌}
use mathlib.Core.Path.{◌≡◌, sym, ap, ◌∙◌}
use native.Mathlib.Omega.{arith}
use Rattle.utf16.specs.Utf16.{utf16_bytes}
use Rattle.utf16.proofs.to_bytes.Goals as goal

pub loop-i-preserved : goal.loop-i-preserved
loop-i-preserved c =
    let size : length (utf16_bytes (take (length c.args.bytes.now / 2) c.args.units.now)) ≡ 2 * c.min-count.result = fitting_bytes c.args.units.now (length c.args.bytes.now) _ c.min-count.ensures in
    let low : get_or c.to_le_bytes.result 0 0 ≡ get_or c.args.units.now c.loop-i.i 0 % 256 = ap (λ (l : List ℕ). get_or l 0 0) c.to_le_bytes.ensures in
    let high : get_or c.to_le_bytes.result 1 0 ≡ get_or c.args.units.now c.loop-i.i 0 / 256 = ap (λ (l : List ℕ). get_or l 1 0) c.to_le_bytes.ensures ∙ omega (arith, c.type_inv.units c.loop-i.i) in
    two_turn _ _ _ _ _ _ _ c.loop-i.invariant c.loop-i-test.true size (omega arith)
    (low ∙ fitting_low c.args.units.now (length c.args.bytes.now) _ c.min-count.ensures _ c.loop-i-test.true)
    (high ∙ fitting_high c.args.units.now (length c.args.bytes.now) _ c.min-count.ensures _ c.loop-i-test.true)

pub returns : goal.returns
returns c =
    let size : length (utf16_bytes (take (length c.args.bytes.now / 2) c.args.units.now)) ≡ 2 * c.min-count.result = fitting_bytes c.args.units.now (length c.args.bytes.now) _ c.min-count.ensures in
    record { laid_over = lay_end _ _ _ (2 * c.loop-i.i) _ c.loop-i.invariant (omega arith) (omega arith); upper_bound = (omega arith, sym (length-take-le _ _ (omega arith))) }
