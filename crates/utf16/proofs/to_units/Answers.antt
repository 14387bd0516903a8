use Rattle.utf16.proofs.Utf16Laws.{fitting_units, fitting_unit, lay_turn, lay_end}
use lib.Seq.{length-take-le}
use lib.ListN.{length, get_or, take}
use Prim.Native.Nat.{◌+◌, ◌*◌}
use mathlib.Core.Path.{◌≡◌, sym, ◌∙◌}
use native.Mathlib.Omega.{arith}
use Rattle.utf16.specs.Utf16.{utf16_units}
use Rattle.utf16.proofs.to_units.Goals as goal

pub loop-i-preserved : goal.loop-i-preserved
loop-i-preserved c =
    let size : length (take (length c.args.units.now) (utf16_units c.args.bytes.now)) ≡ c.min-count.result = fitting_units c.args.bytes.now (length c.args.units.now) _ c.min-count.ensures in
    let unit : c.from_le_bytes.result ≡ get_or c.args.bytes.now (2 * c.loop-i.i) 0 + 256 * get_or c.args.bytes.now (2 * c.loop-i.i + 1) 0 = omega arith in
    lay_turn _ _ _ _ _ c.loop-i.invariant (omega arith) (omega arith) (unit ∙ fitting_unit c.args.bytes.now (length c.args.units.now) _ c.min-count.ensures _ c.loop-i-test.true)

pub returns : goal.returns
returns c =
    let size : length (take (length c.args.units.now) (utf16_units c.args.bytes.now)) ≡ c.min-count.result = fitting_units c.args.bytes.now (length c.args.units.now) _ c.min-count.ensures in
    record { laid_over = lay_end _ _ _ c.loop-i.i _ c.loop-i.invariant (omega arith) (omega arith); upper_bound = (omega arith, sym (length-take-le _ _ (omega arith))) }
