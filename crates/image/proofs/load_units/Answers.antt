use mathlib.Core.Path.{◌≡◌, ◌∙◌}
use native.Mathlib.Omega.{arith}
use Prim.Native.Nat.{◌*◌}
use lib.ListN.{length}
use Rattle.image.specs.Image.{part, units}
use Rattle.image.proofs.ImageLaws.{lay_turn, lay_end, part_units_length, part_unit}
use Rattle.image.proofs.load_units.Goals as goal

pub loop-i-preserved : goal.loop-i-preserved
loop-i-preserved c =
    let size : length (units (part c.args.bytes.now c.args.at (2 * c.args.count))) ≡ c.args.count = part_units_length _ _ _ c.requires.0 in
    lay_turn _ _ _ _ _ c.loop-i.invariant (omega arith) (omega arith) (c.two_at.ensures ∙ part_unit _ _ _ _ c.requires.0 c.loop-i-test.true)

pub returns : goal.returns
returns c =
    let size : length (units (part c.args.bytes.now c.args.at (2 * c.args.count))) ≡ c.args.count = part_units_length _ _ _ c.requires.0 in
    lay_end _ _ _ c.loop-i.i c.loop-i.invariant (omega arith)
