use mathlib.Core.Path.{refl, ◌∙◌}
use native.Mathlib.Omega.{arith}
use Rattle.rfc4180.proofs.CsvLaws.{laid_start, escaped_rest, laid_turn, laid_whole}
use Rattle.rfc4180.proofs.lay_field.Goals as goal

pub loop-unit-init : goal.loop-unit-init
loop-unit-init c = (refl, c.requires, laid_start _ c.args.field.now _)

pub lay_escaped-at-requires : goal.lay_escaped-at-requires
lay_escaped-at-requires c = omega (arith, c.loop-unit.invariant.2.next, escaped_rest c.args.field.now c.loop-unit.unit-index (omega arith))

pub loop-unit-preserved : goal.loop-unit-preserved
loop-unit-preserved c = (
  c.out-1.given ∙ c.loop-unit.invariant.0,
  c.loop-unit.invariant.1,
  laid_turn c.args.field.now c.loop-unit.unit-index (omega arith) c.loop-unit.invariant.1 c.loop-unit.invariant.2 c.lay_escaped-at.ensures,
)

pub shape_of-out : goal.shape_of-out
shape_of-out c = c.loop-unit.invariant.0

pub returns : goal.returns
returns c = laid_whole c.args.field.now c.loop-unit.unit-index (omega arith) c.loop-unit.invariant.2
