use mathlib.Core.Path.{refl}
use native.Mathlib.Omega.{arith}
use lib.ListN.{length-set}
use Rattle.checkpoint.specs.Line.{decimal}
use Rattle.checkpoint.proofs.LineLaws.{field_length}
use Rattle.checkpoint.proofs.WriteLaws.{digits_start, digits_turn, digits_end}
use Rattle.checkpoint.proofs.writer.put_number.Goals as goal

pub loop-i-init : goal.loop-i-init
loop-i-init c = (omega arith, omega (arith, field_length (decimal c.args.number), c.decimal_len-size.ensures.value), refl, digits_start _ _ _ _ c.decimal_len-size.ensures.value)

pub loop-i-preserved : goal.loop-i-preserved
loop-i-preserved c = (omega arith, omega arith, simp length-set c.loop-i.invariant.2, digits_turn _ _ _ c.loop-i.i c.loop-i.rest c.loop-i-test.true c.loop-i.invariant.3)

pub shape_of-out : goal.shape_of-out
shape_of-out c = simp length-set c.loop-i.invariant.2

pub returns : goal.returns
returns c = digits_end _ _ _ _ c.loop-i.i c.loop-i.rest _ c.loop-i-test.false c.decimal_len-size.ensures.value c.loop-i.invariant.3
