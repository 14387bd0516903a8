use Rattle.engine_fastpath.proofs.RunLaws.{two_bytes}
use Rattle.engine_fastpath.proofs.MetLaws.{met_start, met_unit}
use native.Mathlib.Omega.{arith}
use Rattle.engine_fastpath.proofs.counted.met_units.Goals as goal

pub loop-i-init : goal.loop-i-init
loop-i-init c = met_start c.requires.from_in_bounds.0

pub overflow_add-w : goal.overflow_add-w
overflow_add-w c =
    omega (arith, c.byte_count-w.ensures, two_bytes c.code_of-code.result, c.loop-i.invariant.little, c.loop-i.invariant.inside, c.well_formed.1.1.0)

pub loop-i-preserved : goal.loop-i-preserved
loop-i-preserved c =
    met_unit _ _ c.loop-i.invariant c.code_of-code.result c.loop-i-test.true (c.code_of-code.ensures c.if-code.false) _ c.byte_count-w.ensures
