use Rattle.engine_fastpath.proofs.MixedLaws.{alone_no_lead}
use Rattle.engine_fastpath.proofs.MetLaws.{met_start, met_at, met_single}
use native.Mathlib.Omega.{arith}
use Rattle.engine_fastpath.proofs.counted.met_alone.Goals as goal

pub loop-k-init : goal.loop-k-init
loop-k-init c = (omega arith, met_at (met_start (omega arith)) (omega arith) (omega arith))

pub loop-k-preserved : goal.loop-k-preserved
loop-k-preserved c =
    let found = c.single_unit-unit.ensures c.if-unit.false in
    (omega arith, met_at (met_single _ _ _ (c.loop-k.invariant.1) c.single_unit-unit.result (omega arith) (alone_no_lead _ _ _ _ found) found) (omega arith) (omega arith))
