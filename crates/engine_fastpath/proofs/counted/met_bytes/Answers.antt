use Rattle.engine_fastpath.proofs.MetLaws.{met_start, met_at, met_byte}
use native.Mathlib.Omega.{arith}
use Rattle.engine_fastpath.proofs.counted.met_bytes.Goals as goal

pub loop-k-init : goal.loop-k-init
loop-k-init c = (omega arith, met_at (met_start (omega arith)) (omega arith) (omega arith))

pub loop-k-preserved : goal.loop-k-preserved
loop-k-preserved c =
    (omega arith, met_at (met_byte _ _ c.loop-k.invariant.1 c.code_of-code.result (omega arith) (c.code_of-code.ensures (omega arith)) (omega arith)) (omega arith) (omega arith))
