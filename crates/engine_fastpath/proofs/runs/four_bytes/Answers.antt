use native.Mathlib.Omega.{arith}
use Rattle.engine_fastpath.proofs.RunLaws.{ran_then}
use Rattle.engine_fastpath.proofs.runs.four_bytes.Goals as goal

pub returns : goal.returns
returns c = (omega arith, ran_then c.two_bytes-taken.ensures.1 c.two_bytes.ensures.1 (omega arith) (omega arith) (omega arith) (omega arith))
