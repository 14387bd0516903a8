use native.Mathlib.Omega.{arith}
use Rattle.engine_fastpath.proofs.RunLaws.{ran_then}
use Rattle.engine_fastpath.proofs.runs.two_bytes.Goals as goal

pub returns : goal.returns
returns c = (omega arith, ran_then c.one_byte-taken.ensures.1 c.one_byte.ensures.1 (omega arith) (omega arith) (omega arith) (omega arith))
