use native.Mathlib.Omega.{arith}
use Rattle.engine_fastpath.proofs.RunLaws.{singles_at_lem, singles_join}
use Rattle.engine_fastpath.proofs.runs.take_sixteen.Goals as goal

pub returns : goal.returns
returns c = (omega arith, singles_join (singles_at_lem {j = 8} c.take_eight-taken.ensures.1 (omega arith)) c.take_eight.ensures.1)
