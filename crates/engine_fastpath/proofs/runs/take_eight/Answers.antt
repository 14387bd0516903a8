use native.Mathlib.Omega.{arith}
use Rattle.engine_fastpath.proofs.RunLaws.{singles_at_lem, singles_join}
use Rattle.engine_fastpath.proofs.runs.take_eight.Goals as goal

pub returns : goal.returns
returns c = (omega arith, singles_join (singles_at_lem {j = 4} c.take_four-taken.ensures.1 (omega arith)) c.take_four.ensures.1)
