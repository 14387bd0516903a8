use native.Mathlib.Omega.{arith}
use Rattle.engine_fastpath.proofs.RunLaws.{singles_at_lem, singles_join}
use Rattle.engine_fastpath.proofs.runs.take_four.Goals as goal

pub returns : goal.returns
returns c = (omega arith, singles_join (singles_at_lem {j = 2} c.take_two-taken.ensures.1 (omega arith)) c.take_two.ensures.1)
