use native.Mathlib.Omega.{arith}
use Rattle.engine_fastpath.proofs.RunLaws.{singles_start, singles_one}
use Rattle.engine_fastpath.proofs.runs.take_one.Goals as goal

pub returns-then-unit : goal.returns-then-unit
returns-then-unit c = (omega arith, singles_start _ _ _ _ _ (omega arith) (omega arith))

pub returns : goal.returns
returns c = (
  omega arith,
  singles_one _ _ _ _ _ (omega arith) (omega arith) (omega (arith, c.shared_slice_known-1.given c.args.i)) c.if-unit.false,
)
