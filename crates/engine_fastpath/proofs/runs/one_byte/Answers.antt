use native.Mathlib.Omega.{arith}
use Rattle.engine_fastpath.proofs.RunLaws.{ran_start, ran_at, ran_byte}
use Rattle.engine_fastpath.proofs.runs.one_byte.Goals as goal

pub returns-then-code-ge256 : goal.returns-then-code-ge256
returns-then-code-ge256 c =
    (omega arith, ran_at (ran_start (omega (arith, c.requires.i_in_bounds.0)) (omega (arith, c.requires.i_in_bounds.1))) (omega arith) (omega arith))

pub returns : goal.returns
returns c =
    (omega arith, ran_byte _ _ (ran_start (omega (arith, c.requires.i_in_bounds.0)) (omega (arith, c.requires.i_in_bounds.1))) c.code_of-code.result (omega (arith, c.requires.i_in_bounds.0)) (c.code_of-code.ensures (omega arith)) (omega arith) (omega (arith, c.requires.i_in_bounds.1)))
