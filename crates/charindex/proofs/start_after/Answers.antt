use native.Mathlib.Omega.{arith}
use Rattle.charindex.proofs.CallLaws.{start_front, start_wrong, start_last}
use Rattle.charindex.proofs.start_after.Goals as goal

pub returns-then-blocks-eq0 : goal.returns-then-blocks-eq0
returns-then-blocks-eq0 c = start_front _ _ c.if-blocks-eq0.true

pub returns-then-blocks-start : goal.returns-then-blocks-start
returns-then-blocks-start c = start_wrong _ _ (omega arith) _ c.start_of-start.ensures c.if-blocks-start.true

pub returns : goal.returns
returns c = start_last _ _ (omega arith) _ c.start_of-start.ensures c.if-blocks-start.false
