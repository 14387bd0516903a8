use native.Mathlib.Omega.{arith}
use Rattle.charindex.proofs.FindLaws.{block_is, block_none, block_next}
use Rattle.charindex.proofs.last_block.Goals as goal

pub returns-then-entries-block : goal.returns-then-entries-block
returns-then-entries-block c = block_is _ _ _ _ (omega arith) c.if-entries-block.true c.loop-block.invariant

pub loop-block-preserved : goal.loop-block-preserved
loop-block-preserved c = block_next _ _ _ _ (omega arith) c.if-entries-block.false c.loop-block.invariant

pub returns : goal.returns
returns c = block_none _ _ _ _ (omega arith) c.loop-block.invariant
