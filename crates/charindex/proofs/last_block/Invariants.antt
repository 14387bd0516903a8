use mathlib.Core.Path.{◌≡◌}
use Rattle.charindex.specs.Index.{last_block}
use Rattle.charindex.proofs.last_block.Given as goal

abbrev pub invariant-loop-block : goal.invariant-loop-block
invariant-loop-block l = last_block l.entries l.n l.block ≡ last_block l.entries l.n l.blocks
