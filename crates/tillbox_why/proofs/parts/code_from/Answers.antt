use Rattle.std.proofs.Common.{arith, [], rules}
use Rattle.codepage.specs.Reading.{decoder}
use Rattle.tillbox_why.proofs.SizeLaws.{size_inside}
use Rattle.tillbox_why.proofs.parts.code_from.Goals as goal

pub overflow_add-at : goal.overflow_add-at
overflow_add-at c = let inside = size_inside (decoder _ [] []) _ _ _ (c.code_size-at.ensures [] []) in omega arith

pub loop-at-smaller : goal.loop-at-smaller
loop-at-smaller c = let inside = size_inside (decoder _ [] []) _ _ _ (c.code_size-at.ensures [] []) in omega arith

pub loop-at-preserved : goal.loop-at-preserved
loop-at-preserved c = let inside = size_inside (decoder _ [] []) _ _ _ (c.code_size-at.ensures [] []) in (omega arith, search rules)
