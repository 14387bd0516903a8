use mathlib.Core.List.{[]}
use native.Mathlib.Omega.{arith}
use Rattle.codepage.specs.Reading.{decoder}
use Rattle.charindex.proofs.EntryLaws.{reading_turn, reading_end}
use Rattle.charindex.proofs.FindLaws.{size_inside}
use Rattle.charindex.proofs.read_to.Goals as goal

pub overflow_add-at : goal.overflow_add-at
overflow_add-at c = let inside = size_inside (decoder _ [] []) _ _ _ (c.code_size.ensures [] []) in omega arith

pub loop-at-smaller : goal.loop-at-smaller
loop-at-smaller c = let inside = size_inside (decoder _ [] []) _ _ _ (c.code_size.ensures [] []) in omega arith

pub loop-at-preserved : goal.loop-at-preserved
loop-at-preserved c = let inside = size_inside (decoder _ [] []) _ _ _ (c.code_size.ensures [] []) in (omega arith, omega arith, omega arith, λ singles pairs. reading_turn _ _ _ _ _ _ _ (c.loop-at.invariant.3 singles pairs) _ (omega arith) (omega arith) (c.code_size.ensures singles pairs))

pub returns : goal.returns
returns c = (record { place = c.loop-at.invariant.2; count = c.loop-at.invariant.1 }, λ singles pairs. reading_end _ _ _ _ _ _ _ (c.loop-at.invariant.3 singles pairs) (omega arith))
