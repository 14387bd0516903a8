use native.Mathlib.Omega.{arith}
use borrow.Author.Tests.{le-leb, lt-leb}
use Rattle.codepage.specs.CodePage.{bad_number}
use Rattle.codepage.proofs.ShapeLaws.{bad_turn, place_found, place_none}
use Rattle.codepage.proofs.first_bad_number.Goals as goal

pub loop-place-preserved : goal.loop-place-preserved
unfolding bad_number
loop-place-preserved c = bad_turn (bad_number c.args.count) _ _ _ c.loop-place.invariant (omega arith) (lt-leb _ _ c.if-count-number.false)

pub returns-then-count-number : goal.returns-then-count-number
unfolding bad_number
returns-then-count-number c = place_found (bad_number c.args.count) _ _ _ c.requires c.loop-place.invariant (omega arith) (le-leb _ _ c.if-count-number.true)

pub returns : goal.returns
returns c = place_none (bad_number c.args.count) _ _ _ c.requires c.loop-place.invariant (omega arith)
