use mathlib.Core.Path.{refl}
use borrow.Author.Tests.{not-true, not-false}
use Rattle.engine_loops.proofs.TurnedLaws.{closed_none, closed_wait, closed_last, closed_as}
use Rattle.engine_loops.proofs.decoder.at_end.Goals as goal

pub returns-then-not-t : goal.returns-then-not-t
returns-then-not-t c = closed_none c.requires.answer_value.0 c.requires.answer_value.1 (not-true _ c.if-not-t.true)

pub returns-then-last : goal.returns-then-last
returns-then-last c = closed_last c.take_alone.ensures (not-false _ c.if-not-t.false) c.if-last.true refl

pub returns : goal.returns
returns c = closed_as c.stays_pending.ensures (closed_wait c.requires.answer_value.1 (not-false _ c.if-not-t.false) c.if-last.false)
