use mathlib.Core.Path.{sym, ◌∙◌}
use Rattle.checkpoint.specs.Line.{closing_of}
use Rattle.checkpoint.proofs.PlaceLaws.{closing_out, closing_on, closing_over, closing_none}
use Rattle.checkpoint.proofs.reader.closing_at.Goals as goal

pub returns-then-line-at : goal.returns-then-line-at
returns-then-line-at c = sym (closing_out _ _ c.if-line-at.true)

pub returns-then-rest_is : goal.returns-then-rest_is
unfolding closing_of
returns-then-rest_is c = closing_on _ _ c.if-line-at.false (sym c.rest_is.ensures ∙ c.if-rest_is.true)

pub returns-then-rest_is-2 : goal.returns-then-rest_is-2
unfolding closing_of
returns-then-rest_is-2 c = closing_over _ _ c.if-line-at.false (sym c.rest_is.ensures ∙ c.if-rest_is.false) (sym c.rest_is-2.ensures ∙ c.if-rest_is-2.true)

pub returns : goal.returns
unfolding closing_of
returns c = sym (closing_none _ _ c.if-line-at.false (sym c.rest_is.ensures ∙ c.if-rest_is.false) (sym c.rest_is-2.ensures ∙ c.if-rest_is-2.false))
