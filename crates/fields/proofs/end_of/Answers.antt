use borrow.Author.Tests.{eq-eqb, ne_eqb}
use Rattle.fields.proofs.end_of.Goals as goal

pub returns-then-unit-eq-BAR : goal.returns-then-unit-eq-BAR
returns-then-unit-eq-BAR c = simp (eq-eqb _ _ c.if-unit-eq-BAR.true)

pub returns : goal.returns
returns c = simp (ne_eqb _ _ c.if-unit-eq-BAR.false)
