use borrow.Author.Tests.{eq-eqb, ne_eqb}
use Rattle.codepage.specs.CodePage.{is_lead}
use Rattle.codepage.proofs.is_lead_class.Goals as goal

pub returns-then-class-eq2 : goal.returns-then-class-eq2
unfolding is_lead
returns-then-class-eq2 c = rw (eq-eqb _ _ c.if-class-eq2.true)

pub returns : goal.returns
unfolding is_lead
returns c = rw (ne_eqb _ _ c.if-class-eq2.false)
