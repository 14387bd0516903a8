use borrow.Author.Tests.{eq-eqb, ne_eqb}
use Rattle.codepage.specs.CodePage.{is_single}
use Rattle.codepage.proofs.is_single_class.Goals as goal

pub returns-then-class-eq1 : goal.returns-then-class-eq1
unfolding is_single
returns-then-class-eq1 c = rw (eq-eqb _ _ c.if-class-eq1.true)

pub returns : goal.returns
unfolding is_single
returns c = rw (ne_eqb _ _ c.if-class-eq1.false)
