use borrow.Author.Tests.{le-leb, lt-leb}
use Rattle.codepage.specs.CodePage.{is_known}
use Rattle.codepage.proofs.is_known_class.Goals as goal

pub returns-then-class-le2 : goal.returns-then-class-le2
unfolding is_known
returns-then-class-le2 c = rw (le-leb _ _ c.if-class-le2.true)

pub returns-then-class-lt4 : goal.returns-then-class-lt4
unfolding is_known
returns-then-class-lt4 c = rw (lt-leb _ _ c.if-class-le2.false, lt-leb _ _ c.if-class-lt4.true)

pub returns : goal.returns
unfolding is_known
returns c = rw (lt-leb _ _ c.if-class-le2.false, le-leb _ _ c.if-class-lt4.false)
