use borrow.Author.Tests.{lt-ltb, le-ltb}
use Rattle.findings.proofs.second_byte.Goals as goal

pub returns-then-size-gt1 : goal.returns-then-size-gt1
returns-then-size-gt1 c = rw (lt-ltb _ _ c.if-size-gt1.true)

pub returns : goal.returns
returns c = rw (le-ltb _ _ c.if-size-gt1.false)
