use Rattle.codepage.specs.Reading.{bytes_of}
use borrow.Author.Tests.{le-leb, lt-leb}
use Rattle.engine_fastpath.proofs.runs.byte_count.Goals as goal

pub returns-then-code-le255 : goal.returns-then-code-le255
unfolding bytes_of
returns-then-code-le255 c = rw (le-leb _ _ c.if-code-le255.true)

pub returns : goal.returns
unfolding bytes_of
returns c = rw (lt-leb _ _ c.if-code-le255.false)
