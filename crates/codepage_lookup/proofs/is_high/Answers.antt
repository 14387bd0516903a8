use borrow.Author.Tests.{lt-leb, le-leb}
use Rattle.codepage.specs.Reading.{is_high}
use Rattle.codepage_lookup.proofs.is_high.Goals as goal

pub returns-then-unit-lt55296 : goal.returns-then-unit-lt55296
unfolding is_high
returns-then-unit-lt55296 c = rw (lt-leb 0xD800 _ c.if-unit-lt55296.true)

pub returns : goal.returns
unfolding is_high
returns c = rw (le-leb 0xD800 _ c.if-unit-lt55296.false)
