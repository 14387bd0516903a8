use borrow.Author.Tests.{lt-leb, le-leb}
use Rattle.codepage.specs.Reading.{is_low}
use Rattle.codepage_lookup.proofs.is_low.Goals as goal

pub returns-then-unit-lt56320 : goal.returns-then-unit-lt56320
unfolding is_low
returns-then-unit-lt56320 c = rw (lt-leb 0xDC00 _ c.if-unit-lt56320.true)

pub returns : goal.returns
unfolding is_low
returns c = rw (le-leb 0xDC00 _ c.if-unit-lt56320.false)
