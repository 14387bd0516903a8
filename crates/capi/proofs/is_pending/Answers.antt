use borrow.Author.Tests.{le-leb, lt-leb}
use mathlib.Core.Path.{sym}
use Rattle.capi.specs.Interface.{is_pending}
use Rattle.capi.proofs.is_pending.Goals as goal

pub returns-then-number-le256 : goal.returns-then-number-le256
unfolding is_pending
returns-then-number-le256 c = rw (le-leb _ _ c.if-number-le256.true)

pub returns : goal.returns
unfolding is_pending
returns c = rw (lt-leb _ _ c.if-number-le256.false, sym c.is_high.ensures)
