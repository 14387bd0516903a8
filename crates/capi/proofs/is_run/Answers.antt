use borrow.Author.Tests.{le-leb, lt-leb}
use mathlib.Core.Path.{sym, ◌∙◌}
use Rattle.capi.specs.Interface.{is_run}
use Rattle.capi.proofs.is_run.Goals as goal

pub returns-then-run-gt1 : goal.returns-then-run-gt1
unfolding is_run
returns-then-run-gt1 c = rw (lt-leb _ _ c.if-run-gt1.true)

pub returns-then-not-is_pending : goal.returns-then-not-is_pending
unfolding is_run
returns-then-not-is_pending c = rw (le-leb _ _ c.if-run-gt1.false, sym c.is_pending.ensures ∙ c.if-not-is_pending.true)

pub returns : goal.returns
unfolding is_run
returns c = rw (le-leb _ _ c.if-run-gt1.false, sym c.is_pending.ensures ∙ c.if-not-is_pending.false)
