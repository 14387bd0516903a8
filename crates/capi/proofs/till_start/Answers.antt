use Rattle.capi.specs.Interface.{till_start, handed, start_out}
use borrow.Author.Tests.{le-leb, lt-leb}
use mathlib.Core.Path.{◌∙◌, ap}
use Rattle.capi.proofs.till_start.Goals as goal

pub returns-then-direction-gt1 : goal.returns-then-direction-gt1
unfolding till_start handed
returns-then-direction-gt1 c = rw (lt-leb _ _ c.if-direction-gt1.true, ← c.no_run-run.ensures)

pub returns : goal.returns
unfolding till_start
returns c = rw (le-leb _ _ c.if-direction-gt1.false, ← c.direction_in-way.ensures) (c.from.ensures ∙ ap start_out c.start-started.ensures)
