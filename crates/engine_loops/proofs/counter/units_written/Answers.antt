use borrow.Author.Tests.{eq-eqb, ne_eqb}
use Rattle.engine.specs.Steps.{unit_effect}
use Rattle.engine_loops.proofs.counter.units_written.Goals as goal

pub returns-then-d-eq0 : goal.returns-then-d-eq0
unfolding unit_effect
returns-then-d-eq0 c = rw (eq-eqb _ _ c.if-d-eq0.true)

pub returns : goal.returns
unfolding unit_effect
returns c = rw (ne_eqb _ _ c.if-d-eq0.false)
