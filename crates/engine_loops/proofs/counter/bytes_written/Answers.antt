use borrow.Author.Tests.{eq-eqb, ne_eqb}
use Rattle.engine.specs.Steps.{byte_effect}
use Rattle.engine_loops.proofs.counter.bytes_written.Goals as goal

pub returns-then-d-eq0 : goal.returns-then-d-eq0
unfolding byte_effect
returns-then-d-eq0 c = rw (eq-eqb _ _ c.if-d-eq0.true)

pub returns-then-d-eq1 : goal.returns-then-d-eq1
unfolding byte_effect
returns-then-d-eq1 c = rw (ne_eqb _ _ c.if-d-eq0.false, eq-eqb _ _ c.if-d-eq1.true)

pub returns : goal.returns
unfolding byte_effect
returns c = rw (ne_eqb _ _ c.if-d-eq0.false, ne_eqb _ _ c.if-d-eq1.false)
