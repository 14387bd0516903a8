use Rattle.engine.proofs.DecodeLaws.{units_stop, units_none, units_one, units_full}
use Rattle.engine.proofs.progress.take_units.Goals as goal

pub returns-then-d : goal.returns-then-d
returns-then-d c = rw c.stopped.ensures (units_stop _ _ _ _ c.requires.0 c.if-d.true)

pub returns-then-d-eq0 : goal.returns-then-d-eq0
returns-then-d-eq0 c = rw c.taken.ensures (units_none _ _ _ _ c.requires.0 c.if-d.false c.if-d-eq0.true)

pub returns-then-out-at : goal.returns-then-out-at
returns-then-out-at c = rw c.full.ensures (units_full _ _ _ _ c.requires.0 c.if-d.false c.if-d-eq0.false c.if-out-at.true)

pub returns : goal.returns
returns c = rw c.taken-2.ensures (units_one _ _ _ _ c.requires.0 c.if-d.false c.if-d-eq0.false c.if-out-at.false)
