use Rattle.capi.specs.Interface.{handed}
use Rattle.capi.proofs.TillHandedFromOptionRun.from.Goals as goal

pub returns-in-Some : goal.returns-in-Some
unfolding handed
returns-in-Some c = rw (c.in-Some.is, ← c.from-run.ensures)

pub returns-in-None : goal.returns-in-None
unfolding handed
returns-in-None c = rw (c.in-None.is, ← c.no_run-run.ensures)
