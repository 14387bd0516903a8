use Rattle.capi.specs.Interface.{run_on}
use Rattle.capi.proofs.run_on.Goals as goal

pub returns : goal.returns
unfolding run_on
returns c = rw (← c.direction_in-direction.ensures, ← c.pending_in-pending.ensures)
