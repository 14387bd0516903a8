use Rattle.capi.specs.Interface.{run_out}
use Rattle.capi.proofs.TillRunFromRun.from.Goals as goal

pub returns : goal.returns
unfolding run_out
returns c = rw (← c.pending_out-byte.ensures, ← c.direction_out-number.ensures, ← c.flag_out-ended.ensures)
