use Rattle.capi.proofs.InterfaceLaws.{start_refused}
use Rattle.capi.specs.Interface.{handed}
use Rattle.capi.proofs.TillHandedFromResultRunStartError.from.Goals as goal

pub returns-in-Ok : goal.returns-in-Ok
unfolding handed
returns-in-Ok c = rw (c.in-Ok.is, ← c.from-run.ensures)

pub returns-in-Err-NotAllowed : goal.returns-in-Err-NotAllowed
unfolding handed
returns-in-Err-NotAllowed c = rw (c.in-Err-NotAllowed.is, start_refused c.in-Err-NotAllowed.field-0, ← c.no_run-run.ensures)
