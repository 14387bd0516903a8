use Rattle.convert.specs.Calls.{ended_after}
use Rattle.convert.proofs.CallLaws.{ended_no}
use Rattle.convert.proofs.finish.ended_after.Goals as goal

pub returns-in-Stopped : goal.returns-in-Stopped
unfolding ended_after
returns-in-Stopped c = rw c.in-Stopped.is

pub returns-in-AllRead : goal.returns-in-AllRead
unfolding ended_after
returns-in-AllRead c = rw c.in-AllRead.is

pub returns-in_default : goal.returns-in_default
returns-in_default c = ended_no c.args.last c.args.answer c.in_default.not-Stopped c.in_default.not-AllRead
