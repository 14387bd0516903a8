use Rattle.lister.proofs.LineLaws.{over_none}
use Rattle.lister.proofs.lines.put_line.Goals as goal

pub returns-in-NoRecord : goal.returns-in-NoRecord
returns-in-NoRecord c = rw c.in-NoRecord.is (over_none _)
