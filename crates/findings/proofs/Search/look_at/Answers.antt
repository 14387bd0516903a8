use native.Mathlib.Omega.{arith}
use Rattle.findings.proofs.FindingLaws.{read_inside, looked_found, looked_lacking}
use Rattle.findings.proofs.Search.look_at.Goals as goal

pub overflow_add-end : goal.overflow_add-end
overflow_add-end c = let inside = read_inside _ _ _ _ c.code_in-read.ensures in omega (arith, inside.2)

pub finding_at-finding-requires : goal.finding_at-finding-requires
finding_at-finding-requires c = read_inside _ _ _ _ c.code_in-read.ensures

pub returns-in-Ok : goal.returns-in-Ok
returns-in-Ok c = looked_found _ _ _ _ _ c.code_in-read.ensures c.requires _ c.in-Ok.is

pub returns-in-Err : goal.returns-in-Err
returns-in-Err c = looked_lacking _ _ _ _ _ c.code_in-read.ensures c.requires _ _ c.in-Err.is c.finding_at-finding.ensures
