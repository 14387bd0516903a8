use Prim.Native.Nat.{◌-◌}
use lib.ListN.{length}
use Rattle.codepage_lookup.specs.Tables.{byte_reader}
use Rattle.findings.specs.Steps.{Passed}
use Rattle.findings.proofs.Search.find_from.Given as goal

abbrev pub invariant-loop-place : goal.invariant-loop-place
invariant-loop-place l = Passed (byte_reader l.self.tables.tables) l.self.policy l.self.text.now l.from l.place

abbrev pub decreases-loop-place : goal.decreases-loop-place
decreases-loop-place l = length l.self.text.now - l.place
