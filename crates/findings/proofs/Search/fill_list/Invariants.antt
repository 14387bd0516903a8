use Rattle.codepage_lookup.specs.Tables.{byte_reader}
use Rattle.findings.proofs.FillLaws.{Filling}
use Rattle.findings.proofs.Search.fill_list.Given as goal

abbrev pub invariant-loop-count : goal.invariant-loop-count
invariant-loop-count l = Filling (byte_reader l.self.tables.tables) l.self.policy l.self.text.now l.fn.list l.place l.count l.list
