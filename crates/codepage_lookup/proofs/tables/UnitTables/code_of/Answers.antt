use Rattle.codepage_lookup.proofs.ProfileLaws.{code_found}
use Rattle.codepage_lookup.proofs.tables.UnitTables.code_of.Goals as goal

pub returns : goal.returns
returns c = λ n. code_found _ _ _ _ c.requires c.entry.ensures n
