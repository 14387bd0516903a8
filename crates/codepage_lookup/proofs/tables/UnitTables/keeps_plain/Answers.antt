use Rattle.codepage_lookup.proofs.ProfileLaws.{plain_unit}
use Rattle.codepage_lookup.proofs.tables.UnitTables.keeps_plain.Goals as goal

pub returns : goal.returns
returns c = λ e unit h. plain_unit c.args.self.now.index.now c.args.self.now.blocks.now unit h (c.counts_up.ensures e unit h)
