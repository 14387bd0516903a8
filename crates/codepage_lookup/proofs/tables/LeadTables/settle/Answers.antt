use Rattle.codepage_lookup.proofs.TableLaws.{pair_room}
use Rattle.codepage_lookup.proofs.tables.LeadTables.settle.Goals as goal

pub settle-requires-clause-classes_len : goal.settle-requires-clause-classes_len
settle-requires-clause-classes_len c =
    let t = c.args.self.now.tables in
    (t.all_classes, c.requires, pair_room _ _ _ t.all_pairs c.requires)
