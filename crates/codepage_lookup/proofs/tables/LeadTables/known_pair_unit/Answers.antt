use native.Mathlib.Omega.{arith}
use Rattle.codepage_lookup.proofs.TableLaws.{pair_room}
use Rattle.codepage_lookup.proofs.tables.LeadTables.known_pair_unit.Goals as goal

pub known_pair_unit-requires-clause-classes_len : goal.known_pair_unit-requires-clause-classes_len
known_pair_unit-requires-clause-classes_len c =
    let tables = c.args.self.now.tables in
    (tables.all_classes, c.requires.is_lead, omega (arith, pair_room _ _ _ tables.all_pairs c.requires.is_lead))
