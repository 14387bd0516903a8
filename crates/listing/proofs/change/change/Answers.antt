use native.Mathlib.Omega.{arith}
use Rattle.listing.proofs.ChangeLaws.{classes_room, singles_room, index_room, pairs_room, blocks_room, lead_listed, pair_listed, pair_room, code_room}
use Rattle.listing.proofs.change.change.Goals as goal

pub empty_tables-requires : goal.empty_tables-requires
empty_tables-requires c =
    (classes_room c.requires, singles_room c.requires, index_room c.requires, blocks_room c.requires)

pub put_class-requires : goal.put_class-requires
put_class-requires c = classes_room c.requires

pub bounds-singles-byte : goal.bounds-singles-byte
bounds-singles-byte c = omega (arith, singles_room c.requires)

pub put_lead-requires : goal.put_lead-requires
put_lead-requires c =
    (classes_room c.requires, pairs_room c.requires, lead_listed c.requires _ c.in-Lead.is)

pub put_class-requires-in-Trail : goal.put_class-requires-in-Trail
put_class-requires-in-Trail c = classes_room c.requires

pub put_pair-requires : goal.put_pair-requires
put_pair-requires c = (pair_room c.requires _ _ c.in-Pair.is, pair_listed c.requires _ _ c.in-Pair.is)

pub put_code-requires : goal.put_code-requires
put_code-requires c = (index_room c.requires, code_room c.requires _ _ c.in-Code.is)
