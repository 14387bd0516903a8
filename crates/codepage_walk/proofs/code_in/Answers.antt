use native.Mathlib.Omega.{arith}
use Rattle.codepage_lookup.proofs.TableLaws.{pair_room}
use Rattle.codepage_walk.proofs.code_in.Goals as goal

pub code_at-requires-clause-by_index : goal.code_at-requires-clause-by_index
code_at-requires-clause-by_index c =
    λ lead _ is. omega (arith, pair_room _ _ _ c.args.tables.now.tables.all_pairs is)
