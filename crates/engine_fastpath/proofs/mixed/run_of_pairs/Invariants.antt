use Rattle.engine_fastpath.specs.Runs.{Ran}
use Rattle.codepage_lookup.specs.Tables.{byte_reader}
use mathlib.Core.List.{List}
use mathlib.Core.Path.{◌≡◌}
use Prim.Native.Nat.{ℕ, ◌+◌, ◌-◌, ◌*◌, ◌≤◌}
use lib.ListN.{length}
use Rattle.engine_fastpath.proofs.mixed.run_of_pairs.Given as goal

abbrev pub invariant-loop-k : goal.invariant-loop-k
invariant-loop-k l = (l.k ≤ l.most) × (length l.out ≡ length l.initial.out) × Ran (byte_reader l.tables.tables) l.piece l.initial.out l.from l.at l.out (l.from + 2 * l.k) (l.at + l.k)
