use mathlib.Core.List.{List}
use Prim.Native.Nat.{ℕ, ◌+◌, ◌-◌, ◌≤◌}
use Rattle.codepage_lookup.specs.Tables.{byte_reader}
use Rattle.engine_fastpath.specs.Counts.{Met}
use Rattle.engine_fastpath.proofs.counted.met_alone.Given as goal

abbrev pub invariant-loop-k : goal.invariant-loop-k
invariant-loop-k l = (l.k ≤ l.n) × Met (byte_reader l.tables) l.text l.from (l.from + l.k) l.k
