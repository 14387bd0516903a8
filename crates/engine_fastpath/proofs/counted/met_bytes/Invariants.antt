use Prim.Native.Nat.{◌+◌, ◌-◌, ◌≤◌}
use Rattle.codepage_lookup.specs.Tables.{unit_reader}
use Rattle.engine_fastpath.specs.Counts.{Met}
use Rattle.engine_fastpath.proofs.counted.met_bytes.Given as goal

abbrev pub invariant-loop-k : goal.invariant-loop-k
invariant-loop-k l = (l.k ≤ l.n) × Met (unit_reader l.tables) l.text l.from (l.from + l.k) l.k
