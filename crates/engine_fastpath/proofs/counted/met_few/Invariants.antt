use Prim.Native.Nat.{◌+◌, ◌-◌, ◌*◌, ◌≤◌}
use lib.ListN.{length}
use Rattle.codepage_lookup.specs.Tables.{byte_reader}
use Rattle.engine_fastpath.specs.Counts.{Met}
use Rattle.engine_fastpath.proofs.counted.met_few.Given as goal

abbrev pub invariant-loop-k : goal.invariant-loop-k
invariant-loop-k l = (l.k ≤ l.n) × (l.i ≤ l.from + 2 * l.k) × (l.from + 2 * l.n ≤ length l.text) × Met (byte_reader l.tables.tables) l.text l.from l.i l.k

abbrev pub decreases-loop-k : goal.decreases-loop-k
decreases-loop-k l = l.n - l.k
