use Prim.Native.Nat.{◌-◌}
use lib.ListN.{length}
use Rattle.codepage_lookup.specs.Tables.{byte_reader}
use Rattle.engine_fastpath.specs.Counts.{Met}
use Rattle.engine_fastpath.proofs.counted.met_long.Given as goal

abbrev pub invariant-loop-i : goal.invariant-loop-i
invariant-loop-i l = Met (byte_reader l.tables.tables) l.text l.from l.i l.w

abbrev pub decreases-loop-i : goal.decreases-loop-i
decreases-loop-i l = length l.text - l.i
