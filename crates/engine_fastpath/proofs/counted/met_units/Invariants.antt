use Prim.Native.Nat.{◌-◌}
use lib.ListN.{length}
use Rattle.codepage_lookup.specs.Tables.{unit_reader}
use Rattle.engine_fastpath.specs.Counts.{Met}
use Rattle.engine_fastpath.proofs.counted.met_units.Given as goal

abbrev pub invariant-loop-i : goal.invariant-loop-i
invariant-loop-i l = Met (unit_reader l.tables) l.text l.from l.i l.w
