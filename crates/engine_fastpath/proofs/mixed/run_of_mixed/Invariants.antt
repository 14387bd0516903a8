use Rattle.engine_fastpath.specs.Runs.{Ran}
use Rattle.codepage_lookup.specs.Tables.{byte_reader}
use mathlib.Core.Path.{◌≡◌}
use Prim.Native.Nat.{◌+◌, ◌-◌, ◌≤◌}
use lib.ListN.{length}
use Rattle.engine_fastpath.proofs.mixed.run_of_mixed.Given as goal

abbrev pub invariant-loop-i : goal.invariant-loop-i
invariant-loop-i l = (l.i ≤ l.end) × (l.w + (l.end - l.i) ≤ length l.initial.out) × (length l.out ≡ length l.initial.out) × Ran (byte_reader l.tables.tables) l.piece l.initial.out l.from l.at l.out l.i l.w

abbrev pub decreases-loop-i : goal.decreases-loop-i
decreases-loop-i l = l.end - l.i
