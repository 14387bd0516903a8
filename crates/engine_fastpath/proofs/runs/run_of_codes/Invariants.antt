use Rattle.engine_fastpath.specs.Runs.{Ran}
use Rattle.codepage.specs.CodePage.{entry_at}
use Rattle.codepage_lookup.specs.Tables.{byte_reader}
use lib.ListN.{length}
use Prim.Native.Nat.{◌+◌, ◌≤◌, ◌-◌}
use mathlib.Core.Path.{◌≡◌}
use Rattle.engine_fastpath.proofs.runs.run_of_codes.Given as goal

abbrev pub invariant-loop-i : goal.invariant-loop-i
invariant-loop-i l = (length l.out ≡ length l.initial.out) × (l.i ≤ l.end) × (l.end ≤ length l.piece) × (l.w + (l.end - l.i) ≤ length l.out) × (l.class ≡ entry_at l.tables.tables.classes.now (entry_at l.piece l.i)) × Ran (byte_reader l.tables.tables) l.piece l.initial.out l.from l.at l.out l.i l.w

abbrev pub decreases-loop-i : goal.decreases-loop-i
decreases-loop-i l = l.end - l.i
