use mathlib.Core.Path.{◌≡◌}
use Prim.Native.Nat.{◌+◌, ◌-◌, ◌≤◌}
use lib.ListN.{length}
use Rattle.codepage_lookup.specs.Tables.{unit_reader}
use Rattle.engine_fastpath.specs.Runs.{Ran}
use Rattle.engine_fastpath.proofs.runs.run_of_bytes.Given as goal

abbrev pub invariant-loop-k : goal.invariant-loop-k
invariant-loop-k l = (l.k ≤ l.n) × (length l.out ≡ length l.initial.out) × Ran (unit_reader l.tables) l.piece l.initial.out l.from l.at l.out (l.from + l.k) (l.at + l.k)

abbrev pub decreases-loop-k : goal.decreases-loop-k
decreases-loop-k l = l.n - l.k
