use mathlib.Core.Path.{◌≡◌}
use Prim.Native.Nat.{◌+◌, ◌*◌, ◌-◌, ◌≤◌}
use lib.ListN.{length}
use Rattle.codepage_lookup.specs.Tables.{unit_reader}
use Rattle.engine_fastpath.specs.Runs.{Ran}
use Rattle.engine_fastpath.proofs.runs.run_of_some.Given as goal

abbrev pub invariant-loop-k : goal.invariant-loop-k
invariant-loop-k l = (l.k ≤ l.n) × (length l.out ≡ length l.initial.out) × (l.w + 2 * (l.n - l.k) ≤ length l.initial.out) × Ran (unit_reader l.tables) l.piece l.initial.out l.from l.at l.out (l.from + l.k) l.w
