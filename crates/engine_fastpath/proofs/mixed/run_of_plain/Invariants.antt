use Rattle.codepage_lookup.specs.Profile.{PlainPage}
use Rattle.engine_fastpath.specs.Runs.{Ran}
use Rattle.codepage.specs.Reading.{decoder}
use mathlib.Core.List.{List}
use mathlib.Core.Path.{◌≡◌}
use Prim.Native.Nat.{ℕ, ◌+◌, ◌-◌, ◌≤◌}
use lib.ListN.{length}
use Rattle.engine_fastpath.proofs.mixed.run_of_plain.Given as goal

abbrev pub invariant-loop-k : goal.invariant-loop-k
invariant-loop-k l = (l.k ≤ l.n) × (length l.out ≡ length l.initial.out) × ((classes singles pairs : List ℕ) → PlainPage classes singles → Ran (decoder classes singles pairs) l.piece l.initial.out l.from l.at l.out (l.from + l.k) (l.at + l.k))

abbrev pub decreases-loop-k : goal.decreases-loop-k
decreases-loop-k l = l.n - l.k
