use mathlib.Core.Bool.{true}
use mathlib.Core.List.{List}
use mathlib.Core.Path.{◌≡◌}
use Prim.Native.Nat.{ℕ, ◌+◌, ◌-◌, ◌≤◌}
use Rattle.codepage.specs.Reading.{decoder}
use Rattle.engine_fastpath.specs.Counts.{Met}
use Rattle.codepage_lookup.specs.Profile.{PlainPage}
use Rattle.engine_fastpath.proofs.counted.met_plain.Given as goal

abbrev pub invariant-loop-k : goal.invariant-loop-k
invariant-loop-k l = (l.k ≤ l.n) × ((classes singles pairs : List ℕ) → (l.plain ≡ true → PlainPage classes singles) → Met (decoder classes singles pairs) l.text l.from (l.from + l.k) l.k)

abbrev pub decreases-loop-k : goal.decreases-loop-k
decreases-loop-k l = l.n - l.k
