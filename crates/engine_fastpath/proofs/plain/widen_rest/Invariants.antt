use Rattle.engine_fastpath.specs.Runs.{Copied}
use lib.ListN.{length}
use Prim.Native.Nat.{ℕ, ◌≤◌, ◌-◌}
use mathlib.Core.List.{List}
use mathlib.Core.Path.{◌≡◌}
use Rattle.engine_fastpath.proofs.plain.widen_rest.Given as goal

abbrev pub invariant-loop-i : goal.invariant-loop-i
invariant-loop-i l = (l.i ≤ length l.piece) × (length l.out ≡ length l.initial.out) × ((before : List ℕ) → Copied l.piece before l.initial.out l.from → Copied l.piece before l.out l.i)
