use mathlib.Core.Bool.{true}
use mathlib.Core.Path.{◌≡◌}
use Prim.Native.Nat.{◌≤◌}
use lib.ListN.{length}
use Rattle.engine.specs.Converters.{by_bytes}
use Rattle.engine_loops.specs.Turns.{steps_left}
use Rattle.engine_loops.specs.Counts.{Counting}
use Rattle.engine_loops.proofs.counter.count_codes.Given as goal

abbrev pub invariant-loop-t : goal.invariant-loop-t
invariant-loop-t l = Counting (by_bytes l.v) l.text l.t × (l.t.waits ≡ true → length l.text ≤ l.t.at)

abbrev pub decreases-loop-t : goal.decreases-loop-t
decreases-loop-t l = steps_left l.text l.t
