use Prim.Native.Nat.{ℕ}
use lib.ListN.{length}
use mathlib.Core.Bool.{false}
use mathlib.Core.List.{List}
use mathlib.Core.Path.{◌≡◌}
use Rattle.engine.specs.Engine.{Fed}
use Rattle.engine.specs.Converters.{by_bytes}
use Rattle.engine_loops.specs.Turns.{steps_left, Ready, Loop}
use Rattle.engine_loops.proofs.decoder.singles_rest.Given as goal

abbrev pub invariant-loop-t : goal.invariant-loop-t
invariant-loop-t l = let v = by_bytes l.v in
    Ready l.piece l.out l.t × (l.t.waits ≡ false) × (length l.out ≡ length l.initial.out) × ((F : Fed) (before : List ℕ) → Loop v l.last F before l.piece l.initial.out l.initial.t → Loop v l.last F before l.piece l.out l.t)

abbrev pub decreases-loop-t : goal.decreases-loop-t
decreases-loop-t l = steps_left l.piece l.t
