use Prim.Native.Nat.{◌-◌, ◌≤◌}
use lib.ListN.{length}
use Rattle.codepage.specs.Reading.{Reader}
use Rattle.codepage_walk.specs.Checks.{ForClasses}
use Rattle.linebreak.proofs.LoopLaws.{Counting}
use Rattle.linebreak.proofs.count_breaks.Given as goal

abbrev pub invariant-loop-start : goal.invariant-loop-start
invariant-loop-start l = (l.count ≤ l.start) × (l.start ≤ length l.text) × ForClasses l.classes (λ (r : Reader). Counting r l.text l.width l.start l.count)

abbrev pub decreases-loop-start : goal.decreases-loop-start
decreases-loop-start l = length l.text - l.start
