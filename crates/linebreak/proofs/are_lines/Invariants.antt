use mathlib.Core.Path.{◌≡◌}
use Prim.Native.Nat.{◌≤◌}
use lib.ListN.{length, drop}
use Rattle.codepage.specs.Reading.{Reader}
use Rattle.codepage_walk.specs.Checks.{ForClasses}
use Rattle.linebreak.specs.Steps.{lines_good}
use Rattle.linebreak.proofs.are_lines.Given as goal

abbrev pub invariant-loop-end : goal.invariant-loop-end
invariant-loop-end l = (l.start ≤ length l.text) × ForClasses l.classes (λ (r : Reader). lines_good r l.text l.width 0 l.breaks ≡ lines_good r l.text l.width l.start (drop l.end-index l.breaks))
