use mathlib.Core.Path.{◌≡◌}
use Prim.Native.Nat.{◌≤◌}
use lib.ListN.{length, take, drop}
use Rattle.codepage.specs.Reading.{Reader}
use Rattle.codepage_walk.specs.Checks.{ForClasses}
use Rattle.linebreak.proofs.OursLaws.{Going}
use Rattle.linebreak.proofs.write_breaks.Given as goal

abbrev pub invariant-loop-i : goal.invariant-loop-i
invariant-loop-i l = (l.start ≤ length l.text) × (length l.out ≡ length l.initial.out) × (drop l.i l.out ≡ drop l.i l.initial.out) × ForClasses l.classes (λ (r : Reader). Going r l.text l.width l.start (take l.i l.out))
