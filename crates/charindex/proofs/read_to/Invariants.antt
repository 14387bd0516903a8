use Prim.Native.Nat.{◌-◌, ◌≤◌}
use lib.ListN.{length}
use Rattle.codepage.specs.Reading.{Reader}
use Rattle.codepage_walk.specs.Checks.{ForClasses}
use Rattle.charindex.proofs.EntryLaws.{Reading}
use Rattle.charindex.proofs.read_to.Given as goal

abbrev pub invariant-loop-at : goal.invariant-loop-at
invariant-loop-at l = (l.initial.at.count ≤ l.at.count) × (l.at.count ≤ l.at.place) × (l.at.place ≤ length l.text) × ForClasses l.classes (λ (r : Reader). Reading r l.text l.initial.at.place l.initial.at.count l.to l.at.place l.at.count)

abbrev pub decreases-loop-at : goal.decreases-loop-at
decreases-loop-at l = l.to - l.at.place
