use mathlib.Core.Path.{◌≡◌}
use Prim.Native.Nat.{◌*◌, ◌≤◌}
use lib.ListN.{length, drop}
use Rattle.codepage.specs.Reading.{Reader}
use Rattle.codepage_walk.specs.Checks.{ForClasses}
use Rattle.charindex.proofs.WriteLaws.{Writing}
use Rattle.charindex.proofs.write_entries.Given as goal

abbrev pub invariant-loop-block : goal.invariant-loop-block
invariant-loop-block l = (length l.entries ≡ length l.initial.entries) × (l.at.place ≤ 512 * l.block) × (l.at.place ≤ length l.journal) × (l.at.count ≤ l.at.place) × (drop l.block l.entries ≡ drop l.block l.initial.entries)
    × ForClasses l.classes (λ (r : Reader). Writing r l.journal l.fn.start.place l.fn.start.count l.first l.initial.entries l.at.place l.at.count l.block l.entries)
