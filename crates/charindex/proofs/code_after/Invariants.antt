use mathlib.Core.Path.{◌≡◌}
use Prim.Native.Nat.{◌-◌, ◌≤◌}
use lib.ListN.{length}
use Rattle.codepage.specs.Reading.{Reader}
use Rattle.charindex.specs.Index.{codes_from, code_number}
use Rattle.codepage_walk.specs.Checks.{ForClasses}
use Rattle.charindex.proofs.code_after.Given as goal

abbrev pub invariant-loop : goal.invariant-loop
invariant-loop l = (l.place ≤ length l.journal) × ForClasses l.classes (λ (r : Reader). code_number (l.skipped - l.counter) (codes_from r l.journal l.place) ≡ code_number l.skipped (codes_from r l.journal l.from))
