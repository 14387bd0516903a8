use mathlib.Core.Bool.{true}
use mathlib.Core.List.{List}
use mathlib.Core.Path.{◌≡◌}
use Prim.Native.Nat.{ℕ, ◌-◌, ◌≤◌}
use lib.ListN.{length}
use Rattle.codepage.specs.Reading.{decoder}
use Rattle.engine.specs.declared.Policy.{Policy}
use Rattle.codepage_lookup.specs.Profile.{PlainPage}
use Rattle.findings.specs.Steps.{Passed}
use Rattle.findings.proofs.pass_plain.Given as goal

abbrev pub invariant-loop-place : goal.invariant-loop-place
invariant-loop-place l = (l.place ≤ length l.text) × ((policy : Policy) (classes singles pairs : List ℕ) → (l.plain ≡ true → PlainPage classes singles) → Passed (decoder classes singles pairs) policy l.text l.from l.place)

abbrev pub decreases-loop-place : goal.decreases-loop-place
decreases-loop-place l = length l.text - l.place
