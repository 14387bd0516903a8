-- The size of the code at a place of a text: one or two bytes, inside the text.
use mathlib.Core.List.{List}
use mathlib.Core.Path.{◌≡◌}
use mathlib.Core.Logic.{◌⊎◌, inl, inr}
use Prim.Native.Nat.{ℕ, ◌+◌, ◌≤◌}
use native.Mathlib.Omega.{arith}
use lib.ListN.{length, drop}
use Rattle.codepage.specs.Reading.{Reader, size_of, codes}
use Rattle.codepage_walk.specs.Walk.{SizedAs}
use Rattle.codepage_walk.proofs.WalkLaws.{codes_next, sized_small}

-- a code has one or two bytes, within its text
pub size_inside : (r : Reader) (text : List ℕ) (place size : ℕ) → SizedAs r text place size → (1 ≤ size) × (size ≤ 2) × (place + size ≤ length text)
size_inside r text place size s = by (sized_small r text place size s)
  where
    inside : place + size ≤ length text
    inside = omega (arith, s.sized, (codes_next r text place s.code (codes r (drop (place + size_of s.code) text)) s.at.here).inside)

    by : (size ≡ 1) ⊎ (size ≡ 2) → (1 ≤ size) × (size ≤ 2) × (place + size ≤ length text)
    by (inl one) = (omega arith, omega arith, inside)
    by (inr two) = (omega arith, omega arith, inside)
