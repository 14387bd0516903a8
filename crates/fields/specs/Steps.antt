-- What the inner functions promise.
use Rattle.std.specs.Prelude.{Bool, ◌||◌, List, [], ◌∷◌, ◌≡◌, ℕ, ◌+◌, ◌*◌, ◌<◌, eqb, length, take, drop}
use Rattle.std.specs.Int.Bits.{bit_and, bit_or}
use Rattle.codepage.specs.CodePage.{pick}
use Rattle.fields.specs.declared.End.{End}
use Rattle.fields.specs.declared.End.TheVariants.{Bar, LineFeed}
use Rattle.fields.specs.Fields.{field_units}

-- whether a unit is a bar or a line feed, as the program asks it
abbrev pub is_separator : (unit : ℕ) → Bool
is_separator unit = eqb unit 0x7C || eqb unit 0x0A

-- what a separator is
abbrev pub separator_end : (unit : ℕ) → End
separator_end unit = pick (eqb unit 0x7C) Bar LineFeed

-- the scan of a block: no separator stands before a place
abbrev pub NoSeparator : (block : List ℕ) → (place : ℕ) → Type 0
NoSeparator block place = length (field_units block) ≡ place + length (field_units (drop place block))

-- ---- four units as one word
-- the four units at a place
unfoldable pub four_at : (block : List ℕ) → (place : ℕ) → List ℕ
four_at block place = take 4 (drop place block)

-- units as one word: the first is its lowest
unfoldable pub word_of : (units : List ℕ) → ℕ
word_of [] = 0
word_of (unit ∷ units) = word_of units * 0x10000 + unit

-- each unit is below 10000
unfoldable pub AreUnits : (units : List ℕ) → Type 0
AreUnits [] = Unit {0}
AreUnits (unit ∷ units) = (unit < 0x10000) × AreUnits units

-- a word is the four units at a place
pub record WordAt (block : List ℕ) (place word : ℕ) : Type 0 where
  pub small : AreUnits (four_at block place)
  pub value : word ≡ word_of (four_at block place)

-- the marks of units: 8000 for one that is no separator, 0 for a separator
unfoldable pub marks_of : (units : List ℕ) → ℕ
marks_of [] = 0
marks_of (unit ∷ units) = marks_of units * 0x10000 + pick (is_separator unit) 0 0x8000

-- a word that has the top bit of each unit that is not 0; `low` has the other bits of each
abbrev pub nonzero_marked : (low word : ℕ) → ℕ
nonzero_marked low word = bit_or (bit_and word low + low) word
