-- What the words of a console line mean. (docs/CONSOLE.md; docs/CONSOLE_NOTES.md, 4, 7 and 10.)
use Rattle.std.specs.Prelude.{Bool, true, false, List, [], ◌∷◌, ℕ, ◌+◌, ◌*◌, leb, eqb, length, drop, get_or, Some, None}
use Rattle.std.specs.Prelude as answer
use Rattle.std.proofs.Math.Option
use Rattle.std.proofs.Math.Option.{Option, none, some}
use Rattle.codepage.specs.CodePage.{pick}
use Rattle.checkpoint.specs.Line.{digit_value, hex_value}

-- the word at the front of some bytes: what stands before the first space
unfoldable pub first_word : List ℕ → List ℕ
first_word [] = []
first_word (byte ∷ bytes) = elim (eqb byte 0x20) [ true ↦ [] | false ↦ byte ∷ first_word bytes ]

-- the place of the word behind the one at a place; where there is none, that place
unfoldable pub next_at : (line : List ℕ) → (at : ℕ) → ℕ
next_at line at = pick (leb at (length line)) (at + length (first_word (drop at line)) + 1) at

-- what is read, as a function answers it
abbrev pub answered : {A : Type 0} → Option A → answer.Option A
answered none = None
answered (some value) = Some value

-- ---- Decimal numbers

-- the number that digits spell behind those of `value`; none where a byte is no digit
unfoldable pub spelled : (value : ℕ) → List ℕ → Option ℕ
spelled value [] = some value
spelled value (byte ∷ bytes) =
    elim (digit_value byte) [
      | none ↦ none
      | some digit ↦ spelled (10 * value + digit) bytes
    ]

-- a number of at most `limit`
unfoldable pub limited : (limit : ℕ) → Option ℕ → Option ℕ
limited limit none = none
limited limit (some number) = pick (leb number limit) (some number) none

-- at least one digit, and no spare zero
unfoldable pub plain : List ℕ → Bool
plain word = pick (eqb (length word) 0) false (pick (eqb (get_or word 0 0) 0x30) (eqb (length word) 1) true)

-- the decimal number of at most `limit` that a word is
unfoldable pub number_in : (limit : ℕ) → (word : List ℕ) → Option ℕ
number_in limit word = pick (plain word) (limited limit (spelled 0 word)) none

-- the decimal number at a place of a line
unfoldable pub number_at : (limit : ℕ) → (line : List ℕ) → (at : ℕ) → Option ℕ
number_at limit line at = pick (leb at (length line)) (number_in limit (first_word (drop at line))) none

-- ---- Hex digits

-- whether every byte is a capital hex digit
unfoldable pub all_hex : List ℕ → Bool
all_hex [] = true
all_hex (byte ∷ bytes) = elim (hex_value byte) [ none ↦ false | some value ↦ all_hex bytes ]

-- the value of the digit at a place
unfoldable pub digit_at : (digits : List ℕ) → (place : ℕ) → ℕ
digit_at digits place = Option.get_or (hex_value (get_or digits place 0)) 0

-- the byte, and the unit, at a place among bytes or units in hex
unfoldable pub byte_at : (digits : List ℕ) → (place : ℕ) → ℕ
byte_at digits place = 16 * digit_at digits (2 * place) + digit_at digits (2 * place + 1)

-- the unit at a place among units in hex: four digits, the high byte first
unfoldable pub unit_at : (digits : List ℕ) → (place : ℕ) → ℕ
unit_at digits place = 256 * byte_at digits (2 * place) + byte_at digits (2 * place + 1)
