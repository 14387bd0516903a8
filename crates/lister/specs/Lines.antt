-- Document 02, CR 3: the line of a record.
use Rattle.std.specs.Prelude.{List, [], ◌∷◌, ◌++◌, ℕ, zero, suc, ◌+◌, ◌-◌, ◌/◌, ◌%◌, ltb, eqb}
use Rattle.codepage.specs.CodePage.{pick}
use Rattle.listing.specs.declared.Record.{Record}
use Rattle.listing.specs.declared.Record.TheVariants.{Page, Defaults, Single, Lead, Trail, Pair, Code, NoRecord}
use Rattle.listing.specs.Form.{tab, line_feed}

-- `0` to `9`, `A` to `F`
unfoldable pub hex_byte : ℕ → ℕ
hex_byte value = pick (ltb value 10) (0x30 + value) (0x41 + (value - 10))

-- bytes have two digits, units and codes four
abbrev pub byte_text : ℕ → List ℕ
byte_text byte = hex_byte (byte / 16) ∷ hex_byte (byte % 16) ∷ []

-- units and codes have four digits
abbrev pub unit_text : ℕ → List ℕ
unit_text unit = byte_text (unit / 256) ++ byte_text (unit % 256)

-- a decimal number of so many digits
abbrev pub decimal_text : (count : ℕ) → ℕ → List ℕ
decimal_text zero number = []
decimal_text (suc count) number = decimal_text count (number / 10) ++ ((0x30 + number % 10) ∷ [])

-- a page as in a saved line: with no spare zeros
unfoldable pub page_text : ℕ → List ℕ
page_text page =
    pick (ltb page 10) (decimal_text 1 page)
    (pick (ltb page 100) (decimal_text 2 page)
    (pick (ltb page 1000) (decimal_text 3 page)
    (pick (ltb page 10000) (decimal_text 4 page)
    (decimal_text 5 page))))

-- a letter and one field, or two
abbrev pub line : (letter : ℕ) → List ℕ → List ℕ
line letter field = letter ∷ tab ∷ (field ++ (line_feed ∷ []))

-- a letter and two fields
abbrev pub line₂ : (letter : ℕ) → List ℕ → List ℕ → List ℕ
line₂ letter left right = letter ∷ tab ∷ (left ++ (tab ∷ (right ++ (line_feed ∷ []))))

-- a single without a character has `-` for its unit
unfoldable pub single_text : (unit : ℕ) → List ℕ
single_text unit = pick (eqb unit 0xFFFF) (0x2D ∷ []) (unit_text unit)

-- THE LINE OF A RECORD.
abbrev pub record_line : Record → List ℕ
record_line (Page page) = line 0x50 (page_text page)
record_line (Defaults byte unit) = line₂ 0x44 (byte_text byte) (unit_text unit)
record_line (Single byte unit) = line₂ 0x53 (byte_text byte) (single_text unit)
record_line (Lead byte) = line 0x4C (byte_text byte)
record_line (Trail byte) = line 0x54 (byte_text byte)
record_line (Pair code unit) = line₂ 0x4D (unit_text code) (unit_text unit)
record_line (Code unit code) = line₂ 0x57 (unit_text unit) (unit_text code)
record_line NoRecord = []
