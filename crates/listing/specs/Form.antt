-- Document 02, CR 3: the record of a line.
use Rattle.std.specs.Prelude.{Bool, true, false, not, ◌&&◌, ◌||◌, List, [], ◌∷◌, ℕ, zero, suc, ◌+◌, ◌-◌, ◌*◌, leb, eqb}
use Rattle.codepage.specs.CodePage.{pick, entry_at}
use Rattle.listing.specs.declared.Record.{Record}
use Rattle.listing.specs.declared.Record.TheVariants.{Page, Defaults, Single, Lead, Trail, Pair, Code, NoRecord}

-- ---- digits
unfoldable pub is_digit : ℕ → Bool
is_digit byte = leb 0x30 byte && leb byte 0x39

-- `A` to `F`
unfoldable pub is_capital : ℕ → Bool
is_capital byte = leb 0x41 byte && leb byte 0x46

-- the value of a hex digit; 0 for any other byte
unfoldable pub digit : ℕ → ℕ
digit byte = pick (is_digit byte) (byte - 0x30) (pick (is_capital byte) (byte - 0x41 + 10) 0)

-- bytes have two digits, units and codes four
unfoldable pub hex_byte_at : (line : List ℕ) → (place : ℕ) → ℕ
hex_byte_at line place = 16 * digit (entry_at line place) + digit (entry_at line (place + 1))

-- a unit or a code of four digits
unfoldable pub hex_unit_at : (line : List ℕ) → (place : ℕ) → ℕ
hex_unit_at line place = 256 * hex_byte_at line place + hex_byte_at line (place + 2)

-- a decimal number of so many digits
unfoldable pub decimal_at : (count : ℕ) → (line : List ℕ) → (place : ℕ) → ℕ
decimal_at zero line place = 0
decimal_at (suc count) line place = 10 * decimal_at count line place + digit (entry_at line (place + count))

-- ---- forms
-- A form is the bytes of a line, with a symbol for each digit.
abbrev pub hex_symbol : ℕ
hex_symbol = 0x23

-- a decimal digit
abbrev pub decimal_symbol : ℕ
decimal_symbol = 0x30

-- the first digit of a decimal number, which has no spare zeros
abbrev pub first_symbol : ℕ
first_symbol = 0x31

-- what parts the fields
abbrev pub tab : ℕ
tab = 0x09

-- what closes a line
abbrev pub line_feed : ℕ
line_feed = 0x0A

-- whether a byte is what a symbol stands for
unfoldable pub fits_symbol : (symbol byte : ℕ) → Bool
fits_symbol symbol byte =
    pick (eqb symbol hex_symbol) (is_digit byte || is_capital byte)
    (pick (eqb symbol decimal_symbol) (is_digit byte)
    (pick (eqb symbol first_symbol) (is_digit byte && not (eqb byte 0x30))
    (eqb byte symbol)))

-- whether a line has a form, byte by byte
unfoldable pub has_form : (form line : List ℕ) → Bool
has_form [] [] = true
has_form [] (byte ∷ line) = false
has_form (symbol ∷ form) [] = false
has_form (symbol ∷ form) (byte ∷ line) = fits_symbol symbol byte && has_form form line

-- `D` default byte, default unit
abbrev pub defaults_form : List ℕ
defaults_form = 0x44 ∷ tab ∷ hex_symbol ∷ hex_symbol ∷ tab ∷ hex_symbol ∷ hex_symbol ∷ hex_symbol ∷ hex_symbol ∷ line_feed ∷ []

-- `S` byte, unit
abbrev pub single_form : List ℕ
single_form = 0x53 ∷ tab ∷ hex_symbol ∷ hex_symbol ∷ tab ∷ hex_symbol ∷ hex_symbol ∷ hex_symbol ∷ hex_symbol ∷ line_feed ∷ []

-- `S` byte, `-`: a single without a character
abbrev pub bare_form : List ℕ
bare_form = 0x53 ∷ tab ∷ hex_symbol ∷ hex_symbol ∷ tab ∷ 0x2D ∷ line_feed ∷ []

-- `L` lead
abbrev pub lead_form : List ℕ
lead_form = 0x4C ∷ tab ∷ hex_symbol ∷ hex_symbol ∷ line_feed ∷ []

-- `T` second byte
abbrev pub trail_form : List ℕ
trail_form = 0x54 ∷ tab ∷ hex_symbol ∷ hex_symbol ∷ line_feed ∷ []

-- `M` code, unit
abbrev pub pair_form : List ℕ
pair_form = 0x4D ∷ tab ∷ hex_symbol ∷ hex_symbol ∷ hex_symbol ∷ hex_symbol ∷ tab ∷ hex_symbol ∷ hex_symbol ∷ hex_symbol ∷ hex_symbol ∷ line_feed ∷ []

-- `W` unit, code
abbrev pub code_form : List ℕ
code_form = 0x57 ∷ tab ∷ hex_symbol ∷ hex_symbol ∷ hex_symbol ∷ hex_symbol ∷ tab ∷ hex_symbol ∷ hex_symbol ∷ hex_symbol ∷ hex_symbol ∷ line_feed ∷ []

-- so many more decimal digits, and the line feed
abbrev pub digits_form : ℕ → List ℕ
digits_form zero = line_feed ∷ []
digits_form (suc count) = decimal_symbol ∷ digits_form count

-- `P` page: one to five digits
abbrev pub page_form : (more : ℕ) → List ℕ
page_form more = 0x50 ∷ tab ∷ first_symbol ∷ digits_form more

-- ---- records
-- a record whose right side is not FFFF
abbrev pub unless_none : (right : ℕ) → Record → Record
unless_none right r = pick (eqb right 0xFFFF) NoRecord r

-- a page of 16 bits
abbrev pub small_page : ℕ → Record
small_page page = pick (leb page 65535) (Page page) NoRecord

-- the page as in a saved line: decimal with no spare zeros, 1 to 65,535
unfoldable pub page_of : List ℕ → Record
page_of line =
    pick (has_form (page_form 0) line) (small_page (decimal_at 1 line 2))
    (pick (has_form (page_form 1) line) (small_page (decimal_at 2 line 2))
    (pick (has_form (page_form 2) line) (small_page (decimal_at 3 line 2))
    (pick (has_form (page_form 3) line) (small_page (decimal_at 4 line 2))
    (pick (has_form (page_form 4) line) (small_page (decimal_at 5 line 2))
    NoRecord))))

-- A single without a character has FFFF for its unit, as in the table.
unfoldable pub record_of : List ℕ → Record
record_of line =
    pick (has_form code_form line) (unless_none (hex_unit_at line 7) (Code (hex_unit_at line 2) (hex_unit_at line 7)))
    (pick (has_form pair_form line) (unless_none (hex_unit_at line 7) (Pair (hex_unit_at line 2) (hex_unit_at line 7)))
    (pick (has_form single_form line) (unless_none (hex_unit_at line 5) (Single (hex_byte_at line 2) (hex_unit_at line 5)))
    (pick (has_form bare_form line) (Single (hex_byte_at line 2) 0xFFFF)
    (pick (has_form trail_form line) (Trail (hex_byte_at line 2))
    (pick (has_form lead_form line) (Lead (hex_byte_at line 2))
    (pick (has_form defaults_form line) (Defaults (hex_byte_at line 2) (hex_unit_at line 5))
    (page_of line)))))))
