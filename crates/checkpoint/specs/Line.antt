-- Document 01, "The run and its saved line", as amended by CR 5: the saved line, its writing and its reading.
-- docs/RULES.md, "The run, and its saved line".
use Rattle.std.specs.Prelude.{Bool, true, false, not, ◌&&◌, List, [], ◌∷◌, ◌++◌, ◌≡◌, ℕ, zero, suc, ◌+◌, ◌-◌, ◌*◌, ◌/◌, ◌%◌, ◌^◌, ◌<◌, leb, ltb, eqb, length}
use Rattle.std.proofs.Math.Option.{Option, none, some}
use Rattle.codepage.specs.CodePage.{pick}
use Rattle.engine.specs.declared.Direction.{Direction}
use Rattle.engine.specs.declared.Direction.TheVariants.{Decoding, Encoding}
use Rattle.engine.specs.declared.Policy.{Policy}
use Rattle.convert.specs.declared.Pending.{Pending}
use Rattle.convert.specs.declared.Pending.TheVariants.{Nothing, Byte, High}
use Rattle.convert.specs.declared.Run.{Run}
use Rattle.convert.specs.Runs.{valid_run}
use Rattle.codepage.specs.Lent.{over}
use Rattle.std.specs.declared.option.Option.{Option as Answer}
use Rattle.std.specs.declared.option.Option.TheVariants.{None, Some}
use Rattle.std.specs.declared.result.Result.{Result}
use Rattle.std.specs.declared.result.Result.TheVariants.{Ok, Err}
use Rattle.checkpoint.specs.declared.Refusal.{Refusal}
use Rattle.checkpoint.specs.declared.Refusal.TheVariants.{InvalidRun, NoRoom}

-- ---- The line of a run
-- what parts the fields
abbrev pub tab : ℕ
tab = 0x09

abbrev pub line_feed : ℕ
line_feed = 0x0A

-- `0` to `9`
abbrev pub digit_byte : ℕ → ℕ
digit_byte value = 0x30 + value

-- `0` to `9`, `A` to `F`
abbrev pub hex_byte : ℕ → ℕ
hex_byte value = pick (ltb value 10) (digit_byte value) (0x41 + (value - 10))

-- Numbers are decimal with no spare zeros. (The fuel bounds the number of digits; the number itself is always enough.)
unfoldable pub decimal_from : (fuel number : ℕ) → List ℕ
decimal_from zero number = digit_byte number ∷ []
decimal_from (suc fuel) number =
    elim (ltb number 10) [
      | true ↦ digit_byte number ∷ []
      | false ↦ decimal_from fuel (number / 10) ++ (digit_byte (number % 10) ∷ [])
    ]

-- the decimal digits of a number, as bytes
unfoldable pub decimal : ℕ → List ℕ
decimal number = decimal_from number number

-- `D` or `E`
abbrev pub letter_of : Direction → List ℕ
letter_of Decoding = 0x44 ∷ []
letter_of Encoding = 0x45 ∷ []

-- three digits
abbrev pub digits_of : Policy → List ℕ
digits_of policy = digit_byte policy.single ∷ digit_byte policy.pair ∷ digit_byte policy.invalid ∷ []

-- a byte as two capital hex digits
abbrev pub hex_of : ℕ → List ℕ
hex_of byte = hex_byte (byte / 16) ∷ hex_byte (byte % 16) ∷ []

-- the pending byte as two capital hex digits, the pending unit as four, or `-`
abbrev pub pending_of : Pending → List ℕ
pending_of Nothing = 0x2D ∷ []
pending_of (Byte byte) = hex_of byte
pending_of (High unit) = hex_of (unit / 256) ++ hex_of (unit % 256)

-- the word `on` or `over`
abbrev pub end_word : (ended : Bool) → List ℕ
end_word false = 0x6F ∷ 0x6E ∷ []
end_word true = 0x6F ∷ 0x76 ∷ 0x65 ∷ 0x72 ∷ []

-- a field and the tab behind it
unfoldable pub field_of : List ℕ → List ℕ
field_of bytes = bytes ++ (tab ∷ [])

-- the last field and the line feed
unfoldable pub closing_of : (ended : Bool) → List ℕ
closing_of ended = end_word ended ++ (line_feed ∷ [])

-- Fields parted by one tab, closed by a line feed: `D` or `E`, page, three digits, what is pending as two (`D`) or four (`E`)
-- capital hex digits or `-`, flags, read, written, then the word `on` or `over`.
unfoldable pub line_of : Run → List ℕ
line_of run =
    field_of (letter_of run.direction)
    ++ field_of (decimal run.page)
    ++ field_of (digits_of run.policy)
    ++ field_of (pending_of run.pending)
    ++ field_of (decimal run.flags)
    ++ field_of (decimal run.read)
    ++ field_of (decimal run.written)
    ++ closing_of run.ended

-- ---- The run of a line

-- A parser reads a value from the front of some bytes, if they begin with one, and gives the bytes behind it.
pub record Parsed (A : Type 0) : Type 0 where
  pub value : A
  pub rest : List ℕ

-- A reader of a value at the front of some bytes; none: they do not begin with one.
abbrev pub Parser : Type 0 → Type 0
Parser A = List ℕ → Option (Parsed A)

-- reads no byte and gives a value
unfoldable pub succeed : {A : Type 0} → A → Parser A
succeed a bytes = some (record { value = a; rest = bytes })

infixl 10 ◌>>=◌
-- one parser and, with its value, the next one on the bytes behind it; none if either has none
unfoldable pub ◌>>=◌ : {A B : Type 0} → Parser A → (A → Parser B) → Parser B
◌>>=◌ p next bytes = elim (p bytes) [ none ↦ none | some r ↦ next r.value r.rest ]

-- the first parser's value, or the second's where the first has none
unfoldable pub or_else : {A : Type 0} → Parser A → Parser A → Parser A
or_else p q bytes = elim (p bytes) [ none ↦ q bytes | some r ↦ some r ]

-- one byte that means something
unfoldable pub one : {A : Type 0} → (means : ℕ → Option A) → Parser A
one means [] = none
one means (byte ∷ bytes) = elim (means byte) [ none ↦ none | some a ↦ some (record { value = a; rest = bytes }) ]

-- a given byte, which stands for a value
abbrev pub is_byte : {A : Type 0} → (byte : ℕ) → A → ℕ → Option A
is_byte byte a b = pick (eqb b byte) (some a) none

-- the value of `0` to `9`; any other byte has none
abbrev pub digit_value : ℕ → Option ℕ
digit_value byte = pick (leb 0x30 byte && leb byte 0x39) (some (byte - 0x30)) none

-- the value of `0` to `9` and `A` to `F`; any other byte, small letters too, has none
abbrev pub hex_value : ℕ → Option ℕ
hex_value byte = pick (leb 0x41 byte && leb byte 0x46) (some (byte - 0x41 + 10)) (digit_value byte)

-- the digits that follow those of `value`
unfoldable pub more_digits : (value : ℕ) → Parser ℕ
more_digits value [] = some (record { value = value; rest = [] })
more_digits value (byte ∷ bytes) =
    elim (digit_value byte) [
      | none ↦ some (record { value = value; rest = byte ∷ bytes })
      | some digit ↦ more_digits (10 * value + digit) bytes
    ]

-- decimal with no spare zeros: a number that begins with `0` is 0
unfoldable pub number : Parser ℕ
number = or_else (one (is_byte 0x30 0)) (one digit_value >>= more_digits)

-- `D` or `E`
abbrev pub letter_value : ℕ → Option Direction
letter_value byte = pick (eqb byte 0x44) (some Decoding) (is_byte 0x45 Encoding byte)

-- the direction, by its letter
unfoldable pub letter : Parser Direction
letter = one letter_value

-- the policy: for undefined singles, undefined pairs and invalid codes
unfoldable pub three_digits : Parser Policy
three_digits = do
  single ← one digit_value
  pair ← one digit_value
  invalid ← one digit_value
  succeed (record { single = single; pair = pair; invalid = invalid })

-- two capital hex digits
unfoldable pub hex_pair : Parser ℕ
hex_pair = do
  high ← one hex_value
  low ← one hex_value
  succeed (16 * high + low)

-- a byte in a `D` line, a unit in an `E` line, its high half first
unfoldable pub hex_pending : Direction → Parser Pending
hex_pending Decoding = do
  byte ← hex_pair
  succeed (Byte byte)
hex_pending Encoding = do
  high ← hex_pair
  low ← hex_pair
  succeed (High (256 * high + low))

-- what is pending, as two (`D`) or four (`E`) capital hex digits, or `-`
unfoldable pub pending_field : Direction → Parser Pending
pending_field direction = or_else (one (is_byte 0x2D Nothing)) (hex_pending direction)

-- a field and the tab behind it
unfoldable pub field : {A : Type 0} → Parser A → Parser A
field p = p >>= λ a. one (is_byte tab a)

-- whether two lists have the same bytes
abbrev pub same_bytes : List ℕ → List ℕ → Bool
same_bytes [] [] = true
same_bytes [] (b ∷ bs) = false
same_bytes (a ∷ rest) [] = false
same_bytes (a ∷ rest) (b ∷ bs) = eqb a b && same_bytes rest bs

-- the word `on` or `over` and the line feed, with nothing behind it
unfoldable pub closing : Parser Bool
closing bytes = pick (same_bytes bytes (closing_of false)) (succeed false []) (pick (same_bytes bytes (closing_of true)) (succeed true []) none)

-- The fields in their order, with numbers of any size; what is pending is read as a line of its direction has it.
unfoldable pub fields_by : (pending_field : Direction → Parser Pending) → Parser Run
fields_by pending_field = do
  direction ← field letter
  page ← field number
  policy ← field three_digits
  pending ← field (pending_field direction)
  flags ← field number
  read ← field number
  written ← field number
  ended ← closing
  succeed
      (record {
        direction = direction;
        page = page;
        policy = policy;
        pending = pending;
        flags = flags;
        read = read;
        written = written;
        ended = ended;
      })

-- the fields of a line as they are now (CR 5)
unfoldable pub fields : Parser Run
fields = fields_by pending_field

-- A line is read as the run of its fields, if the page is at most 65,535 and the run keeps the run rules. Nothing else is read.
unfoldable pub kept : Option (Parsed Run) → Option Run
kept none = none
kept (some r) = pick (leb r.value.page 65535 && valid_run r.value) (some r.value) none

-- The run of a line, or none if the bytes are not a saved line.
unfoldable pub run_of : List ℕ → Option Run
run_of line = kept (fields line)

-- A run that the program can hold: a page and a pending unit are two bytes wide, a digit, a pending byte and the flags one, a
-- total eight.
abbrev pub PendingFits : Pending → Type 0
PendingFits Nothing = Unit {0}
PendingFits (Byte byte) = byte < 2 ^ 8
PendingFits (High unit) = unit < 2 ^ 16

-- Every number of the run is within its width.
pub record Representable (run : Run) : Type 0 where
  pub page : run.page < 2 ^ 16
  pub single : run.policy.single < 2 ^ 8
  pub pair : run.policy.pair < 2 ^ 8
  pub invalid : run.policy.invalid < 2 ^ 8
  pub pending : PendingFits run.pending
  pub flags : run.flags < 2 ^ 8
  pub read : run.read < 2 ^ 64
  pub written : run.written < 2 ^ 64

-- A line is that of a run which keeps the rules.
pub record Restores (line : List ℕ) (run : Run) : Type 0 where
  pub line_is : line_of run ≡ line
  pub valid : valid_run run ≡ true
  pub fits : Representable run

-- ---- The two calls

-- What line writing gives: 0 and the line, or 12, the run breaks the run rules, then 19, the line does not fit the room.
pub record Saving : Type 0 where
  pub number : ℕ
  pub line : List ℕ

-- a refusal: its number, and no line
abbrev pub unwritten : ℕ → Saving
unwritten number = record { number = number; line = [] }

-- Writing: first 12, the run breaks the rules; then 19, its line is longer than the room; else the line.
unfoldable pub write_of : Run → (room : ℕ) → Saving
write_of run room =
    pick (not (valid_run run)) (unwritten 12)
    (pick (ltb room (length (line_of run))) (unwritten 19)
    (record { number = 0; line = line_of run }))

-- the number and values of each case of the answer: a line by its length
pub record Reply : Type 0 where
  pub number : ℕ
  pub size : ℕ

-- the number of each case of the answer, and the line's length; 0 for a refusal
abbrev pub written_as : Result ℕ Refusal → Reply
written_as (Ok size) = record { number = 0; size = size }
written_as (Err InvalidRun) = record { number = 12; size = 0 }
written_as (Err NoRoom) = record { number = 19; size = 0 }

-- The promise of line writing: s is what the rules give, r what it returns, and the lent output before and after.
pub record Saved (s : Saving) (r : Result ℕ Refusal) (before after : List ℕ) : Type 0 where
  pub number : (written_as r).number ≡ s.number
  pub size : (written_as r).size ≡ length s.line
  pub lent : after ≡ over before s.line

-- What line reading gives: 0 and the run, or 18, not a saved line.
pub record Loading : Type 0 where
  pub number : ℕ
  pub run : Option Run

-- a run that was read, or the refusal 18
unfoldable pub loaded : Option Run → Loading
loaded none = record { number = 18; run = none }
loaded (some run) = record { number = 0; run = some run }

-- Reading: 0 and the run that the line is of, or 18.
unfoldable pub read_of : List ℕ → Loading
read_of line = loaded (run_of line)

-- the number and values of each case of the answer
abbrev pub restored_as : Answer Run → Loading
restored_as (Some run) = record { number = 0; run = some run }
restored_as None = record { number = 18; run = none }
