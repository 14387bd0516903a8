-- RFC 4180's grammar as a reader of units, written without a word of the writer: what a text of whole records says.
--
--     file = record CRLF *(record CRLF)      record = field *(COMMA field)      field = escaped / non_escaped
--     escaped = DQUOTE *(TEXTDATA / COMMA / CR / LF / 2DQUOTE) DQUOTE           non_escaped = *TEXTDATA
--
-- TEXTDATA is any unit but comma, quote, carriage return and line feed. The last record has its line break too.
use Rattle.std.specs.Prelude.{List, [], ◌∷◌, ℕ, eqb}
use Rattle.std.proofs.Math.Option.{Option, none, some}
use Rattle.codepage.specs.CodePage.{pick}
use Rattle.rfc4180.specs.Csv.{CsvRecord}

-- What a unit is in the grammar.
pub data Mark : Type 0 where
  quote : Mark
  comma : Mark
  return : Mark
  feed : Mark
  other : Mark

-- the mark of a unit: of the four that the grammar names, or any other
unfoldable pub mark : (unit : ℕ) → Mark
mark unit = pick (eqb unit 0x22) quote (pick (eqb unit 0x2C) comma (pick (eqb unit 0x0D) return (pick (eqb unit 0x0A) feed other)))

-- Where the reader stands: at the beginning of a record, at that of a later field, in a field without quotes, in quotes, behind a
-- quote that was met in quotes, behind the carriage return of a line break.
pub data State : Type 0 where
  record_begins : State
  field_begins : State
  plain : State
  in_quotes : State
  behind_quote : State
  line_breaks : State

-- What the rest of a text says: nothing, if it breaks the grammar; that there is no record more; or the rest of the field at hand,
-- the fields behind it in its record, and the records behind that.
pub data Rest : Type 0 where
  broken : Rest
  no_more : Rest
  going : (field : List ℕ) → (others : List (List ℕ)) → (rows : List CsvRecord) → Rest

-- a unit of the field at hand, in front of what the rest says of that field
unfoldable pub with_unit : (unit : ℕ) → Rest → Rest
with_unit unit broken = broken
with_unit unit no_more = broken
with_unit unit (going field others rows) = going (unit ∷ field) others rows

-- the field at hand ends; what the rest says first is the next field of the record
unfoldable pub behind_comma : Rest → Rest
behind_comma broken = broken
behind_comma no_more = broken
behind_comma (going field others rows) = going [] (field ∷ others) rows

-- the field at hand and its record end; what the rest says first is the next record, if there is one
unfoldable pub behind_break : Rest → Rest
behind_break broken = broken
behind_break no_more = going [] [] []
behind_break (going field others rows) = going [] [] (record { first = field; others = others } ∷ rows)

-- one unit: what it does where the reader stands, by what the rest says from the next state on
unfoldable pub step : State → Mark → (unit : ℕ) → (State → Rest) → Rest
step record_begins quote unit rest = rest in_quotes
step field_begins quote unit rest = rest in_quotes
step plain quote unit rest = broken
step in_quotes quote unit rest = rest behind_quote
step behind_quote quote unit rest = with_unit unit (rest in_quotes)
step line_breaks quote unit rest = broken
step in_quotes comma unit rest = with_unit unit (rest in_quotes)
step line_breaks comma unit rest = broken
step record_begins comma unit rest = behind_comma (rest field_begins)
step field_begins comma unit rest = behind_comma (rest field_begins)
step plain comma unit rest = behind_comma (rest field_begins)
step behind_quote comma unit rest = behind_comma (rest field_begins)
step in_quotes return unit rest = with_unit unit (rest in_quotes)
step line_breaks return unit rest = broken
step record_begins return unit rest = rest line_breaks
step field_begins return unit rest = rest line_breaks
step plain return unit rest = rest line_breaks
step behind_quote return unit rest = rest line_breaks
step in_quotes feed unit rest = with_unit unit (rest in_quotes)
step line_breaks feed unit rest = behind_break (rest record_begins)
step record_begins feed unit rest = broken
step field_begins feed unit rest = broken
step plain feed unit rest = broken
step behind_quote feed unit rest = broken
step record_begins other unit rest = with_unit unit (rest plain)
step field_begins other unit rest = with_unit unit (rest plain)
step plain other unit rest = with_unit unit (rest plain)
step in_quotes other unit rest = with_unit unit (rest in_quotes)
step behind_quote other unit rest = broken
step line_breaks other unit rest = broken

-- the text's end: allowed only where a record would begin
unfoldable pub at_text_end : State → Rest
at_text_end record_begins = no_more
at_text_end field_begins = broken
at_text_end plain = broken
at_text_end in_quotes = broken
at_text_end behind_quote = broken
at_text_end line_breaks = broken

-- what a text says from a state on
unfoldable pub reading : State → (text : List ℕ) → Rest
reading state [] = at_text_end state
reading state (unit ∷ text) = step state (mark unit) unit (λ next. reading next text)

-- the records of what a text says, from the beginning of a record on
unfoldable pub rows_in : Rest → Option (List CsvRecord)
rows_in broken = none
rows_in no_more = some []
rows_in (going field others rows) = some (record { first = field; others = others } ∷ rows)

-- THE RECORDS that a text says, or none if it breaks the grammar.
unfoldable pub rows_of : (text : List ℕ) → Option (List CsvRecord)
rows_of text = rows_in (reading record_begins text)
