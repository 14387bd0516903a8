-- RFC 4180: fields, records and a file as text. Comma 002C, quote 0022, carriage return 000D, line feed 000A.
use Rattle.std.specs.Prelude.{Bool, ◌||◌, List, [], ◌∷◌, ◌++◌, ℕ, eqb}
use Rattle.std.specs.List.{list_any}
use Rattle.codepage.specs.CodePage.{pick}

-- "Fields containing line breaks (CRLF), double quotes, and commas should be enclosed in double_quotes."
abbrev pub is_special : (unit : ℕ) → Bool
is_special unit = eqb unit 0x2C || (eqb unit 0x22 || (eqb unit 0x0D || eqb unit 0x0A))

-- whether a field has a comma, a quote, a carriage return or a line feed
unfoldable pub needs_quotes : (field : List ℕ) → Bool
needs_quotes field = list_any is_special field

-- "a double_quote appearing inside a field must be escaped by preceding it with another double quote."
unfoldable pub escaped : (unit : ℕ) → List ℕ
escaped unit = pick (eqb unit 0x22) (0x22 ∷ 0x22 ∷ []) (unit ∷ [])

-- a field's units, each quote written twice
unfoldable pub escaped_field : (field : List ℕ) → List ℕ
escaped_field [] = []
escaped_field (unit ∷ field) = escaped unit ++ escaped_field field

-- a field in quotes
unfoldable pub quoted : (field : List ℕ) → List ℕ
quoted field = 0x22 ∷ (escaped_field field ++ (0x22 ∷ []))

-- A field as it stands in a record.
unfoldable pub field_text : (field : List ℕ) → List ℕ
field_text field = pick (needs_quotes field) (quoted field) field

-- A record has at least one field.
pub record CsvRecord : Type 0 where
  pub first : List ℕ
  pub others : List (List ℕ)

-- "Each record is located on a separate line, delimited by a line break (CRLF)."
abbrev pub line_end : List ℕ
line_end = 0x0D ∷ 0x0A ∷ []

-- the fields behind a record's first one, a comma before each, and the line break
unfoldable pub others_text : (others : List (List ℕ)) → List ℕ
others_text [] = line_end
others_text (field ∷ others) = 0x2C ∷ (field_text field ++ others_text others)

-- a record with its line break
unfoldable pub row_text : CsvRecord → List ℕ
row_text row = field_text row.first ++ others_text row.others

-- THE FILE of some records.
unfoldable pub file_text : List CsvRecord → List ℕ
file_text [] = []
file_text (row ∷ rows) = row_text row ++ file_text rows
