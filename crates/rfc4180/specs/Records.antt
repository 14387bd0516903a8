-- The records of a text that was cut into fields, and what one call writes of them.
use Rattle.std.specs.Prelude.{Option, Some, None, Bool, true, false, List, [], ◌∷◌, ◌++◌, ◌≡◌, ℕ, leb, length}
use Rattle.codepage.specs.CodePage.{pick}
use Rattle.codepage.specs.Lent.{over}
use Rattle.fields.specs.declared.End.{End}
use Rattle.fields.specs.declared.End.TheVariants.{Bar, LineFeed, Text}
use Rattle.fields.specs.Fields.{Field}
use Rattle.rfc4180.specs.Csv.{CsvRecord, field_text, line_end}

-- A bar leaves the record open; a line feed closes it, and so does the text's end.
abbrev pub closes : End → Bool
closes Bar = false
closes LineFeed = true
closes Text = true

-- A field that leaves its record open is the first of the next record's fields; where there is none, the text's end closes it.
abbrev pub open_before : (units : List ℕ) → List CsvRecord → List CsvRecord
open_before units [] = record { first = units; others = [] } ∷ []
open_before units (row ∷ rows) = record { first = units; others = row.first ∷ row.others } ∷ rows

-- a field in front of the records behind it: a record of its own if it closes one, else the first field of the next
abbrev pub rows_before : (closed : Bool) → (units : List ℕ) → List CsvRecord → List CsvRecord
rows_before true units rows = record { first = units; others = [] } ∷ rows
rows_before false units rows = open_before units rows

-- THE RECORDS of some fields.
unfoldable pub records_of : List Field → List CsvRecord
records_of [] = []
records_of (field ∷ fields) = rows_before (closes field.end) field.units (records_of fields)

-- a field in front of closed records: one of its own if it closes a record, else the first field of the next, if there is one
abbrev pub closed_before : (closed : Bool) → (units : List ℕ) → List CsvRecord → List CsvRecord
closed_before true units rows = record { first = units; others = [] } ∷ rows
closed_before false units [] = []
closed_before false units (row ∷ rows) = record { first = units; others = row.first ∷ row.others } ∷ rows

-- The records that some fields close: a record that is still open behind the last field is none of them.
unfoldable pub closed_records : List Field → List CsvRecord
closed_records [] = []
closed_records (field ∷ fields) = closed_before (closes field.end) field.units (closed_records fields)

-- ---- what the calls write, one field after the other
-- a line break, if it is wanted: behind a field that closes its record, and at the text's end where a record is begun
unfoldable pub break_if : Bool → List ℕ
break_if wanted = pick wanted line_end []

-- A comma, if the record is begun; the field; a line break, if the field closes its record.
unfoldable pub part_text : (begun : Bool) → (units : List ℕ) → (closed : Bool) → List ℕ
part_text begun units closed = pick begun (0x2C ∷ []) [] ++ (field_text units ++ break_if closed)

-- all calls of a text
unfoldable pub joined : (begun : Bool) → List Field → List ℕ
joined begun [] = break_if begun
joined begun (field ∷ fields) = part_text begun field.units (closes field.end) ++ joined (pick (closes field.end) false true) fields

-- what the calls have written of the fields so far, before the text's end
unfoldable pub so_far : (begun : Bool) → List Field → List ℕ
so_far begun [] = []
so_far begun (field ∷ fields) = part_text begun field.units (closes field.end) ++ so_far (pick (closes field.end) false true) fields

-- what a call writes of a text: all of it, or nothing where it does not fit
abbrev pub written_text : (text : List ℕ) → (room : ℕ) → List ℕ
written_text text room = pick (leb (length text) room) text []

-- The promise of a call that writes a text at the front of a lent slice: r is its length, or none if there is no room; all else is as before.
pub record PutAs (text : List ℕ) (r : Option ℕ) (before after : List ℕ) : Type 0 where
  pub result : r ≡ pick (leb (length text) (length before)) (Some (length text)) None
  pub lent : after ≡ over before (written_text text (length before))
