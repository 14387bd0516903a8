-- What the calls write of all fields of a text is the file of its records.
use mathlib.Core.Bool.{Bool, true, false}
use mathlib.Core.List.{List, [], ◌∷◌, ◌++◌, append_assoc}
use mathlib.Core.Path.{◌≡◌, refl, sym, ap, ◌∙◌}
use Prim.Native.Nat.{ℕ}
use Rattle.codepage.specs.CodePage.{pick}
use Rattle.fields.specs.Fields.{Field}
use Rattle.rfc4180.specs.Csv.{CsvRecord, field_text, line_end, others_text, row_text, file_text}
use Rattle.rfc4180.specs.Records.{closes, open_before, rows_before, records_of, break_if, part_text, joined}
use Rattle.rfc4180.proofs.CsvLaws.{append_none}

-- what is behind a record that is begun
behind_open : List CsvRecord → List ℕ
behind_open [] = line_end
behind_open (row ∷ rows) = 0x2C ∷ (row_text row ++ file_text rows)

after : (begun : Bool) → List CsvRecord → List ℕ
after true rows = behind_open rows
after false rows = file_text rows

-- a field, and what is behind it: its record is closed, or open
open_file : (units : List ℕ) (rows : List CsvRecord) → (field_text units ++ []) ++ behind_open rows ≡ file_text (open_before units rows)
unfolding behind_open file_text row_text others_text
open_file units [] = ap (λ (l : List ℕ). l ++ line_end) (append_none (field_text units)) ∙ sym (append_none (field_text units ++ line_end))
open_file units (row ∷ rows) =
    ap (λ (l : List ℕ). l ++ (0x2C ∷ (row_text row ++ file_text rows))) (append_none (field_text units))
    ∙ sym (append_assoc (field_text units) (0x2C ∷ row_text row) (file_text rows))

part_file : (units : List ℕ) (closed : Bool) (rows : List CsvRecord) → (field_text units ++ break_if closed) ++ after (pick closed false true) rows ≡ file_text (rows_before closed units rows)
unfolding after file_text row_text others_text break_if
part_file units true rows = refl
part_file units false rows = open_file units rows

-- the file of a field and of more is not empty, so a comma before it goes on with its record
comma_file : (units : List ℕ) (closed : Bool) (rows : List CsvRecord) → 0x2C ∷ file_text (rows_before closed units rows) ≡ behind_open (rows_before closed units rows)
unfolding behind_open file_text
comma_file units true rows = refl
comma_file units false [] = refl
comma_file units false (row ∷ rows) = refl

part_after : (begun : Bool) (units : List ℕ) (closed : Bool) (rows : List CsvRecord)
    → part_text begun units closed ++ after (pick closed false true) rows ≡ after begun (rows_before closed units rows)
unfolding part_text after
part_after true units closed rows = ap (λ (l : List ℕ). 0x2C ∷ l) (part_file units closed rows) ∙ comma_file units closed rows
part_after false units closed rows = part_file units closed rows

all_calls : (begun : Bool) (fields : List Field) → joined begun fields ≡ after begun (records_of fields)
unfolding joined break_if after records_of behind_open file_text
all_calls true [] = refl
all_calls false [] = refl
all_calls begun (field ∷ fields) =
    ap (λ (l : List ℕ). part_text begun field.units (closes field.end) ++ l) (all_calls (pick (closes field.end) false true) fields)
    ∙ part_after begun field.units (closes field.end) (records_of fields)

-- THE FILE: what the calls write, one field after the other, is the file of the records.
pub calls_are_file : (fields : List Field) → joined false fields ≡ file_text (records_of fields)
unfolding after
calls_are_file fields = all_calls false fields
