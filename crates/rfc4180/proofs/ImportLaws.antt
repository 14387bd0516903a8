-- An import, for every cutting of a text into calls of the cutter: the file of a text that was read to its end, and what stands of
-- the records where it was broken off.
use mathlib.Core.Bool.{Bool, true, false}
use mathlib.Core.List.{List, [], ◌∷◌, ◌++◌, append_assoc}
use mathlib.Core.Option.{some}
use mathlib.Core.Path.{◌≡◌, refl, sym, ap, ◌∙◌}
use Prim.Native.Nat.{ℕ}
use lib.ListN.{length, take}
use lib.Seq.{take-append_seam}
use Rattle.codepage.specs.CodePage.{pick}
use Rattle.fields.specs.Fields.{Field, fields_of}
use Rattle.fields.specs.Cuttings.{FieldEntry, FieldTrace, opened_cutting, play_fields}
use Rattle.fields.proofs.EveryCutting.{every_cutting}
use Rattle.rfc4180.specs.Csv.{CsvRecord, field_text, line_end, others_text, row_text, file_text}
use Rattle.rfc4180.specs.Reading.{rows_of}
use Rattle.rfc4180.specs.Records.{closes, open_before, rows_before, records_of, closed_before, closed_records, break_if, part_text, joined, so_far}
use Rattle.rfc4180.proofs.CsvLaws.{append_none}
use Rattle.rfc4180.proofs.ReadingLaws.{file_back}
use Rattle.rfc4180.proofs.RecordLaws.{calls_are_file}

Begins : (rows first : List CsvRecord) → Type 0
Begins rows first = (others : List CsvRecord) × (rows ≡ first ++ others)

begins_with : (units : List ℕ) (closed : Bool) (rows first : List CsvRecord) → Begins rows first → Begins (rows_before closed units rows) (closed_before closed units first)
unfolding Begins
begins_with units true rows first b = (b.0, ap (λ (l : List CsvRecord). record { first = units; others = [] } ∷ l) b.1)
begins_with units false rows [] b = (open_before units rows, refl)
begins_with units false rows (row ∷ first) b = (b.0, ap (open_before units) b.1)

-- The records that some fields close are the first of the records of these and of more fields.
pub closed_first : (fields more : List Field) → (others : List CsvRecord) × (records_of (fields ++ more) ≡ closed_records fields ++ others)
unfolding Begins records_of closed_records
closed_first [] more = (records_of more, refl)
closed_first (field ∷ fields) more = begins_with field.units (closes field.end) (records_of (fields ++ more)) (closed_records fields) (closed_first fields more)

-- ---- what was written so far begins with the file of the closed records
whole_text : (begun : Bool) → List CsvRecord → List ℕ
whole_text begun [] = []
whole_text begun (row ∷ rows) = pick begun (0x2C ∷ []) [] ++ (row_text row ++ file_text rows)

whole_file : (rows : List CsvRecord) → whole_text false rows ≡ file_text rows
unfolding whole_text file_text
whole_file [] = refl
whole_file (row ∷ rows) = refl

-- a field, and what was written behind it: whole records, and a part of an open one
closed_part : (begun : Bool) (units : List ℕ) (rows : List CsvRecord) (open_part : List ℕ)
    → part_text begun units true ++ (file_text rows ++ open_part) ≡ whole_text begun (record { first = units; others = [] } ∷ rows) ++ open_part
unfolding whole_text part_text break_if row_text others_text
closed_part begun units rows open_part =
    let comma : List ℕ = pick begun (0x2C ∷ []) [] in
    sym (append_assoc (comma ++ (field_text units ++ line_end)) (file_text rows) open_part)
    ∙ ap (λ (l : List ℕ). l ++ open_part) (append_assoc comma (field_text units ++ line_end) (file_text rows))

open_row : (begun : Bool) (units : List ℕ) (row : CsvRecord) (rows : List CsvRecord) (open_part : List ℕ)
    → part_text begun units false ++ (whole_text true (row ∷ rows) ++ open_part)
    ≡ whole_text begun (record { first = units; others = row.first ∷ row.others } ∷ rows) ++ open_part
unfolding whole_text part_text break_if row_text others_text
open_row begun units row rows open_part =
    let comma : List ℕ = pick begun (0x2C ∷ []) [] in
    let behind = row_text row in
    ap (λ (l : List ℕ). (comma ++ l) ++ ((0x2C ∷ (behind ++ file_text rows)) ++ open_part)) (append_none (field_text units))
    ∙ sym (append_assoc (comma ++ field_text units) (0x2C ∷ (behind ++ file_text rows)) open_part)
    ∙ ap (λ (l : List ℕ). l ++ open_part)
    (append_assoc comma (field_text units) (0x2C ∷ (behind ++ file_text rows))
    ∙ ap (λ (l : List ℕ). comma ++ l) (sym (append_assoc (field_text units) (0x2C ∷ behind) (file_text rows))))

Written : (begun : Bool) → (rows : List CsvRecord) → (text : List ℕ) → Type 0
Written begun rows text = (open_part : List ℕ) × (text ≡ whole_text begun rows ++ open_part)

part_written : (begun : Bool) (units : List ℕ) (closed : Bool) (rows : List CsvRecord) (text : List ℕ) → Written (pick closed false true) rows text
    → Written begun (closed_before closed units rows) (part_text begun units closed ++ text)
unfolding Written whole_text
part_written begun units true rows text w =
    (w.0, ap (λ (l : List ℕ). part_text begun units true ++ l) (w.1 ∙ ap (λ (l : List ℕ). l ++ w.0) (whole_file rows)) ∙ closed_part begun units rows w.0)
part_written begun units false [] text w = (part_text begun units false ++ text, refl)
part_written begun units false (row ∷ rows) text w = (w.0, ap (λ (l : List ℕ). part_text begun units false ++ l) w.1 ∙ open_row begun units row rows w.0)

written_first : (begun : Bool) (fields : List Field) → Written begun (closed_records fields) (so_far begun fields)
unfolding Written so_far closed_records whole_text
written_first begun [] = ([], refl)
written_first begun (field ∷ fields) =
    part_written begun field.units (closes field.end) (closed_records fields) (so_far (pick (closes field.end) false true) fields)
    (written_first (pick (closes field.end) false true) fields)

-- CUT to the end of the last whole record, what was written is the file of the closed records.
pub cut_file : (fields : List Field) → take (length (file_text (closed_records fields))) (so_far false fields) ≡ file_text (closed_records fields)
unfolding Written
cut_file fields =
    let w = written_first false fields in
    let file = file_text (closed_records fields) in
    ap (take (length file)) (w.1 ∙ ap (λ (l : List ℕ). l ++ w.0) (whole_file (closed_records fields))) ∙ take-append_seam file w.0

module _ (text buffer : List ℕ) (es : List FieldEntry) (t : FieldTrace text buffer es) where
  -- THE IMPORT'S FILE, whatever the blocks: what the calls write of the fields that were given is the file of the text's records, once an
  -- accepted call marked last has left nothing unread; and read by RFC 4180 it says these records.
  pub import_file : (play_fields text opened_cutting es).finished ≡ true → joined false (play_fields text opened_cutting es).given ≡ file_text (records_of (fields_of text))
  import_file e = ap (joined false) ((every_cutting text buffer es t).all_of_them e) ∙ calls_are_file (fields_of text)

  pub import_back : (play_fields text opened_cutting es).finished ≡ true → rows_of (joined false (play_fields text opened_cutting es).given) ≡ some (records_of (fields_of text))
  import_back e = ap rows_of (import_file e) ∙ file_back (records_of (fields_of text))

  -- BROKEN OFF: the records that the fields so far have closed are the first of the text's.
  pub import_first : (others : List CsvRecord) × (records_of (fields_of text) ≡ closed_records (play_fields text opened_cutting es).given ++ others)
  import_first =
      let b = (every_cutting text buffer es t).begins in
      let w = closed_first (play_fields text opened_cutting es).given b.0 in
      (w.0, ap records_of b.1 ∙ w.1)
