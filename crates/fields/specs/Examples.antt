-- Worked texts: `a` is 0061.
use Rattle.std.specs.Prelude.{List, [], ◌∷◌, ◌≡◌, ℕ}
use Rattle.fields.specs.declared.End.{End}
use Rattle.fields.specs.declared.End.TheVariants.{Bar, LineFeed, Text}
use Rattle.fields.specs.Fields.{Field, fields_of}

pub record FieldRow : Type 0 where
  pub text : List ℕ
  pub fields : List Field

abbrev ended_field : List ℕ → End → Field
ended_field units end = record { units = units; end = end }

abbrev field_row : List ℕ → List Field → FieldRow
field_row text fields = record { text = text; fields = fields }

-- texts with their fields: none, separators alone, a last field without a separator, a character before a bar
abbrev pub field_rows : List FieldRow
field_rows =
    field_row [] []
    ∷ field_row (0x7C ∷ []) (ended_field [] Bar ∷ [])
    ∷ field_row (0x0A ∷ 0x0A ∷ []) (ended_field [] LineFeed ∷ ended_field [] LineFeed ∷ [])
    ∷ field_row (0x61 ∷ []) (ended_field (0x61 ∷ []) Text ∷ [])
    ∷ field_row (0x61 ∷ 0x7C ∷ []) (ended_field (0x61 ∷ []) Bar ∷ [])
    ∷ field_row (0x61 ∷ 0x7C ∷ 0x61 ∷ 0x61 ∷ 0x0A ∷ 0x61 ∷ []) (ended_field (0x61 ∷ []) Bar ∷ ended_field (0x61 ∷ 0x61 ∷ []) LineFeed ∷ ended_field (0x61 ∷ []) Text ∷ [])
    -- 82 7C 7C of a till: one character, and a bar
    ∷ field_row (0x4E00 ∷ 0x7C ∷ []) (ended_field (0x4E00 ∷ []) Bar ∷ [])
    ∷ []

-- the fields of each text are those of its row
abbrev pub FieldRowsHold : List FieldRow → Type 0
FieldRowsHold [] = Unit {0}
FieldRowsHold (r ∷ rs) = (fields_of r.text ≡ r.fields) × FieldRowsHold rs
