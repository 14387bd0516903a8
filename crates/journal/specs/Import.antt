-- Document 02, CR 1: a list of run calls, and a list of field calls on what they wrote.
-- docs/RULES.md, "Lists of calls" and "Fields".
use Rattle.std.specs.Prelude.{Bool, true, false, List, [], ◌∷◌, ◌++◌, ◌⊎◌, ◌≡◌, ℕ}
use Rattle.traces.specs.Model.{Setting, by_value, Call, feeding, saving, loading, opened, play, whole_of}
use Rattle.traces.specs.Traces.{Entry, calls_of}
use Rattle.convert.specs.Sample.{room}
use Rattle.fields.specs.Fields.{Field, fields_of}
use Rattle.fields.specs.Cuttings.{FieldEntry, Progress, opened_cutting, play_fields, NoneLast}

-- what the run calls wrote, joined
unfoldable pub joined_output : Setting → List Entry → List ℕ
joined_output s es = (play s (opened s) (calls_of es)).joined

-- whether the run calls have ended the run
unfoldable pub is_ended : Setting → List Entry → Bool
is_ended s es = (play s (opened s) (calls_of es)).ended

-- how far the field calls are on what was written
unfoldable pub progress : Setting → List Entry → List FieldEntry → Progress
progress s es cs = play_fields (joined_output s es) opened_cutting cs

-- THE CLAIM. A field call is marked last only if the run has ended. The fields given are the first of the whole reading's, and all
-- of them once the run has ended and an accepted field call marked last has left nothing unread.
pub record Imported (s : Setting) (es : List Entry) (cs : List FieldEntry) : Type 0 where
  pub begins : (is_ended s es ≡ true) ⊎ NoneLast cs → (others : List Field) × (fields_of (whole_of s).output ≡ (progress s es cs).given ++ others)
  pub all_of_them : is_ended s es ≡ true → (progress s es cs).finished ≡ true → (progress s es cs).given ≡ fields_of (whole_of s).output

-- The night that lost a field: a block ends on 82, the run is saved and read back, and the next block is 7C 7C.
abbrev pub night_text : List ℕ
night_text = 0x82 ∷ 0x7C ∷ 0x7C ∷ []

-- `D>7>555>82>0>1>0>on` and a line feed
abbrev pub night_line : List ℕ
night_line = 0x44 ∷ 9 ∷ 0x37 ∷ 9 ∷ 0x35 ∷ 0x35 ∷ 0x35 ∷ 9 ∷ 0x38 ∷ 0x32 ∷ 9 ∷ 0x30 ∷ 9 ∷ 0x31 ∷ 9 ∷ 0x30 ∷ 9 ∷ 0x6F ∷ 0x6E ∷ 0x0A ∷ []

-- its calls: the piece 82, line writing, line reading, and 7C 7C marked last
abbrev pub night : List Call
night = feeding by_value (0x82 ∷ []) false (room 9) ∷ saving (room 44) ∷ loading night_line ∷ feeding by_value (0x7C ∷ 0x7C ∷ []) true (room 9) ∷ []

-- The night that made one record of two: a broken half, 81, before a line feed (CR 2).
abbrev pub broken_text : List ℕ
broken_text = 0x81 ∷ 0x0A ∷ 0x41 ∷ 0x7C ∷ []
