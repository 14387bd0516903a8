-- Worked lists on the sample page: a run whose line drops inside a two_byte character, one whose line drops inside a pair of
-- surrogates, a list for each number that a list can meet, and the sixteen rows of document 01. docs/RULES.md, "Lists of calls".
use Rattle.std.specs.Prelude.{true, false, List, [], ◌∷◌, ◌++◌, map, ◌≡◌, ℕ, length}
use Rattle.std.proofs.Math.Option.{some}
use Rattle.engine.specs.declared.Direction.TheVariants.{Decoding, Encoding}
use Rattle.engine.specs.Policies.{replacing}
use Rattle.convert.specs.declared.Run.{Run}
use Rattle.convert.specs.Sample.{sample_page, room, Row, RowHolds, rows}
use Rattle.checkpoint.specs.Line.{write_of, read_of}
use Rattle.checkpoint.specs.Sample.{sample_run, sample_line}
use Rattle.traces.specs.Model.{Setting, by_value, in_record, Call, feeding, saving, loading}
use Rattle.traces.specs.Traces.{Entry, observed, Proper, Trace}

-- a decoding list on the sample page
abbrev pub on_sample : (text : List ℕ) → Setting
on_sample text = record { tables = sample_page; direction = Decoding; page = 7; policy = replacing; text = text }

-- An interrupted run: a block ends on the lead 82 of the character 827C. The run is saved, and read back in the morning; 7C is next.
abbrev pub interrupted_text : List ℕ
interrupted_text = 0x41 ∷ 0x82 ∷ 0x7C ∷ 0x42 ∷ []

-- `D>7>555>82>0>2>1>on` and a line feed
abbrev pub interrupted_line : List ℕ
interrupted_line = 0x44 ∷ 9 ∷ 0x37 ∷ 9 ∷ 0x35 ∷ 0x35 ∷ 0x35 ∷ 9 ∷ 0x38 ∷ 0x32 ∷ 9 ∷ 0x30 ∷ 9 ∷ 0x32 ∷ 9 ∷ 0x31 ∷ 9 ∷ 0x6F ∷ 0x6E ∷ 0x0A ∷ []

-- its calls: the piece up to 82, line writing, line reading, and the rest marked last
abbrev pub interrupted : List Call
interrupted = feeding by_value (0x41 ∷ 0x82 ∷ []) false (room 9) ∷ saving (room 44) ∷ loading interrupted_line ∷ feeding by_value (0x7C ∷ 0x42 ∷ []) true (room 9) ∷ []

-- A run in both forms (CR 13): its record is updated where it stands up to 82; the run is saved, and read back; the rest is a call by value,
-- and the last piece, which is empty, is in the record again.
abbrev pub mixed : List Call
mixed = feeding in_record (0x41 ∷ 0x82 ∷ []) false (room 9) ∷ saving (room 44) ∷ loading interrupted_line ∷ feeding by_value (0x7C ∷ 0x42 ∷ []) false (room 9) ∷ feeding in_record [] true (room 9) ∷ []

-- an encoding list on the sample page
abbrev pub encoding_on_sample : (text : List ℕ) → Setting
encoding_on_sample text = record { tables = sample_page; direction = Encoding; page = 7; policy = replacing; text = text }

-- The same in encoding: a block ends on the high surrogate of the pair D83D DE00.
abbrev pub cut_pair_text : List ℕ
cut_pair_text = 0x0041 ∷ 0xD83D ∷ 0xDE00 ∷ 0x0042 ∷ []

-- `E>7>555>D83D>0>2>1>on` and a line feed
abbrev pub cut_pair_line : List ℕ
cut_pair_line = 0x45 ∷ 9 ∷ 0x37 ∷ 9 ∷ 0x35 ∷ 0x35 ∷ 0x35 ∷ 9 ∷ 0x44 ∷ 0x38 ∷ 0x33 ∷ 0x44 ∷ 9 ∷ 0x30 ∷ 9 ∷ 0x32 ∷ 9 ∷ 0x31 ∷ 9 ∷ 0x6F ∷ 0x6E ∷ 0x0A ∷ []

-- its calls: the piece up to D83D, line writing, line reading, and the rest marked last
abbrev pub cut_pair : List Call
cut_pair = feeding by_value (0x0041 ∷ 0xD83D ∷ []) false (room 9) ∷ saving (room 44) ∷ loading cut_pair_line ∷ feeding by_value (0xDE00 ∷ 0x0042 ∷ []) true (room 9) ∷ []

-- A trace of a list that meets a number: the last of its calls is answered with it.
pub record MeetsNumber (s : Setting) (number : ℕ) : Type 0 where
  pub proper : Proper s
  pub start : Run
  pub before : List Entry
  pub final : Entry
  pub trace : Trace s start (before ++ (final ∷ []))
  pub answer : (observed final.result).number ≡ number

-- The sixteen rows: run calls, and (row 16) the saved line of document 01, 26 bytes, written and read by the two calls.
pub data Example : Type 0 where
  calling : Row → Example
  line : Run → List ℕ → Example

abbrev pub Holds : Example → Type 0
Holds (calling r) = RowHolds r
Holds (line run bytes) = (write_of run 26 ≡ record { number = 0; line = bytes }) × (read_of bytes ≡ record { number = 0; run = some run }) × (length bytes ≡ 26)

-- every row of a list holds
abbrev pub ExamplesHold : List Example → Type 0
ExamplesHold [] = Unit {0}
ExamplesHold (e ∷ es) = Holds e × ExamplesHold es

-- rows 1 to 15 as run calls on the sample page, and row 16 as its line
abbrev pub sixteen_rows : List Example
sixteen_rows = map calling rows ++ (line sample_run sample_line ∷ [])
