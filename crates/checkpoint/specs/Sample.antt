-- The sample line of document 01, a line with a unit pending (document 02, CR 5), lines that are refused, and runs with the longest
-- lines. docs/RULES.md, "The run, and its saved line".
use Rattle.std.specs.Prelude.{true, false, List, [], ◌∷◌, ◌++◌, ◌≡◌, ℕ}
use Rattle.engine.specs.declared.Direction.TheVariants.{Decoding, Encoding}
use Rattle.engine.specs.Policies.{replacing}
use Rattle.convert.specs.declared.Pending.TheVariants.{Nothing, Byte, High}
use Rattle.convert.specs.declared.Run.{Run}
use Rattle.checkpoint.specs.Line.{end_word, read_of}

-- A decoding run of page 932, policy 555, with 83 pending, flags 0, read 512, written 300.
unfoldable pub sample_run : Run
sample_run =
    record {
      direction = Decoding;
      page = 932;
      policy = replacing;
      pending = Byte 0x83;
      flags = 0;
      read = 512;
      written = 300;
      ended = false;
    }

-- `D>932>555>83>0>512>300>on` and a line feed, tabs shown as `>`
unfoldable pub sample_line : List ℕ
sample_line =
    0x44 ∷ 9 ∷ 0x39 ∷ 0x33 ∷ 0x32 ∷ 9 ∷ 0x35 ∷ 0x35 ∷ 0x35 ∷ 9 ∷ 0x38 ∷ 0x33 ∷ 9 ∷ 0x30 ∷ 9 ∷ 0x35 ∷ 0x31 ∷ 0x32 ∷ 9 ∷ 0x33 ∷ 0x30 ∷ 0x30 ∷ 9 ∷ 0x6F ∷ 0x6E ∷ 10 ∷ []

-- An encoding run of page 7, policy 555, with D83D pending, flags 0, read 1, written 0.
unfoldable pub pending_run : Run
pending_run =
    record {
      direction = Encoding;
      page = 7;
      policy = replacing;
      pending = High 0xD83D;
      flags = 0;
      read = 1;
      written = 0;
      ended = false;
    }

-- `E>7>555>D83D>0>1>0>on` and a line feed
unfoldable pub pending_line : List ℕ
pending_line = 0x45 ∷ 9 ∷ 0x37 ∷ 9 ∷ 0x35 ∷ 0x35 ∷ 0x35 ∷ 9 ∷ 0x44 ∷ 0x38 ∷ 0x33 ∷ 0x44 ∷ 9 ∷ 0x30 ∷ 9 ∷ 0x31 ∷ 9 ∷ 0x30 ∷ 9 ∷ 0x6F ∷ 0x6E ∷ 10 ∷ []

-- A line like it, with another letter, pending field, written or word.
unfoldable pub line_with : (letter : ℕ) → (pending_field : List ℕ) → (written : ℕ) → (word : List ℕ) → List ℕ
line_with letter pending_field written word =
    (letter ∷ 9 ∷ 0x37 ∷ 9 ∷ 0x35 ∷ 0x35 ∷ 0x35 ∷ 9 ∷ []) ++ pending_field ++ (9 ∷ 0x30 ∷ 9 ∷ 0x31 ∷ 9 ∷ written ∷ 9 ∷ []) ++ word ++ (10 ∷ [])

-- Lines that are none.
unfoldable pub not_lines : List (List ℕ)
not_lines =
    -- two hex digits in an `E` line: 83
    line_with 0x45 (0x38 ∷ 0x33 ∷ []) 0x30 (end_word false)
    -- four in a `D` line: 0083
    ∷ line_with 0x44 (0x30 ∷ 0x30 ∷ 0x38 ∷ 0x33 ∷ []) 0x30 (end_word false)
    -- a low surrogate: DC00
    ∷ line_with 0x45 (0x44 ∷ 0x43 ∷ 0x30 ∷ 0x30 ∷ []) 0x30 (end_word false)
    -- small hex digits: d83d
    ∷ line_with 0x45 (0x64 ∷ 0x38 ∷ 0x33 ∷ 0x64 ∷ []) 0x30 (end_word false)
    -- D83D with written 1, read 1
    ∷ line_with 0x45 (0x44 ∷ 0x38 ∷ 0x33 ∷ 0x44 ∷ []) 0x31 (end_word false)
    -- D83D with `over`
    ∷ line_with 0x45 (0x44 ∷ 0x38 ∷ 0x33 ∷ 0x44 ∷ []) 0x30 (end_word true)
    ∷ []

-- every one of some lines is answered with a number
abbrev pub AllAnswered : (number : ℕ) → List (List ℕ) → Type 0
AllAnswered number [] = Unit {0}
AllAnswered number (line ∷ lines) = ((read_of line).number ≡ number) × AllAnswered number lines

-- Runs whose lines have 44 bytes: one that has ended,
unfoldable pub longest_run : Run
longest_run =
    record {
      direction = Encoding;
      page = 65535;
      policy = replacing;
      pending = Nothing;
      flags = 15;
      read = 4294967295;
      written = 8589934590;
      ended = true;
    }

-- and one with a unit pending.
unfoldable pub longest_pending : Run
longest_pending =
    record {
      direction = Encoding;
      page = 65535;
      policy = replacing;
      pending = High 0xDBFF;
      flags = 7;
      read = 4294967295;
      written = 8589934588;
      ended = false;
    }
