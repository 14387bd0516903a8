-- Document 02, CR 8: worked calls on the sample page and on one with two codes for a character.
use Rattle.std.specs.Prelude.{List, [], ◌∷◌, ◌++◌, ◌≡◌, ℕ, set, Result, Ok, Err}
use Rattle.codepage.specs.CodePage.{CodePage}
use Rattle.convert.specs.Sample.{none_of, sample_page}
use Rattle.spelling.specs.declared.Refusal.{Refusal}
use Rattle.spelling.specs.declared.Refusal.TheVariants.{AtFault, SpellingTooLong}
use Rattle.spelling.specs.Calls.{spelling_of}

-- The sample page changed: 80 is 3000, as 8140 is, whose own code is 8140. A0 is D800, and D800 gives A0: a surrogate that the tables
-- map both ways. 3001 gives 4141, which is read as two codes. 4E00 has no code.
abbrev pub twice_page : CodePage
twice_page =
    record {
      page = 7;
      default_byte = 0x3F;
      default_unit = 0x30FB;
      classes = sample_page.classes;
      singles = set (set sample_page.singles 0x80 0x3000) 0xA0 0xD800;
      pairs = sample_page.pairs;
      index = set (set sample_page.index 0x4E 0) 0xD8 4;
      blocks = set sample_page.blocks 0x201 0x4141 ++ set (none_of 256) 0x00 0xA0;
    }

-- a call: the page, the text, the room, the answer, and what is written
pub record SpellingRow : Type 0 where
  pub page : CodePage
  pub text : List ℕ
  pub room : ℕ
  pub answer : Result ℕ Refusal
  pub bytes : List ℕ

abbrev accepted : CodePage → List ℕ → ℕ → ℕ → List ℕ → SpellingRow
accepted page text room count bytes = record { page = page; text = text; room = room; answer = Ok count; bytes = bytes }

-- 24: the place of the first code at fault
abbrev faulty : CodePage → List ℕ → ℕ → ℕ → SpellingRow
faulty page text room place = record { page = page; text = text; room = room; answer = Err (AtFault place); bytes = [] }

-- 25
abbrev too_long : CodePage → List ℕ → ℕ → SpellingRow
too_long page text room = record { page = page; text = text; room = room; answer = Err SpellingTooLong; bytes = [] }

-- the rows
abbrev pub spelling_rows : List SpellingRow
spelling_rows =
    accepted sample_page [] 0 0 []
    ∷ accepted sample_page (0x41 ∷ []) 1 1 (0x41 ∷ [])
    ∷ accepted sample_page (0x82 ∷ 0x7C ∷ []) 2 2 (0x82 ∷ 0x7C ∷ [])
    ∷ accepted sample_page (0x82 ∷ 0x7C ∷ 0x0A ∷ []) 9 3 (0x82 ∷ 0x7C ∷ 0x0A ∷ [])
    -- the room ends one byte before
    ∷ too_long sample_page (0x82 ∷ 0x7C ∷ []) 1
    ∷ too_long sample_page (0x41 ∷ []) 0
    -- A0 is 00A0, whose own code 20 reads back as 0020
    ∷ faulty sample_page (0xA0 ∷ []) 9 0
    -- a place counts bytes, and 24 comes before 25
    ∷ faulty sample_page (0x82 ∷ 0x7C ∷ 0xA0 ∷ []) 0 2
    -- the first of two
    ∷ faulty sample_page (0x41 ∷ 0xA0 ∷ 0x80 ∷ []) 9 1
    -- an undefined single, an undefined pair, a lead at the end, a lead before a byte that is read afresh, a byte that is never
    ∷ faulty sample_page (0x80 ∷ []) 9 0
    ∷ faulty sample_page (0x81 ∷ 0x5A ∷ []) 9 0
    ∷ faulty sample_page (0x41 ∷ 0x81 ∷ []) 9 1
    ∷ faulty sample_page (0x81 ∷ 0x0A ∷ []) 9 0
    ∷ faulty sample_page (0x83 ∷ 0x41 ∷ []) 9 0
    -- two codes for 3000: one spelling, which is longer than the text
    ∷ accepted twice_page (0x80 ∷ 0x41 ∷ []) 3 3 (0x81 ∷ 0x40 ∷ 0x41 ∷ [])
    ∷ accepted twice_page (0x81 ∷ 0x40 ∷ 0x41 ∷ []) 3 3 (0x81 ∷ 0x40 ∷ 0x41 ∷ [])
    ∷ too_long twice_page (0x80 ∷ 0x41 ∷ []) 2
    -- a surrogate that the tables map both ways; an own code that is two codes; no own code
    ∷ faulty twice_page (0x80 ∷ 0xA0 ∷ []) 9 1
    ∷ faulty twice_page (0x81 ∷ 0x41 ∷ []) 9 0
    ∷ faulty twice_page (0x82 ∷ 0x7C ∷ []) 9 0
    ∷ []

-- what a row says
abbrev pub SpellingRowHolds : SpellingRow → Type 0
SpellingRowHolds r = ((spelling_of r.page r.text r.room).answer ≡ r.answer) × ((spelling_of r.page r.text r.room).bytes ≡ r.bytes)

-- each row
abbrev pub AllSpellingHold : List SpellingRow → Type 0
AllSpellingHold [] = Unit {0}
AllSpellingHold (r ∷ rs) = SpellingRowHolds r × AllSpellingHold rs
