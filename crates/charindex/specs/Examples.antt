-- Document 02, CR 11: worked calls on the sample page.
use Rattle.std.specs.Prelude.{Result, Ok, Err, List, [], ◌∷◌, ◌++◌, ◌≡◌, ℕ, replicate}
use Rattle.convert.specs.Sample.{sample_page}
use Rattle.charindex.specs.declared.Refusal.{Refusal}
use Rattle.charindex.specs.declared.Refusal.TheVariants.{FormerTooLong, BadIndex, NoSuchCode}
use Rattle.charindex.specs.declared.Found.{Found}
use Rattle.charindex.specs.Calls.{appending_of, finding_of}

-- 511 times 41, then 81 40: a code of two bytes across the end of the first block
unfoldable pub across_blocks : List ℕ
across_blocks = replicate 511 0x41 ++ (0x81 ∷ 0x40 ∷ [])

-- three blocks of 41
unfoldable pub three_blocks : List ℕ
three_blocks = replicate 1536 0x41

-- appending: the journal, the former length, the index, the answer, and the index after it
pub record AppendRow : Type 0 where
  pub journal : List ℕ
  pub former : ℕ
  pub entries : List ℕ
  pub answer : Result ℕ Refusal
  pub after : List ℕ

abbrev index_row : List ℕ → ℕ → List ℕ → Result ℕ Refusal → List ℕ → AppendRow
index_row journal former entries answer after = record { journal = journal; former = former; entries = entries; answer = answer; after = after }

-- the rows of appending
abbrev pub append_rows : List AppendRow
append_rows =
    -- made anew: block 1 has 512 codes before it and begins with a second byte; the rest of the list as before
    index_row across_blocks 0 (9 ∷ 9 ∷ 9 ∷ []) (Ok 2) (0 ∷ 1025 ∷ 9 ∷ [])
    -- the former journal ended with 81 alone
    ∷ index_row across_blocks 512 (0 ∷ 9 ∷ 9 ∷ []) (Ok 2) (0 ∷ 1025 ∷ 9 ∷ [])
    -- nothing new, and nothing of the former entries is touched
    ∷ index_row across_blocks 513 (8 ∷ 6 ∷ 9 ∷ []) (Ok 2) (8 ∷ 6 ∷ 9 ∷ [])
    -- a wrong former entry: its count and mark are gone on from
    ∷ index_row across_blocks 1 (1 ∷ 9 ∷ []) (Ok 2) (1 ∷ 1023 ∷ [])
    -- 33; 28 too short; 28 a former last entry that counts 1 code before byte 0, 513 before byte 512
    ∷ index_row across_blocks 514 (0 ∷ []) (Err FormerTooLong) (0 ∷ [])
    ∷ index_row across_blocks 513 (0 ∷ []) (Err BadIndex) (0 ∷ [])
    ∷ index_row across_blocks 1 (2 ∷ 9 ∷ []) (Err BadIndex) (2 ∷ 9 ∷ [])
    ∷ index_row across_blocks 513 (0 ∷ 1026 ∷ []) (Err BadIndex) (0 ∷ 1026 ∷ [])
    -- 512 codes before byte 512 are not too many
    ∷ index_row across_blocks 513 (0 ∷ 1024 ∷ []) (Ok 2) (0 ∷ 1024 ∷ [])
    -- the empty journal
    ∷ index_row [] 0 [] (Ok 0) []
    ∷ []

-- what a row says
abbrev pub AppendHolds : AppendRow → Type 0
AppendHolds r = ((appending_of sample_page r.journal r.former r.entries).answer ≡ r.answer) × ((appending_of sample_page r.journal r.former r.entries).entries ≡ r.after)

-- finding: the journal, the index, the number of the code, and the answer
pub record FindRow : Type 0 where
  pub journal : List ℕ
  pub entries : List ℕ
  pub n : ℕ
  pub answer : Result Found Refusal

abbrev finds : List ℕ → List ℕ → ℕ → Result Found Refusal → FindRow
finds journal entries n answer = record { journal = journal; entries = entries; n = n; answer = answer }

-- a code is found: its place and its length
abbrev code_at : (place size : ℕ) → Result Found Refusal
code_at place size = Ok (record { place = place; length = size })

-- the rows of finding
abbrev pub find_rows : List FindRow
find_rows =
    -- counts 0, 1100, 1000: the last block by position decides
    finds three_blocks (0 ∷ 2200 ∷ 2000 ∷ []) 1050 (code_at 1074 1)
    ∷ finds three_blocks (0 ∷ 2200 ∷ 2000 ∷ []) 1100 (code_at 1124 1)
    ∷ finds three_blocks (0 ∷ 2200 ∷ 2000 ∷ []) 1000 (code_at 1024 1)
    ∷ finds three_blocks (0 ∷ 2200 ∷ 2000 ∷ []) 999 (code_at 999 1)
    -- no block counts at most 0; no code 1536 from block 2 on
    ∷ finds three_blocks (2 ∷ 2200 ∷ 2000 ∷ []) 0 (Err NoSuchCode)
    ∷ finds three_blocks (0 ∷ 1024 ∷ 2048 ∷ []) 1535 (code_at 1535 1)
    ∷ finds three_blocks (0 ∷ 1024 ∷ 2048 ∷ []) 1536 (Err NoSuchCode)
    ∷ finds three_blocks (0 ∷ 1024 ∷ 2048 ∷ []) 0xFFFFFFFFFFFFFFFF (Err NoSuchCode)
    -- an entry too few; entries behind the journal's blocks do not matter
    ∷ finds three_blocks (0 ∷ 1024 ∷ []) 0 (Err BadIndex)
    ∷ finds three_blocks (0 ∷ 1024 ∷ 2048 ∷ 0 ∷ []) 1024 (code_at 1024 1)
    -- a code of two bytes across a block's end, by the right index; then no code
    ∷ finds across_blocks (0 ∷ 1025 ∷ []) 511 (code_at 511 2)
    ∷ finds across_blocks (0 ∷ 1025 ∷ []) 512 (Err NoSuchCode)
    -- the mark set on block 0: code 0 is at place 1
    ∷ finds (0x41 ∷ 0x42 ∷ []) (1 ∷ []) 0 (code_at 1 1)
    -- a lead at the journal's end is one byte
    ∷ finds (0x41 ∷ 0x81 ∷ []) (0 ∷ []) 1 (code_at 1 1)
    -- the empty journal has no block
    ∷ finds [] [] 0 (Err NoSuchCode)
    ∷ []

-- what a row says
abbrev pub FindHolds : FindRow → Type 0
FindHolds r = finding_of sample_page r.journal r.entries r.n ≡ r.answer

-- each row
abbrev pub AllAppended : List AppendRow → Type 0
AllAppended [] = Unit {0}
AllAppended (r ∷ rs) = AppendHolds r × AllAppended rs

-- each row
abbrev pub AllFound : List FindRow → Type 0
AllFound [] = Unit {0}
AllFound (r ∷ rs) = FindHolds r × AllFound rs
