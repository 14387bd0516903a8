-- Document 02, CR 11: the index of a journal, and the code that it finds. Places, blocks and codes count from 0.
use Rattle.std.specs.Prelude.{Bool, true, false, ◌&&◌, ◌||◌, List, [], ◌∷◌, ◌++◌, ℕ, zero, suc, ◌+◌, ◌-◌, ◌*◌, ◌/◌, ◌%◌, leb, ltb, eqb, length, take, drop}
use Rattle.std.proofs.Math.Option.{Option, none, some}
use Rattle.codepage.specs.CodePage.{pick, entry_at}
use Rattle.codepage.specs.Reading.{Reader, size_of, codes}
use Rattle.codepage_walk.specs.Walk.{Placed, placed_from, placed}
use Rattle.charindex.specs.declared.Start.{Start}

-- An entry in memory is one number: twice the codes that start before its block, and 1 more if the block's first byte is the second
-- byte of a code. So every number is an entry, and a 32-bit one holds every count of a journal.
unfoldable pub entry_of : (count : ℕ) → (second : Bool) → ℕ
entry_of count second = 2 * count + pick second 1 0

-- an entry's count
abbrev pub count_of : (entry_of : ℕ) → ℕ
count_of e = e / 2

-- an entry's mark
abbrev pub second_mark : (entry_of : ℕ) → ℕ
second_mark e = e % 2

-- "each full or begun block of 512 bytes"
abbrev pub blocks_of : (size : ℕ) → ℕ
blocks_of size = (size + 511) / 512

-- "how many codes start before it"
unfoldable pub starts_before : (place : ℕ) → List Placed → ℕ
starts_before place [] = 0
starts_before place (p ∷ ps) = pick (ltb p.place place) 1 0 + starts_before place ps

-- "whether its first byte is the second byte of a code"
unfoldable pub is_second : (place : ℕ) → List Placed → Bool
is_second place [] = false
is_second place (p ∷ ps) = (eqb (p.place + 1) place && eqb (size_of p.code) 2) || is_second place ps

-- the entry of a block that begins at a place, by codes before which `count` others start
unfoldable pub block_entry : (count : ℕ) → List Placed → (place : ℕ) → ℕ
block_entry count ps place = entry_of (count + starts_before place ps) (is_second place ps)

-- the entries of so many blocks, from a block on
unfoldable pub entries_from : (count : ℕ) → List Placed → (block blocks : ℕ) → List ℕ
entries_from count ps block zero = []
entries_from count ps block (suc blocks) = block_entry count ps (512 * block) ∷ entries_from count ps (block + 1) blocks

-- THE INDEX MADE ANEW.
unfoldable pub index_of : Reader → (text : List ℕ) → List ℕ
index_of r text = entries_from 0 (placed r text) 0 (blocks_of (length text))

-- the codes of a text from a place on
abbrev pub codes_from : Reader → (text : List ℕ) → (place : ℕ) → List Placed
codes_from r text place = placed_from place (codes r (drop place text))

-- Where reading goes on at a block by its entry's mark, and how many codes start before, by its count.
abbrev pub start_at : (block entry_of : ℕ) → Start
start_at block e = record { place = 512 * block + second_mark e; count = count_of e }

-- The last of the first blocks; where there is none, the front of the text.
unfoldable pub start_after : (entries : List ℕ) → (blocks : ℕ) → Start
start_after entries zero = record { place = 0; count = 0 }
start_after entries (suc block) = start_at block (entry_at entries block)

-- the entries of the blocks behind the first ones, from a start on
unfoldable pub new_entries : Reader → (journal : List ℕ) → Start → (first : ℕ) → List ℕ
new_entries r journal s first = entries_from s.count (codes_from r journal s.place) first (blocks_of (length journal) - first)

-- THE INDEX AFTER APPENDING: it goes on from the former last entry, and touches nothing before it and nothing behind the new last.
unfoldable pub append_of : Reader → (journal : List ℕ) → (former : ℕ) → (entries : List ℕ) → List ℕ
append_of r journal former entries =
    take (blocks_of former) entries
    ++ (new_entries r journal (start_after entries (blocks_of former)) (blocks_of former)
    ++ drop (blocks_of (length journal)) entries)

-- "the last block whose entry counts at most n", by position, whatever the counts are
unfoldable pub last_block : (entries : List ℕ) → (n blocks : ℕ) → Option ℕ
last_block entries n zero = none
last_block entries n (suc block) = elim (leb (count_of (entry_at entries block)) n) [ true ↦ some block | false ↦ last_block entries n block ]

-- code n of some codes
unfoldable pub code_number : (n : ℕ) → List Placed → Option Placed
code_number n [] = none
code_number zero (p ∷ ps) = some p
code_number (suc n) (p ∷ ps) = code_number n ps

-- read on from a start, before which `count` codes start
unfoldable pub code_after : Reader → (journal : List ℕ) → (n : ℕ) → Start → Option Placed
code_after r journal n s = code_number (n - s.count) (codes_from r journal s.place)

-- code n, read on from a block by its entry; without a block there is none
unfoldable pub code_in_block : Reader → (journal entries : List ℕ) → (n : ℕ) → Option ℕ → Option Placed
code_in_block r journal entries n none = none
code_in_block r journal entries n (some block) = code_after r journal n (start_at block (entry_at entries block))

-- THE CODE THAT AN INDEX FINDS, be it right or wrong.
unfoldable pub find_of : Reader → (journal entries : List ℕ) → (n : ℕ) → Option Placed
find_of r journal entries n = code_in_block r journal entries n (last_block entries n (blocks_of (length journal)))
