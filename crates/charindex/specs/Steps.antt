-- Definitions that the private functions' contracts cite, and that no promise does.
use Rattle.std.specs.Prelude.{Option as Maybe, Some, None, Result, Ok, Err, List, ◌++◌, ◌≡◌, ℕ, ◌+◌, ◌-◌, ◌*◌, ◌≤◌, ◌<◌, length, take, drop}
use Rattle.std.proofs.Math.Option.{Option, none, some}
use Rattle.codepage.specs.CodePage.{pick}
use Rattle.codepage.specs.Reading.{Reader, size_of}
use Rattle.codepage_walk.specs.Walk.{Placed}
use Rattle.charindex.specs.declared.Start.{Start}
use Rattle.charindex.specs.declared.Found.{Found}
use Rattle.charindex.specs.declared.Refusal.{Refusal}
use Rattle.charindex.specs.declared.Refusal.TheVariants.{BadIndex}
use Rattle.charindex.specs.Index.{blocks_of, block_entry, codes_from, new_entries, start_after, append_of}
use Rattle.codepage_walk.specs.Checks.{refuse_unless}
use Rattle.charindex.specs.Calls.{counts_within, Appending, append_unless}

-- a start that lies in a text, and counts no more codes than bytes before it
pub record Inside (text : List ℕ) (s : Start) : Type 0 where
  pub place : s.place ≤ length text
  pub count : s.count ≤ s.place

-- The promise of reading on to a place: the start behind the codes that start before it. The entry at the place is told by it, and the
-- entries behind the place are the same from either start.
pub record Reached (r : Reader) (text : List ℕ) (from : Start) (to : ℕ) (s : Start) : Type 0 where
  pub from_on : to ≤ s.place
  pub within : s.place ≤ to + 1
  pub here : block_entry from.count (codes_from r text from.place) to ≡ 2 * s.count + (s.place - to)
  pub later : (b : ℕ) → to < b → block_entry from.count (codes_from r text from.place) b ≡ block_entry s.count (codes_from r text s.place) b

-- the entries written from a start on: those of the first blocks, the new ones, and those behind the last block
unfoldable pub written_entries : Reader → (journal : List ℕ) → Start → (first : ℕ) → (entries : List ℕ) → List ℕ
written_entries r journal s first entries = take first entries ++ (new_entries r journal s first ++ drop (blocks_of (length journal)) entries)

-- a block that was found, or none
abbrev pub block_found : Option ℕ → Maybe ℕ
block_found none = None
block_found (some block) = Some block

-- the place and the length of a code that was found, or none
abbrev pub code_found : Option Placed → Maybe Found
code_found none = None
code_found (some p) = Some (record { place = p.place; length = size_of p.code })

-- Where reading goes on behind the first blocks, unless the last one's entry counts more codes than bytes before it.
unfoldable pub checked_start : (entries : List ℕ) → (blocks : ℕ) → Result Start Refusal
checked_start entries blocks = pick (counts_within entries blocks) (Ok (start_after entries blocks)) (Err BadIndex)

-- appending to an index that is long enough
unfoldable pub going_on : Reader → (journal : List ℕ) → (former : ℕ) → (entries : List ℕ) → Appending
going_on r journal former entries =
    append_unless (refuse_unless BadIndex (counts_within entries (blocks_of former)) none) (blocks_of (length journal)) entries (append_of r journal former entries)
