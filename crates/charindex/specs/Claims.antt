-- Document 02, CR 11: what is claimed of the index, and the cases of the answers.
use Rattle.std.specs.Prelude.{List, ◌⊎◌, ◌≡◌, ℕ, ◌-◌, ◌*◌, ◌≤◌, ◌<◌, length, take}
use Rattle.std.proofs.Math.Option.{none}
use Rattle.codepage.specs.CodePage.{CodePage, GoodShape, entry_at}
use Rattle.codepage.specs.Reading.{Reader}
use Rattle.codepage_walk.specs.Checks.{bytes_reader, TextPasses}
use Rattle.convert.specs.Runs.{piece_limit}
use Rattle.charindex.specs.declared.Refusal.{Refusal}
use Rattle.charindex.specs.declared.Refusal.TheVariants.{BadShape, TooLong, FormerTooLong, BadIndex, NoSuchCode}
use Rattle.charindex.specs.Index.{count_of, blocks_of, index_of, find_of}

-- A right index: in front it is the one made anew. Entries behind a text's blocks do not matter.
abbrev pub Right : Reader → (text entries : List ℕ) → Type 0
Right r text entries = take (blocks_of (length text)) entries ≡ index_of r text

-- What each answer says: all before it passes, and this does not.

-- the last entry of so many blocks counts more codes than bytes before its block
abbrev pub OverCounted : (entries : List ℕ) → (blocks : ℕ) → Type 0
OverCounted entries blocks = (0 < blocks) × (512 * (blocks - 1) < count_of (entry_at entries (blocks - 1)))

-- the refusals of appending
abbrev pub AppendSays : CodePage → (journal : List ℕ) → (former : ℕ) → (entries : List ℕ) → Refusal → Type 0
AppendSays p journal former entries BadShape = GoodShape p → ⊥
AppendSays p journal former entries TooLong = GoodShape p × (piece_limit < length journal)
AppendSays p journal former entries FormerTooLong = TextPasses p piece_limit (length journal) × (length journal < former)
AppendSays p journal former entries BadIndex =
    TextPasses p piece_limit (length journal) × (former ≤ length journal) × ((length entries < blocks_of (length journal)) ⊎ OverCounted entries (blocks_of former))
AppendSays p journal former entries NoSuchCode = ⊥

-- appending is accepted
abbrev pub AppendPasses : CodePage → (journal : List ℕ) → (former : ℕ) → (entries : List ℕ) → Type 0
AppendPasses p journal former entries =
    TextPasses p piece_limit (length journal) × (former ≤ length journal) × (blocks_of (length journal) ≤ length entries) × (OverCounted entries (blocks_of former) → ⊥)

-- 10, 11 and 28 pass in finding
abbrev pub FindPasses : CodePage → (journal entries : List ℕ) → Type 0
FindPasses p journal entries = TextPasses p piece_limit (length journal) × (blocks_of (length journal) ≤ length entries)

-- the refusals of finding
abbrev pub FindSays : CodePage → (journal entries : List ℕ) → (n : ℕ) → Refusal → Type 0
FindSays p journal entries n BadShape = GoodShape p → ⊥
FindSays p journal entries n TooLong = GoodShape p × (piece_limit < length journal)
FindSays p journal entries n FormerTooLong = ⊥
FindSays p journal entries n BadIndex = TextPasses p piece_limit (length journal) × (length entries < blocks_of (length journal))
FindSays p journal entries n NoSuchCode = FindPasses p journal entries × (find_of (bytes_reader p) journal entries n ≡ none)
