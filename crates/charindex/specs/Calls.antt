-- Document 02, CR 11: the two calls. One appends to the index, one finds a code by it.
use Rattle.std.specs.Prelude.{Result, Ok, Err, Bool, true, List, ◌≡◌, ℕ, zero, suc, ◌*◌, leb, length}
use Rattle.std.proofs.Math.Option.{Option, none, some}
use Rattle.codepage.specs.CodePage.{CodePage, entry_at}
use Rattle.codepage.specs.Reading.{size_of}
use Rattle.convert.specs.Runs.{piece_limit}
use Rattle.codepage_walk.specs.Walk.{Placed}
use Rattle.codepage_walk.specs.Checks.{refuse_unless, text_checks, bytes_reader}
use Rattle.charindex.specs.declared.Refusal.{Refusal}
use Rattle.charindex.specs.declared.Refusal.TheVariants.{BadShape, TooLong, FormerTooLong, BadIndex, NoSuchCode}
use Rattle.charindex.specs.declared.Found.{Found}
use Rattle.charindex.specs.Index.{count_of, blocks_of, append_of, find_of}

-- The numbers of the refusals.
abbrev pub index_number : Refusal → ℕ
index_number BadShape = 10
index_number TooLong = 11
index_number FormerTooLong = 33
index_number BadIndex = 28
index_number NoSuchCode = 29

-- the index has an entry for each block of the journal
abbrev pub long_enough : (journal entries : List ℕ) → Bool
long_enough journal entries = leb (blocks_of (length journal)) (length entries)

-- the former last entry, if there is one, counts no more codes than bytes before its block
unfoldable pub counts_within : (entries : List ℕ) → (blocks : ℕ) → Bool
counts_within entries zero = true
counts_within entries (suc block) = leb (count_of (entry_at entries block)) (512 * block)

-- ---- appending, 10 and 11 first
unfoldable pub append_refusal : CodePage → (journal : List ℕ) → (former : ℕ) → (entries : List ℕ) → Option Refusal
append_refusal p journal former entries =
    text_checks BadShape TooLong p piece_limit (length journal)
    (refuse_unless FormerTooLong (leb former (length journal))
    (refuse_unless BadIndex (long_enough journal entries)
    (refuse_unless BadIndex (counts_within entries (blocks_of former))
    none)))

-- What appending gives: its answer, and the index after it.
pub record Appending : Type 0 where
  pub answer : Result ℕ Refusal
  pub entries : List ℕ

-- a refused call leaves the index as it was
abbrev pub append_unless : Option Refusal → (blocks : ℕ) → (before after : List ℕ) → Appending
append_unless none blocks before after = record { answer = Ok blocks; entries = after }
append_unless (some refusal) blocks before after = record { answer = Err refusal; entries = before }

-- APPENDING.
unfoldable pub appending_of : CodePage → (journal : List ℕ) → (former : ℕ) → (entries : List ℕ) → Appending
appending_of p journal former entries =
    append_unless (append_refusal p journal former entries) (blocks_of (length journal)) entries (append_of (bytes_reader p) journal former entries)

-- The promise of appending: c is what the rules give, r what it returns, and the index after it.
pub record AppendedAs (c : Appending) (r : Result ℕ Refusal) (after : List ℕ) : Type 0 where
  pub answer : r ≡ c.answer
  pub lent : after ≡ c.entries

-- ---- finding, 10 and 11 first: 29 exactly if there is no such block or code
unfoldable pub find_refusal : CodePage → (journal entries : List ℕ) → Option Refusal
find_refusal p journal entries = text_checks BadShape TooLong p piece_limit (length journal) (refuse_unless BadIndex (long_enough journal entries) none)

-- the place and the length of a code, or 29
abbrev pub found_or29 : Option Placed → Result Found Refusal
found_or29 none = Err NoSuchCode
found_or29 (some p) = Ok (record { place = p.place; length = size_of p.code })

-- what is found, unless a check fails
abbrev pub find_unless : Option Refusal → Option Placed → Result Found Refusal
find_unless none o = found_or29 o
find_unless (some refusal) o = Err refusal

-- FINDING.
unfoldable pub finding_of : CodePage → (journal entries : List ℕ) → (n : ℕ) → Result Found Refusal
finding_of p journal entries n = find_unless (find_refusal p journal entries) (find_of (bytes_reader p) journal entries n)
