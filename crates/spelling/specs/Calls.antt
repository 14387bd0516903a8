-- Document 02, CR 8: the call that gives the standard spelling of a byte text.
use Rattle.std.specs.Prelude.{List, [], ◌≡◌, ℕ, leb, length, Result, Ok, Err}
use Rattle.std.proofs.Math.Option.{Option, none, some}
use Rattle.codepage.specs.CodePage.{CodePage}
use Rattle.codepage.specs.Lent.{over}
use Rattle.convert.specs.Runs.{piece_limit}
use Rattle.codepage_walk.specs.Checks.{refuse_unless, text_checks, bytes_reader}
use Rattle.spelling.specs.declared.Refusal.{Refusal}
use Rattle.spelling.specs.declared.Refusal.TheVariants.{BadShape, TooLong, AtFault, SpellingTooLong}
use Rattle.spelling.specs.Spelling.{fault_of, bytes_for}

-- The numbers of the refusals.
abbrev pub spelling_number : Refusal → ℕ
spelling_number BadShape = 10
spelling_number TooLong = 11
spelling_number (AtFault place) = 24
spelling_number SpellingTooLong = 25

-- the place of the first code at fault of a text, if there is one
abbrev pub fault_in : CodePage → (text : List ℕ) → Option ℕ
fault_in p text = fault_of (bytes_reader p) p.index p.blocks text

-- the spelling of a text
abbrev pub spelling_text : CodePage → (text : List ℕ) → List ℕ
spelling_text p text = bytes_for (bytes_reader p) p.index p.blocks text

-- 24: some code is at fault
abbrev pub refuse_at : Option ℕ → Option Refusal → Option Refusal
refuse_at none next = next
refuse_at (some place) next = some (AtFault place)

-- 10 and 11, then 24, then 25: "the spelling has at most 65,536 bytes and fits the room"
unfoldable pub spelling_refusal : CodePage → (text : List ℕ) → (room : ℕ) → Option Refusal
spelling_refusal p text room =
    text_checks BadShape TooLong p piece_limit (length text)
    (refuse_at (fault_in p text)
    (refuse_unless SpellingTooLong (leb (length (spelling_text p text)) piece_limit)
    (refuse_unless SpellingTooLong (leb (length (spelling_text p text)) room)
    none)))

-- What the call gives: its answer, and what is written to the lent output.
pub record Spelling : Type 0 where
  pub answer : Result ℕ Refusal
  pub bytes : List ℕ

-- With no refusal the spelling is written and the answer is its length. Refused, nothing is written.
abbrev pub spelling_unless : Option Refusal → (bytes : List ℕ) → Spelling
spelling_unless none bytes = record { answer = Ok (length bytes); bytes = bytes }
spelling_unless (some refusal) bytes = record { answer = Err refusal; bytes = [] }

-- THE STANDARD SPELLING.
unfoldable pub spelling_of : CodePage → (text : List ℕ) → (room : ℕ) → Spelling
spelling_of p text room = spelling_unless (spelling_refusal p text room) (spelling_text p text)

-- The promise of the call: c is what the rules give, r what it returns, and the lent output before and after.
pub record SpelledAs (c : Spelling) (r : Result ℕ Refusal) (before after : List ℕ) : Type 0 where
  pub answer : r ≡ c.answer
  pub lent : after ≡ over before c.bytes
