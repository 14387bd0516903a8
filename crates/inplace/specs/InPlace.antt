-- Document 02, CR 9: units encoded inside the one lent buffer that holds them. docs/RULES.md, "One buffer".
use Rattle.std.specs.Prelude.{List, ◌≡◌, ℕ, ◌%◌, leb, eqb, length, Result, Ok, Err}
use Rattle.std.proofs.Math.Option.{Option, none, some}
use Rattle.codepage.specs.CodePage.{CodePage, pick, first_fault, is_good}
use Rattle.codepage.specs.Lent.{over}
use Rattle.codepage_walk.specs.Checks.{refuse_unless}
use Rattle.utf16.specs.Utf16.{utf16_units}
use Rattle.engine.specs.declared.Direction.TheVariants.{Encoding}
use Rattle.engine.specs.declared.Policy.{Policy}
use Rattle.engine.specs.Policies.{policy_allowed}
use Rattle.engine.specs.Engine.{Fed, whole, reader_of, default_of}
use Rattle.convert.specs.Runs.{piece_limit}
use Rattle.inplace.specs.declared.Refusal.{Refusal}
use Rattle.inplace.specs.declared.Refusal.TheVariants.{BadPolicy, BadShape, OddBytes, TooLong}
use Rattle.inplace.specs.declared.Encoded.{Encoded}
use Rattle.inplace.specs.declared.Ending.{Ending}
use Rattle.inplace.specs.declared.Ending.TheVariants.{All, Stopped}

-- The numbers of the refusals.
abbrev pub buffer_number : Refusal → ℕ
buffer_number BadPolicy = 17
buffer_number BadShape = 10
buffer_number OddBytes = 26
buffer_number TooLong = 11

-- The number of each answer.
abbrev pub ending_number : Ending → ℕ
ending_number All = 0
ending_number Stopped = 3

abbrev pub encoded_number : Result Encoded Refusal → ℕ
encoded_number (Ok encoded) = ending_number encoded.ending
encoded_number (Err why) = buffer_number why

-- "Checks: 17, 10, then 26 odd number of bytes, then 11 by units"; the buffer holds "units as two bytes each, low byte first"
unfoldable pub buffer_refusal : Policy → CodePage → (buffer : List ℕ) → Option Refusal
buffer_refusal policy p buffer =
    refuse_unless BadPolicy (policy_allowed Encoding policy)
    (refuse_unless BadShape (is_good (first_fault p))
    (refuse_unless OddBytes (eqb (length buffer % 2) 0)
    (refuse_unless TooLong (leb (length (utf16_units buffer)) piece_limit)
    none)))

-- "encoding from a separate buffer of ample room": the whole reading of the units that the buffer holds
abbrev pub held_reading : Policy → CodePage → (buffer : List ℕ) → Fed
held_reading policy p buffer = whole (reader_of Encoding p) policy (default_of Encoding p) (utf16_units buffer)

-- "The result, counts and flags equal" those of the reading: 3 if it stopped, else 0; its flags, what it read and what it wrote
unfoldable pub encoded_by : Fed → Encoded
encoded_by f = record { ending = pick (eqb f.answer 3) Stopped All; flags = f.flags; read = f.used; written = length f.output }

-- What the call gives: its answer, and the buffer after it.
pub record InPlace : Type 0 where
  pub answer : Result Encoded Refusal
  pub buffer : List ℕ

-- "result at the front", "bytes beyond the result are unchanged"; of a refused call "the buffer is untouched"
abbrev pub in_place_unless : Option Refusal → (buffer : List ℕ) → Fed → InPlace
in_place_unless none buffer f = record { answer = Ok (encoded_by f); buffer = over buffer f.output }
in_place_unless (some refusal) buffer f = record { answer = Err refusal; buffer = buffer }

-- THE CALL.
unfoldable pub in_place_of : Policy → CodePage → (buffer : List ℕ) → InPlace
in_place_of policy p buffer = in_place_unless (buffer_refusal policy p buffer) buffer (held_reading policy p buffer)

-- The promise of the call: c is what the rules give, r what it returns, and the buffer after it.
pub record EncodedAs (c : InPlace) (r : Result Encoded Refusal) (after : List ℕ) : Type 0 where
  pub answer : r ≡ c.answer
  pub lent : after ≡ c.buffer
