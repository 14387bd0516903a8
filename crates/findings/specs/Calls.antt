-- Document 02, CR 7: the call that lists the findings of a byte text.
use Rattle.std.specs.Prelude.{List, [], ◌∷◌, ◌≡◌, ℕ, length, Option, Some, None, Result, Ok, Err}
use Rattle.std.proofs.Math.Option.{Option as MathOption, none, some}
use Rattle.codepage.specs.CodePage.{CodePage}
use Rattle.engine.specs.declared.Direction.TheVariants.{Decoding}
use Rattle.engine.specs.declared.Policy.{Policy}
use Rattle.engine.specs.Policies.{policy_allowed}
use Rattle.convert.specs.Runs.{piece_limit}
use Rattle.codepage_walk.specs.Checks.{refuse_unless, text_checks, bytes_reader}
use Rattle.findings.specs.declared.Finding.{Finding}
use Rattle.findings.specs.declared.Refusal.{Refusal}
use Rattle.findings.specs.declared.Refusal.TheVariants.{BadPolicy, BadShape, TooLong}
use Rattle.findings.specs.Findings.{findings_of, findings_from, filled_front}

-- The numbers of the refusals.
abbrev pub findings_number : Refusal → ℕ
findings_number BadPolicy = 17
findings_number BadShape = 10
findings_number TooLong = 11

-- "Checks: 17, 10, 11." The digits are those of decoding.
unfoldable pub findings_refusal : Policy → CodePage → (text : List ℕ) → MathOption Refusal
findings_refusal policy p text = refuse_unless BadPolicy (policy_allowed Decoding policy) (text_checks BadShape TooLong p piece_limit (length text) none)

-- the findings of a text on a page
abbrev pub findings_text : Policy → CodePage → (text : List ℕ) → List Finding
findings_text policy p text = findings_of (bytes_reader p) policy text

-- What the call gives: its answer, and the findings that the lent list is filled with.
pub record FindingsCall : Type 0 where
  pub answer : Result ℕ Refusal
  pub entries : List Finding

-- "It reports the true number of findings." Refused, there are none.
abbrev pub call_unless : MathOption Refusal → List Finding → FindingsCall
call_unless none fs = record { answer = Ok (length fs); entries = fs }
call_unless (some why) fs = record { answer = Err why; entries = [] }

-- THE CALL.
unfoldable pub findings_call : Policy → CodePage → (text : List ℕ) → FindingsCall
findings_call policy p text = call_unless (findings_refusal policy p text) (findings_text policy p text)

-- The promise of the call: c is what the rules give, r what it returns, and the lent list before and after.
pub record FindingsListed (c : FindingsCall) (r : Result ℕ Refusal) (before after : List Finding) : Type 0 where
  pub answer : r ≡ c.answer
  pub lent : after ≡ filled_front before c.entries

-- the first of some findings
abbrev pub first_finding : List Finding → Option Finding
first_finding [] = None
first_finding (f ∷ fs) = Some f

abbrev pub next_unless : MathOption Refusal → List Finding → Result (Option Finding) Refusal
next_unless none fs = Ok (first_finding fs)
next_unless (some why) fs = Err why

-- THE NEXT FINDING from a place on, at which a code begins, with the same checks.
unfoldable pub next_of : Policy → CodePage → (text : List ℕ) → (from : ℕ) → Result (Option Finding) Refusal
next_of policy p text from = next_unless (findings_refusal policy p text) (findings_from (bytes_reader p) policy text from)
