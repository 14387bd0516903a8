-- Document 02, CR 12: the two calls. One checks breaks that are proposed, one proposes ours.
use Rattle.std.specs.Prelude.{Result, Ok, Err, List, [], ◌≡◌, ℕ, leb, length}
use Rattle.std.proofs.Math.Option.{Option, none, some}
use Rattle.codepage.specs.CodePage.{CodePage}
use Rattle.codepage.specs.Lent.{over}
use Rattle.convert.specs.Runs.{piece_limit}
use Rattle.codepage_walk.specs.Checks.{refuse_unless, text_checks, bytes_reader}
use Rattle.linebreak.specs.declared.Refusal.{Refusal}
use Rattle.linebreak.specs.declared.Refusal.TheVariants.{BadShape, TooLong, NotAcceptable, NoneExists, ListTooShort}
use Rattle.linebreak.specs.Breaks.{acceptable, ours, breakable}

-- The numbers of the refusals.
abbrev pub break_number : Refusal → ℕ
break_number BadShape = 10
break_number TooLong = 11
break_number NotAcceptable = 30
break_number NoneExists = 31
break_number ListTooShort = 32

-- ---- checking, 10 and 11 first: 30 exactly if the breaks are not acceptable
unfoldable pub check_refusal : CodePage → (text : List ℕ) → (width : ℕ) → (breaks : List ℕ) → Option Refusal
check_refusal p text width breaks = text_checks BadShape TooLong p piece_limit (length text) (refuse_unless NotAcceptable (acceptable (bytes_reader p) text width breaks) none)

-- the answer of a check: the refusal, or acceptable if there is none
abbrev pub check_answer : Option Refusal → Result (Unit {0}) Refusal
check_answer none = Ok tt
check_answer (some refusal) = Err refusal

-- THE CHECK.
unfoldable pub check_of : CodePage → (text : List ℕ) → (width : ℕ) → (breaks : List ℕ) → Result (Unit {0}) Refusal
check_of p text width breaks = check_answer (check_refusal p text width breaks)

-- ---- proposing, 10 and 11 first: 31 exactly if no acceptable breaks exist, 32 exactly if ours do not fit the lent list
unfoldable pub propose_refusal : CodePage → (text : List ℕ) → (width : ℕ) → (room : ℕ) → Option Refusal
propose_refusal p text width room =
    text_checks BadShape TooLong p piece_limit (length text)
    (refuse_unless NoneExists (breakable (bytes_reader p) text width)
    (refuse_unless ListTooShort (leb (length (ours (bytes_reader p) text width)) room)
    none))

-- What proposing gives: its answer, and what is written to the lent list.
pub record Proposal : Type 0 where
  pub answer : Result ℕ Refusal
  pub breaks : List ℕ

-- With no refusal the breaks are written and the answer is their count. Refused, nothing is written.
abbrev pub proposal_unless : Option Refusal → (breaks : List ℕ) → Proposal
proposal_unless none breaks = record { answer = Ok (length breaks); breaks = breaks }
proposal_unless (some refusal) breaks = record { answer = Err refusal; breaks = [] }

-- THE PROPOSAL.
unfoldable pub proposal_of : CodePage → (text : List ℕ) → (width : ℕ) → (room : ℕ) → Proposal
proposal_of p text width room = proposal_unless (propose_refusal p text width room) (ours (bytes_reader p) text width)

-- The promise of proposing: c is what the rules give, r what it returns, and the lent list before and after.
pub record ProposedAs (c : Proposal) (r : Result ℕ Refusal) (before after : List ℕ) : Type 0 where
  pub answer : r ≡ c.answer
  pub lent : after ≡ over before c.breaks
