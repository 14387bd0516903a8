-- Document 01, "The lists of demand 3", of calls through the C interface: what C was handed back for each call of a list.
-- docs/RULES.md, "Lists of calls".
use Rattle.std.specs.Prelude.{List, [], ◌∷◌, ◌≡◌, ℕ, length}
use Rattle.codepage.specs.CodePage.{pick}
use Rattle.convert.specs.declared.Outcome.{Outcome}
use Rattle.convert.specs.Calls.{number_of}
use Rattle.checkpoint.specs.Line.{read_of, written_as, restored_as}
use Rattle.traces.specs.Model.{Setting, Call, feeding, saving, loading, is_accepted, opened, AllAllowed}
use Rattle.runrecord.specs.Records.{outcome_of}
use Rattle.traces.specs.Traces.{Result, fed as answered, fed_here as answered_here, saved as written, loaded as restored, Entry}
use Rattle.capi.specs.declared.TillRun.{TillRun}
use Rattle.capi.specs.declared.TillOutcome.{TillOutcome}
use Rattle.capi.specs.declared.TillHanded.{TillHanded}
use Rattle.capi.specs.declared.TillSaved.{TillSaved}
use Rattle.capi.specs.Interface.{direction_out, is_last, run_out, till_call, TillAnswered, till_start, load_out, till_save, TillSavedAs}

-- What C was handed back, with the lent output after the call. Of a run call in the record form: what it handed back, with the record
-- beside it (CR 13).
pub data TillResult : Type 0 where
  fed : TillOutcome → (lent : List ℕ) → TillResult
  saved : TillSaved → (lent : List ℕ) → TillResult
  loaded : TillHanded → TillResult

-- A call, with the mark `last` of a run call as C hands it over.
pub record TillEntry : Type 0 where
  pub call : Call
  pub mark : ℕ
  pub result : TillResult

-- The contracts of the exported calls, for the run in hand as numbers. That of a run call is the same in both forms.
abbrev pub TillMeets : Setting → (hand : TillRun) → Call → (mark : ℕ) → TillResult → Type 0
TillMeets s hand (feeding form piece last before) mark (fed r after) = (last ≡ is_last mark) × TillAnswered (till_call s.direction hand s.tables piece mark (length before)) r before after
TillMeets s hand (feeding form piece last before) mark (saved r after) = ⊥
TillMeets s hand (feeding form piece last before) mark (loaded r) = ⊥
TillMeets s hand (saving before) mark (fed r after) = ⊥
TillMeets s hand (saving before) mark (saved r after) = TillSavedAs (till_save hand (length before)) r before after
TillMeets s hand (saving before) mark (loaded r) = ⊥
TillMeets s hand (loading line) mark (fed r after) = ⊥
TillMeets s hand (loading line) mark (saved r after) = ⊥
TillMeets s hand (loading line) mark (loaded r) = r ≡ load_out (read_of line)

-- An accepted run call or line reading puts its own run in hand.
unfoldable pub till_hand_after : TillRun → TillResult → TillRun
till_hand_after hand (fed r lent) = pick (is_accepted r.number) r.run hand
till_hand_after hand (saved r lent) = hand
till_hand_after hand (loaded r) = pick (is_accepted r.number) r.run hand

-- each result of a list meets its contract, for the run that the results before it put in hand
unfoldable pub AllTillMeet : Setting → (hand : TillRun) → List TillEntry → Type 0
AllTillMeet s hand [] = Unit {0}
AllTillMeet s hand (e ∷ es) = TillMeets s hand e.call e.mark e.result × AllTillMeet s (till_hand_after hand e.result) es

-- the calls of a list, without what C was handed back
abbrev pub till_calls : List TillEntry → List Call
till_calls [] = []
till_calls (e ∷ es) = e.call ∷ till_calls es

-- A list of calls that the document allows, from what `till_start` handed back, with results that meet the contracts.
pub record TillTrace (s : Setting) (start : TillHanded) (es : List TillEntry) : Type 0 where
  pub started : start ≡ till_start (direction_out s.direction) s.page s.policy.single s.policy.pair s.policy.invalid
  pub allowed : AllAllowed s (opened s) (till_calls es)
  pub met : AllTillMeet s start.run es

-- an outcome in numbers
unfoldable pub outcome_out : Outcome → TillOutcome
outcome_out o = record { run = run_out o.run; read = o.read; written = o.written; number = number_of o.answer }

-- What C was handed back is what a call of the library returned, in numbers, and so is the lent output.
abbrev pub InNumbers : TillResult → Result → Type 0
InNumbers (fed r lent) (answered o after) = (r ≡ outcome_out o) × (lent ≡ after)
InNumbers (fed r lent) (answered_here o held after) = (r ≡ outcome_out (outcome_of o held)) × (lent ≡ after)
InNumbers (fed r lent) (written w after) = ⊥
InNumbers (fed r lent) (restored l) = ⊥
InNumbers (saved r lent) (answered o after) = ⊥
InNumbers (saved r lent) (answered_here o held after) = ⊥
InNumbers (saved r lent) (written w after) = (r.number ≡ (written_as w).number) × (r.size ≡ (written_as w).size) × (lent ≡ after)
InNumbers (saved r lent) (restored l) = ⊥
InNumbers (loaded r) (answered o after) = ⊥
InNumbers (loaded r) (answered_here o held after) = ⊥
InNumbers (loaded r) (written w after) = ⊥
InNumbers (loaded r) (restored l) = r ≡ load_out (restored_as l)

-- two lists of the same calls, the results of the first those of the second in numbers
abbrev pub AllInNumbers : List TillEntry → List Entry → Type 0
AllInNumbers [] [] = Unit {0}
AllInNumbers [] (f ∷ fs) = ⊥
AllInNumbers (e ∷ es) [] = ⊥
AllInNumbers (e ∷ es) (f ∷ fs) = (e.call ≡ f.call) × InNumbers e.result f.result × AllInNumbers es fs
