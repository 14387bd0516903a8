-- Document 01, "The lists of demand 3": what the program returned for each call of a list, and the one claim over all of it.
-- docs/RULES.md, "Lists of calls".
use Rattle.std.specs.Prelude.{true, List, [], ◌∷◌, ◌++◌, ◌≡◌, ℕ, zero, suc, ◌<◌, ◌≤◌, ◌^◌, length, take, drop}
use Rattle.std.proofs.Math.Option.{none, some}
use Rattle.codepage.specs.CodePage.{pick}
use Rattle.engine.specs.declared.Direction.{Direction}
use Rattle.engine.specs.declared.Direction.TheVariants.{Decoding, Encoding}
use Rattle.convert.specs.declared.Run.{Run}
use Rattle.convert.specs.declared.Outcome.{Outcome}
use Rattle.std.specs.Prelude.{Ok}
use Rattle.convert.specs.Runs.{read_limit, start_of, started_as}
use Rattle.convert.specs.Calls.{number_of, run_call, Answered}
use Rattle.codepage.specs.Lent.{over}
use Rattle.checkpoint.specs.declared.Refusal.{Refusal}
use Rattle.std.specs.Prelude as std
use Rattle.checkpoint.specs.Line.{write_of, read_of, written_as, Saved, restored_as}
use Rattle.runrecord.specs.declared.Here.{Here}
use Rattle.runrecord.specs.Records.{outcome_of}
use Rattle.traces.specs.Model.{Setting, by_value, in_record, Call, feeding, saving, loading, Said, says, said_of_loading, is_accepted, in_hand, Model, opened, next, play, AllAllowed, whole_of}

-- What the program returned for a call, with the lent output after it; for a run call in the record form, with what the record holds
-- then.
pub data Result : Type 0 where
  fed : Outcome → (lent : List ℕ) → Result
  fed_here : Here → (held : Run) → (lent : List ℕ) → Result
  saved : std.Result ℕ Refusal → (lent : List ℕ) → Result
  loaded : std.Option Run → Result

-- A call of a list, and what the program returned for it.
pub record Entry : Type 0 where
  pub call : Call
  pub result : Result

-- The contracts of the program's calls, for the run in hand: the definitions that the contracts of decode, encode, call_here,
-- write and read cite, and nothing else. The record of a call in the record form holds the run in hand before it.
abbrev pub Meets : Setting → (hand : Run) → Call → Result → Type 0
Meets s hand (feeding by_value piece last before) (fed r after) = Answered (run_call s.direction hand s.tables piece last (length before)) r before after
Meets s hand (feeding by_value piece last before) (fed_here r held after) = ⊥
Meets s hand (feeding by_value piece last before) (saved r after) = ⊥
Meets s hand (feeding by_value piece last before) (loaded r) = ⊥
Meets s hand (feeding in_record piece last before) (fed r after) = ⊥
Meets s hand (feeding in_record piece last before) (fed_here r held after) = Answered (run_call s.direction hand s.tables piece last (length before)) (outcome_of r held) before after
Meets s hand (feeding in_record piece last before) (saved r after) = ⊥
Meets s hand (feeding in_record piece last before) (loaded r) = ⊥
Meets s hand (saving before) (fed r after) = ⊥
Meets s hand (saving before) (fed_here r held after) = ⊥
Meets s hand (saving before) (saved r after) = Saved (write_of hand (length before)) r before after
Meets s hand (saving before) (loaded r) = ⊥
Meets s hand (loading line) (fed r after) = ⊥
Meets s hand (loading line) (fed_here r held after) = ⊥
Meets s hand (loading line) (saved r after) = ⊥
Meets s hand (loading line) (loaded r) = restored_as r ≡ read_of line

-- what is seen of a run call: number, units read, what was written, and the run
abbrev pub said_of : Outcome → (lent : List ℕ) → Said
said_of r after = record { number = number_of r.answer; read = r.read; output = take r.written after; run = some r.run }

-- What is seen of a result: number, units read, what was written, and the run returned, or held by the record.
unfoldable pub observed : Result → Said
observed (fed r after) = said_of r after
observed (fed_here r held after) = said_of (outcome_of r held) after
observed (saved r after) = record { number = (written_as r).number; read = 0; output = take (written_as r).size after; run = none }
observed (loaded r) = said_of_loading (restored_as r)

-- The run in hand: an accepted run call or line reading puts its own there.
unfoldable pub hand_after : Run → Result → Run
hand_after hand r = pick (is_accepted (observed r).number) (in_hand hand (observed r).run) hand

-- the run in hand after a list
unfoldable pub hand_at_end : Run → List Entry → Run
hand_at_end hand [] = hand
hand_at_end hand (e ∷ es) = hand_at_end (hand_after hand e.result) es

-- a trace: each result meets the contract of its call
unfoldable pub AllMeet : Setting → (hand : Run) → List Entry → Type 0
AllMeet s hand [] = Unit {0}
AllMeet s hand (e ∷ es) = Meets s hand e.call e.result × AllMeet s (hand_after hand e.result) es

-- the calls of a list, without their results
abbrev pub calls_of : List Entry → List Call
calls_of [] = []
calls_of (e ∷ es) = e.call ∷ calls_of es

-- the lent output before a call; line reading has none
abbrev pub lent_before : Call → List ℕ
lent_before (feeding form piece last lent) = lent
lent_before (saving lent) = lent
lent_before (loading line) = []

-- the lent output after a call; line reading has none
abbrev pub lent_after : Result → List ℕ
lent_after (fed r lent) = lent
lent_after (fed_here r held lent) = lent
lent_after (saved r lent) = lent
lent_after (loaded r) = []

-- Each call has answered, read, written and returned what the model says; lent output beyond what was written is as before.
unfoldable pub AllAgree : Setting → Model → List Entry → Type 0
AllAgree s m [] = Unit {0}
AllAgree s m (e ∷ es) =
    (observed e.result ≡ says s m.run e.call) × (lent_after e.result ≡ over (lent_before e.call) (says s m.run e.call).output) × AllAgree s (next s m e.call) es

-- Calls alike in piece, mark, line read and length of room, in whichever form.
abbrev pub Alike : Call → Call → Type 0
Alike (feeding form piece last lent) (feeding form' piece' last' lent') = (piece ≡ piece') × (last ≡ last') × (length lent ≡ length lent')
Alike (feeding form piece last lent) (saving lent') = ⊥
Alike (feeding form piece last lent) (loading line') = ⊥
Alike (saving lent) (feeding form' piece' last' lent') = ⊥
Alike (saving lent) (saving lent') = length lent ≡ length lent'
Alike (saving lent) (loading line') = ⊥
Alike (loading line) (feeding form' piece' last' lent') = ⊥
Alike (loading line) (saving lent') = ⊥
Alike (loading line) (loading line') = line ≡ line'

-- the first n calls of two lists are alike
abbrev pub AlikeFor : ℕ → List Entry → List Entry → Type 0
AlikeFor zero es fs = Unit {0}
AlikeFor (suc n) [] fs = ⊥
AlikeFor (suc n) (e ∷ es) [] = ⊥
AlikeFor (suc n) (e ∷ es) (f ∷ fs) = Alike e.call f.call × AlikeFor n es fs

-- in both lists the first n results are seen alike: number, units read, what was written, and the run
abbrev pub SameFor : ℕ → List Entry → List Entry → Type 0
SameFor zero es fs = Unit {0}
SameFor (suc n) [] fs = Unit {0}
SameFor (suc n) (e ∷ es) [] = Unit {0}
SameFor (suc n) (e ∷ es) (f ∷ fs) = (observed e.result ≡ observed f.result) × SameFor n es fs

-- a line is read, and the calls after it
pub record ReadAt (es : List Entry) (line : List ℕ) (behind : List Entry) : Type 0 where
  pub place : ℕ
  pub reading : Entry
  pub there : drop place es ≡ reading ∷ behind
  pub reads : reading.call ≡ loading line

-- What holds at the end of a list, of the model and the run in hand.
pub record AtEnd (s : Setting) (m : Model) (hand : Run) : Type 0 where
  -- the joined output is a beginning (none, some or all) of the whole reading's
  pub begins : (ys : List ℕ) × ((whole_of s).output ≡ m.joined ++ ys)
  -- the run in hand has the position as read total, the joined output's length as written total, and is ended exactly if the
  -- model says so
  pub read : hand.read ≡ m.position
  pub written : hand.written ≡ length m.joined
  pub ended : hand.ended ≡ m.ended
  -- if ended, joined output and the flags and totals of the run in hand equal those of the whole reading
  pub all_of_it : m.ended ≡ true
      → (m.joined ≡ (whole_of s).output) × (hand.flags ≡ (whole_of s).flags) × (hand.read ≡ (whole_of s).used) × (hand.written ≡ length (whole_of s).output)

-- THE CLAIM, of a list of calls as a whole, which begins with the run `start` in hand.
pub record Demand3 (s : Setting) (start : Run) (es : List Entry) : Type 0 where
  -- each call has answered, read, written and returned what the model says
  pub agrees : AllAgree s (opened s) es
  pub at_end : AtEnd s (play s (opened s) (calls_of es)) (hand_at_end start es)
  -- where a line is read twice and the calls after each reading are alike, their answers, written output and runs are equal
  pub second_reading : (line : List ℕ) (n : ℕ) (first second : List Entry) → ReadAt es line first → ReadAt es line second → (read_of line).number ≡ 0
      → AlikeFor n first second → SameFor n first second

-- The units of a text are those of its direction: bytes in decoding, units of 16 bits in encoding.
abbrev pub AllBelow : ℕ → List ℕ → Type 0
AllBelow n [] = Unit {0}
AllBelow n (a ∷ text) = (a < n) × AllBelow n text

-- the bits of a unit of input: 8 in decoding, 16 in encoding
abbrev pub width_of : Direction → ℕ
width_of Decoding = 8
width_of Encoding = 16

-- A setting that a list can have: an accepted start with a page of 16 bits, and one text of that direction within the run
-- limit. Nothing is asked of the table set.
pub record Proper (s : Setting) : Type 0 where
  pub start : (start_of s.direction s.page s.policy).number ≡ 0
  pub page : s.page < 2 ^ 16
  pub units : AllBelow (2 ^ width_of s.direction) s.text
  pub within : length s.text ≤ read_limit

-- A list of calls that the document allows, from the run that `Run::start` returned, with results that meet the contracts.
pub record Trace (s : Setting) (start : Run) (es : List Entry) : Type 0 where
  -- the contract of `Run::start`, which answered with this run
  pub started : started_as (Ok start) ≡ start_of s.direction s.page s.policy
  pub allowed : AllAllowed s (opened s) (calls_of es)
  pub met : AllMeet s start es
