-- Of every list of allowed calls: it has a trace; some refusals are never met; which writing of a line is meant makes no
-- difference.
use mathlib.Core.Bool.{Bool, true, false, not, ◌&&◌, false≢true}
use mathlib.Core.List.{List, [], ◌∷◌, ◌++◌}
use mathlib.Core.Option.{Option, none, some}
use mathlib.Core.Path.{◌≡◌, refl, sym, ap, ◌∙◌, subst}
use Prim.Native.Nat.{ℕ, zero, suc, ◌+◌, ◌-◌, ◌≤◌}
use native.Mathlib.Omega.{arith}
use lib.Dec.{ltb, eqb}
use lib.ListN.{length, drop, length-append, length-drop}
use borrow.Author.Tests.{eqb-true, eqb-false, eq-eqb}
use Rattle.codepage.specs.CodePage.{CodePage, GoodShape, first_fault, is_good}
use Rattle.codepage.specs.Lent.{over}
use Rattle.codepage.proofs.ShapeLaws.{shape_exact}
use Rattle.engine.specs.declared.Direction.{Direction}
use Rattle.engine.specs.declared.Direction.TheVariants.{Decoding, Encoding}
use Rattle.engine.specs.declared.Policy.{Policy}
use Rattle.engine.specs.Policies.{policy_allowed}
use Rattle.engine.specs.Engine.{converter_of}
use Rattle.engine.proofs.EngineLaws.{Waits}
use Rattle.engine.proofs.DecodeLaws.{decoder_lead}
use Rattle.convert.specs.declared.Pending.{Pending}
use Rattle.convert.specs.declared.Pending.TheVariants.{Nothing, Byte, High}
use Rattle.convert.specs.declared.Run.{Run}
use Rattle.convert.specs.declared.Answer.{Answer}
use Rattle.convert.specs.declared.Answer.TheVariants.{AllRead, UnitPending, OutputFull, Stopped, Refused}
use Rattle.convert.specs.declared.Refusal.TheVariants.{BadShape, PieceTooLong, InvalidRun, OtherRun, PendingNotLead, RunEnded, ReadLimit}
use Rattle.std.specs.Prelude.{Ok}
use Rattle.convert.specs.Runs.{valid_run, fresh, start_of, started_as}
use Rattle.convert.specs.Calls.{number_of, lead_in, refusal, Called, pending_unit, run_call}
use Rattle.convert.proofs.CallLaws.{PendingIn, valid_in, valid_facts, refusal_named}
use Rattle.convert.proofs.RuleLaws.{rules_exact}
use Rattle.convert.proofs.NumberLaws.{numbers_exact, low_number, refused_number}
use Rattle.checkpoint.specs.declared.Refusal.{Refusal as Unwritten}
use Rattle.checkpoint.specs.declared.Refusal.TheVariants as unwritten
use Rattle.std.specs.Prelude as std
use Rattle.checkpoint.specs.Line.{line_of, run_of, write_of, read_of, loaded, Saved, restored_as}
use Rattle.traces.specs.Model.{Setting, Form, by_value, in_record, Call, feeding, saving, loading, Note, Model, opened, says, next, play, Allowed, AllAllowed}
use Rattle.traces.specs.Traces.{Result, fed, fed_here, saved, loaded as restoring, Entry, Meets, hand_after, AllMeet, calls_of, Proper, Trace}
use Rattle.traces.proofs.StepLaws.{Reads}
use Rattle.traces.proofs.ModelLaws.{Doing, Kept, NoteFair, AllFair, kept_start, kept_next, notes_alike}

-- over a list of calls
pub kept_play : (s : Setting) → Proper s → (cs : List Call) (m : Model) → Kept s m → AllAllowed s m cs → Kept s (play s m cs)
unfolding AllAllowed play
kept_play s h [] m g ok = g
kept_play s h (c ∷ cs) m g ok = kept_play s h cs (next s m c) (kept_next s h m g c ok.0) ok.1

-- after an allowed list from the start, the run in hand fits position, joined output and end, and so does the run of each note
pub kept_list : (s : Setting) → Proper s → (cs : List Call) → AllAllowed s (opened s) cs → Kept s (play s (opened s) cs)
kept_list s h cs ok = kept_play s h cs (opened s) (kept_start s h) ok

-- ---- traces exist
-- the number of an answer
abbrev Numbered : ℕ → Type 0
Numbered n = (a : Answer) × (number_of a ≡ n)

low_numbered : (n : ℕ) → n ≤ 3 → Numbered n
low_numbered zero h = (AllRead, refl)
low_numbered (suc zero) h = (UnitPending, refl)
low_numbered (suc (suc zero)) h = (OutputFull, refl)
low_numbered (suc (suc (suc zero))) h = (Stopped, refl)
low_numbered (suc (suc (suc (suc n)))) h = absurd (omega arith)

-- the answers from 10 on
high_numbered : (k : ℕ) → k ≤ 6 → Numbered (10 + k)
high_numbered zero h = (Refused BadShape, refl)
high_numbered (suc zero) h = (Refused PieceTooLong, refl)
high_numbered (suc (suc zero)) h = (Refused InvalidRun, refl)
high_numbered (suc (suc (suc zero))) h = (Refused OtherRun, refl)
high_numbered (suc (suc (suc (suc zero)))) h = (Refused PendingNotLead, refl)
high_numbered (suc (suc (suc (suc (suc zero))))) h = (Refused RunEnded, refl)
high_numbered (suc (suc (suc (suc (suc (suc zero)))))) h = (Refused ReadLimit, refl)
high_numbered (suc (suc (suc (suc (suc (suc (suc k))))))) h = absurd (omega arith)

-- every number of a run call is an answer's
call_numbered : (direction : Direction) (run : Run) (p : CodePage) (piece : List ℕ) (last : Bool) (room : ℕ) → Numbered (run_call direction run p piece last room).number
call_numbered direction run p piece last room = by_test (eqb (refusal direction run p (length piece)) 0) refl
  where
    by_test : (t : Bool) → eqb (refusal direction run p (length piece)) 0 ≡ t → Numbered (run_call direction run p piece last room).number
    by_test true e = low_numbered _ (low_number direction run p piece last room (eqb-true _ _ e))
    by_test false e =
        let named = refusal_named direction run p (length piece) (eqb-false _ _ e) in
        let (k, q) : (k : ℕ) × (refusal direction run p (length piece) ≡ 10 + k) = above (refusal direction run p (length piece)) named.low in
        subst Numbered (sym (refused_number direction run p piece last room (eqb-false _ _ e) ∙ q)) (high_numbered k (omega (arith, named.high)))
      where
        above : (n : ℕ) → 10 ≤ n → (k : ℕ) × (n ≡ 10 + k)
        above n h = (n - 10, omega arith)

-- a line that is written, and one that is read
written_exists : (run : Run) (room : ℕ) (before : List ℕ) → (r : std.Result ℕ Unwritten) × (after : List ℕ) × Saved (write_of run room) r before after
unfolding write_of over
written_exists run room before = by_tests (valid_run run) (ltb room (length (line_of run))) refl refl
  where
    by_tests : (v f : Bool) → valid_run run ≡ v → ltb room (length (line_of run)) ≡ f → (r : std.Result ℕ Unwritten) × (after : List ℕ) × Saved (write_of run room) r before after
    by_tests false f e q = (std.Err unwritten.InvalidRun, before, rw e (record { number = refl; size = refl; lent = refl }))
    by_tests true true e q = (std.Err unwritten.NoRoom, before, rw (e, q) (record { number = refl; size = refl; lent = refl }))
    by_tests true false e q = (std.Ok (length (line_of run)), over before (line_of run), rw (e, q) (record { number = refl; size = refl; lent = refl }))

restored_exists : (line : List ℕ) → (r : std.Option Run) × (restored_as r ≡ read_of line)
unfolding read_of loaded
restored_exists line = by_run (run_of line)
  where
    by_run : (o : Option Run) → (r : std.Option Run) × (restored_as r ≡ loaded o)
    by_run none = (std.None, refl)
    by_run (some run) = (std.Some run, refl)

-- For every setting, run in hand and call there is a result that meets the contract: the one that the definitions give.
pub result_exists : (s : Setting) (hand : Run) (c : Call) → (r : Result) × Meets s hand c r
result_exists s hand (feeding by_value piece last before) =
    let c : Called = run_call s.direction hand s.tables piece last (length before) in
    let (answer, e) = call_numbered s.direction hand s.tables piece last (length before) in (
      fed (record { answer = answer; read = c.read; written = length c.output; run = c.run }) (over before c.output),
      record { number = e; read = refl; written = refl; run = refl; lent = refl },
    )
result_exists s hand (feeding in_record piece last before) =
    let c : Called = run_call s.direction hand s.tables piece last (length before) in
    let (answer, e) = call_numbered s.direction hand s.tables piece last (length before) in (
      fed_here (record { answer = answer; read = c.read; written = length c.output }) c.run (over before c.output),
      record { number = e; read = refl; written = refl; run = refl; lent = refl },
    )
result_exists s hand (saving before) =
    let (r, after, w) = written_exists hand (length before) before in
    (saved r after, w)
result_exists s hand (loading line) =
    let (r, e) = restored_exists line in
    (restoring r, e)

-- Results for a list of calls.
pub record Played (s : Setting) (hand : Run) (cs : List Call) : Type 0 where
  pub entries : List Entry
  pub calls : calls_of entries ≡ cs
  pub met : AllMeet s hand entries

-- every list of calls has results that meet the contracts, whatever run is in hand
pub results_exist : (s : Setting) (hand : Run) (cs : List Call) → Played s hand cs
unfolding AllMeet
results_exist s hand [] = record { entries = []; calls = refl; met = tt }
results_exist s hand (c ∷ cs) =
    let (r, m) = result_exists s hand c in
    let rest = results_exist s (hand_after hand r) cs in
    record { entries = record { call = c; result = r } ∷ rest.entries; calls = ap (λ (l : List Call). c ∷ l) rest.calls; met = (m, rest.met) }

-- the run of an accepted start
pub fresh_started : (s : Setting) → Proper s → started_as (Ok (fresh s.direction s.page s.policy)) ≡ start_of s.direction s.page s.policy
unfolding start_of
fresh_started s h = by_test (not (eqb s.page 0) && policy_allowed s.direction s.policy) refl h.start
  where
    by_test : (t : Bool) → (not (eqb s.page 0) && policy_allowed s.direction s.policy) ≡ t → (start_of s.direction s.page s.policy).number ≡ 0
        → started_as (Ok (fresh s.direction s.page s.policy)) ≡ start_of s.direction s.page s.policy
    by_test true q e = rw q
    by_test false q e = absurd (let z : ◌≡◌ {A = ℕ} 17 0 = sym (rw q) ∙ e in omega arith)

-- A trace of a list of calls.
pub record TraceOf (s : Setting) (cs : List Call) : Type 0 where
  pub start : Run
  pub entries : List Entry
  pub calls : calls_of entries ≡ cs
  pub trace : Trace s start entries

-- EVERY LIST OF ALLOWED CALLS HAS A TRACE.
pub traces_exist : (s : Setting) → Proper s → (cs : List Call) → AllAllowed s (opened s) cs → TraceOf s cs
traces_exist s h cs ok =
    let start = fresh s.direction s.page s.policy in
    let p = results_exist s start cs in
    record {
      start = start;
      entries = p.entries;
      calls = p.calls;
      trace = record { started = fresh_started s h; allowed = subst (λ (l : List Call). AllAllowed s (opened s) l) (sym p.calls) ok; met = p.met };
    }

-- ---- what a list never meets
-- what is pending in a decoding run that has read some of the text is a lead; of an encoding run check 14 asks nothing
pub lead_of : (p : CodePage) (policy : Policy) (pending : Pending) → Waits (converter_of Decoding p policy) (pending_unit pending) → lead_in p.classes pending ≡ true
lead_of p policy Nothing w = refl
lead_of p policy (Byte byte) w = decoder_lead p.classes p.singles p.pairs policy p.default_unit byte w
lead_of p policy (High unit) w = refl

no_lead : (classes : List ℕ) (pending : Pending) → PendingIn Encoding pending → lead_in classes pending ≡ true
no_lead classes Nothing i = refl
no_lead classes (Byte byte) i = absurd i
no_lead classes (High unit) i = refl

module _ (s : Setting) (h : Proper s) (m : Model) (g : Kept s m) (good : GoodShape s.tables) (own : s.page ≡ s.tables.page) where
  pub reads_so_far : Reads (converter_of s.direction s.tables s.policy) s.text m.run m.joined
  reads_so_far = subst (λ (t : Bool). Doing t s m.run m.joined) stepping g.fair.doing
    where
      stepping : (is_good (first_fault s.tables) && eqb s.page s.tables.page) ≡ true
      stepping = rw ((shape_exact s.tables).1 good, eq-eqb s.page s.tables.page own)

  -- what is pending is a lead of these tables, or a unit: check 14 passes
  pub lead_pending : (d : Direction) → s.direction ≡ d → lead_in s.tables.classes m.run.pending ≡ true
  lead_pending Decoding e = lead_of s.tables s.policy m.run.pending (subst (λ (d : Direction). Waits (converter_of d s.tables s.policy) (pending_unit m.run.pending)) e reads_so_far.waits)
  lead_pending Encoding e = no_lead s.tables.classes m.run.pending (valid_in m.run Encoding (sym e ∙ g.fair.direction) (valid_facts m.run g.fair.valid))

  -- what the run has read, the piece and the rest behind it have the text's length together, which check 16 needs
  pub left_text : (piece rest : List ℕ) → drop m.position s.text ≡ piece ++ rest → m.run.read + (length piece + length rest) ≡ length s.text
  left_text piece rest begins = omega (arith, reads_so_far.inside, g.fair.read, length-drop m.position s.text, ap length begins, length-append piece rest)

-- Numbers that a call of a list never answers.
pub record NeverMet (s : Setting) (hand : Run) (c : Call) : Type 0 where
  pub not_12 : (says s hand c).number ≡ 12 → ⊥
  pub not_14 : (says s hand c).number ≡ 14 → ⊥
  pub not_16 : (says s hand c).number ≡ 16 → ⊥

never_is : (s : Setting) (hand : Run) (c : Call) (n : ℕ) → (says s hand c).number ≡ n → (n ≡ 12 → ⊥) → (n ≡ 14 → ⊥) → (n ≡ 16 → ⊥) → NeverMet s hand c
never_is s hand c n e a b d = record { not_12 = λ q. a (sym e ∙ q); not_14 = λ q. b (sym e ∙ q); not_16 = λ q. d (sym e ∙ q) }

module _ (s : Setting) (h : Proper s) (m : Model) (g : Kept s m) where
  never_feeding : (form : Form) (piece : List ℕ) (last : Bool) (lent : List ℕ) → Allowed s m (feeding form piece last lent) → NeverMet s m.run (feeding form piece last lent)
  unfolding says Allowed
  never_feeding form piece last lent (rest, begins, to_end) =
      let x = (numbers_exact s.direction m.run s.tables piece last (length lent)).refused in
      record {
        not_12 = λ e. (x.invalid_run.0 e).1 ((rules_exact m.run).0 g.fair.valid);
        not_14 = λ e. let ((((good, short), rules), (same, page)), lead) = x.not_lead.0 e in
            false≢true (sym lead ∙ lead_pending s h m g good (sym g.fair.page ∙ page) s.direction refl);
        not_16 = λ e. let ((((((good, short), rules), (same, page)), lead), going), over) = x.read_limit.0 e in
            omega (arith, left_text s h m g good (sym g.fair.page ∙ page) piece rest begins, h.within);
      }

  never_saving : (lent : List ℕ) → NeverMet s m.run (saving lent)
  unfolding says write_of
  never_saving lent = by_room (ltb (length lent) (length (line_of m.run))) refl
    where
      by_room : (t : Bool) → ltb (length lent) (length (line_of m.run)) ≡ t → NeverMet s m.run (saving lent)
      by_room true q = never_is s m.run (saving lent) 19 (rw (g.fair.valid, q)) (λ z. omega arith) (λ z. omega arith) (λ z. omega arith)
      by_room false q = never_is s m.run (saving lent) 0 (rw (g.fair.valid, q)) (λ z. omega arith) (λ z. omega arith) (λ z. omega arith)

  never_loading : (line : List ℕ) → NeverMet s m.run (loading line)
  unfolding says read_of loaded
  never_loading line = by_run (run_of line) refl
    where
      by_run : (o : Option Run) → run_of line ≡ o → NeverMet s m.run (loading line)
      by_run none q = never_is s m.run (loading line) 18 (rw q) (λ z. omega arith) (λ z. omega arith) (λ z. omega arith)
      by_run (some run) q = never_is s m.run (loading line) 0 (rw q) (λ z. omega arith) (λ z. omega arith) (λ z. omega arith)

  never_call : (c : Call) → Allowed s m c → NeverMet s m.run c
  never_call (feeding form piece last lent) ok = never_feeding form piece last lent ok
  never_call (saving lent) ok = never_saving lent
  never_call (loading line) ok = never_loading line

-- 12, 14 AND 16 NEVER OCCUR in a list: of any call that is allowed behind any list of allowed calls.
pub never_met : (s : Setting) → Proper s → (cs : List Call) → AllAllowed s (opened s) cs → (c : Call) → Allowed s (play s (opened s) cs) c → NeverMet s (play s (opened s) cs).run c
never_met s h cs ok c here = never_call s h (play s (opened s) cs) (kept_list s h cs ok) c here

-- ---- notes
-- a note stands among some notes
pub record Among (n : Note) (notes : List Note) : Type 0 where
  pub place : ℕ
  pub behind : List Note
  pub there : drop place notes ≡ n ∷ behind

fair_from : (s : Setting) (k : ℕ) (notes : List Note) → AllFair s notes → AllFair s (drop k notes)
fair_from s zero notes h = h
fair_from s (suc k) [] h = tt
fair_from s (suc k) (n ∷ notes) h = fair_from s k notes h.1

fair_among : (s : Setting) (n : Note) (notes : List Note) → AllFair s notes → Among n notes → NoteFair s n
fair_among s n notes h a = (subst (AllFair s) a.there (fair_from s a.place notes h)).0

-- ONE LINE, ONE NOTE: of any two notes of a list played from the start, those beside one line agree.
pub notes_agree : (s : Setting) → Proper s → (cs : List Call) → AllAllowed s (opened s) cs → (n k : Note) → Among n (play s (opened s) cs).notes → Among k (play s (opened s) cs).notes → n.line ≡ k.line
    → (n.position ≡ k.position) × (n.joined ≡ k.joined) × (n.ended ≡ k.ended)
notes_agree s h cs ok n k a b e =
    let all = (kept_list s h cs ok).notes in
    notes_alike s h n k (fair_among s n _ all a) (fair_among s k _ all b) e
