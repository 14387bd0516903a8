-- DEMAND 3 for the C calls: every list of them is, in numbers, a trace of demand 3.
use mathlib.Core.Bool.{Bool, true, false}
use mathlib.Core.List.{List, [], ◌∷◌}
use mathlib.Core.Path.{◌≡◌, refl, sym, ap, ◌∙◌, subst}
use Prim.Native.Nat.{ℕ}
use native.Mathlib.Omega.{arith}
use lib.ListN.{length}
use Rattle.codepage.specs.CodePage.{pick}
use Rattle.engine.specs.declared.Direction.{Direction}
use Rattle.engine.specs.declared.Direction.TheVariants.{Decoding, Encoding}
use Rattle.convert.specs.declared.Run.{Run}
use Rattle.convert.specs.declared.Outcome.{Outcome}
use Rattle.convert.specs.Runs.{fresh, Start, start_of, started_as}
use Rattle.std.specs.Prelude.{Result as RustResult, Ok, Some, None}
use Rattle.convert.specs.Calls.{number_of, run_call, Answered}
use Rattle.checkpoint.specs.declared.Refusal.{Refusal}
use Rattle.checkpoint.specs.Line.{Representable, write_of, written_as, Saved}
use Rattle.checkpoint.proofs.LineLaws.{representable}
use Rattle.runrecord.specs.Records.{outcome_of}
use Rattle.traces.specs.Model.{Setting, by_value, in_record, Call, feeding, saving, loading, is_accepted, Model, opened, next, AllAllowed}
use Rattle.traces.specs.Traces.{Result, fed as answered, fed_here as answered_here, saved as written, loaded as restored, Entry, Meets, observed, hand_after, AllMeet, calls_of, Demand3, Proper, Trace}
use Rattle.traces.proofs.ModelLaws.{Kept, kept_start, kept_next}
use Rattle.traces.proofs.ListLaws.{result_exists, fresh_started}
use Rattle.traces.proofs.EveryTrace.{hand_next, every_trace}
use Rattle.capi.specs.declared.TillRun.{TillRun}
use Rattle.capi.specs.declared.TillOutcome.{TillOutcome}
use Rattle.capi.specs.declared.TillHanded.{TillHanded}
use Rattle.capi.specs.declared.TillSaved.{TillSaved}
use Rattle.capi.specs.Interface.{direction_in, direction_out, is_run, run_in, run_out, called_out, is_last, till_call, TillAnswered, handed, start_out, till_start, load_out, till_save, TillSavedAs}
use Rattle.capi.specs.Lists.{outcome_out, TillResult, fed, saved, loaded, TillEntry, TillMeets, till_hand_after, AllTillMeet, till_calls, TillTrace, InNumbers, AllInNumbers}
use Rattle.capi.proofs.InterfaceLaws.{HighPending, valid_high, run_returns, call_named}

-- ---- one call
module _ (s : Setting) (run : Run) (fits : Representable run) (high : HighPending run.pending) where
  named : is_run (run_out run) ≡ true
  named = (run_returns run fits high).1

  returns : run_in (run_out run) ≡ run
  returns = (run_returns run fits high).0

  -- what C sees of an answered call
  same_outcome : (piece : List ℕ) (last : Bool) (mark : ℕ) (before : List ℕ) (r : TillOutcome) (lent : List ℕ) (o : Outcome) (after : List ℕ) → last ≡ is_last mark
      → TillAnswered (till_call s.direction (run_out run) s.tables piece mark (length before)) r before lent
      → Answered (run_call s.direction run s.tables piece last (length before)) o before after → (r ≡ outcome_out o) × (lent ≡ after)
  unfolding outcome_out
  same_outcome piece last mark before r lent o after m t a =
      let call = call_named s.direction (run_out run) s.tables piece mark before named in
      let given : till_call s.direction (run_out run) s.tables piece mark (length before) ≡ called_out (run_call s.direction run s.tables piece last (length before)) = call ∙ rw (returns, m) in
      let w : TillAnswered (called_out (run_call s.direction run s.tables piece last (length before))) r before lent = rw given at t in (
        λ i. record {
          run = (w.run ∙ ap run_out (sym a.run)) i;
          read = (w.read ∙ sym a.read) i;
          written = (w.written ∙ sym a.written) i;
          number = (w.number ∙ sym a.number) i;
        },
        w.lent ∙ sym a.lent,
      )

  same_line : (before : List ℕ) (r : TillSaved) (lent : List ℕ) (w : RustResult ℕ Refusal) (after : List ℕ) → TillSavedAs (till_save (run_out run) (length before)) r before lent
      → Saved (write_of run (length before)) w before after → (r.number ≡ (written_as w).number) × (r.size ≡ (written_as w).size) × (lent ≡ after)
  unfolding till_save
  same_line before r lent w after t a =
      let x : TillSavedAs (write_of run (length before)) r before lent = rw (named, returns) at t in
      (x.number ∙ sym a.number, x.size ∙ sym a.size, x.lent ∙ sym a.lent)

  in_numbers : (c : Call) (mark : ℕ) (t : TillResult) (r : Result) → TillMeets s (run_out run) c mark t → Meets s run c r → InNumbers t r
  in_numbers (feeding by_value piece last before) mark (fed t lent) (answered o after) (m, w) a = same_outcome piece last mark before t lent o after m w a
  in_numbers (feeding by_value piece last before) mark (fed t lent) (answered_here o held after) w a = absurd a
  in_numbers (feeding by_value piece last before) mark (fed t lent) (written o after) w a = absurd a
  in_numbers (feeding by_value piece last before) mark (fed t lent) (restored o) w a = absurd a
  in_numbers (feeding in_record piece last before) mark (fed t lent) (answered o after) w a = absurd a
  in_numbers (feeding in_record piece last before) mark (fed t lent) (answered_here o held after) (m, w) a = same_outcome piece last mark before t lent (outcome_of o held) after m w a
  in_numbers (feeding in_record piece last before) mark (fed t lent) (written o after) w a = absurd a
  in_numbers (feeding in_record piece last before) mark (fed t lent) (restored o) w a = absurd a
  in_numbers (feeding form piece last before) mark (saved t lent) r w a = absurd w
  in_numbers (feeding form piece last before) mark (loaded t) r w a = absurd w
  in_numbers (saving before) mark (fed t lent) r w a = absurd w
  in_numbers (saving before) mark (saved t lent) (answered o after) w a = absurd a
  in_numbers (saving before) mark (saved t lent) (answered_here o held after) w a = absurd a
  in_numbers (saving before) mark (saved t lent) (written o after) w a = same_line before t lent o after w a
  in_numbers (saving before) mark (saved t lent) (restored o) w a = absurd a
  in_numbers (saving before) mark (loaded t) r w a = absurd w
  in_numbers (loading line) mark (fed t lent) r w a = absurd w
  in_numbers (loading line) mark (saved t lent) r w a = absurd w
  in_numbers (loading line) mark (loaded t) (answered o after) w a = absurd a
  in_numbers (loading line) mark (loaded t) (answered_here o held after) w a = absurd a
  in_numbers (loading line) mark (loaded t) (written o after) w a = absurd a
  in_numbers (loading line) mark (loaded t) (restored o) w a = w ∙ ap load_out (sym a)

-- ---- the run in hand
pick_out : (t : Bool) (x y : Run) → pick t (run_out x) (run_out y) ≡ run_out (pick t x y)
pick_out true x y = refl
pick_out false x y = refl

pick_both : (t : Bool) (x : Run) → pick t x x ≡ x
pick_both true x = refl
pick_both false x = refl

hand_numbers : (run : Run) (t : TillResult) (r : Result) → InNumbers t r → till_hand_after (run_out run) t ≡ run_out (hand_after run r)
unfolding till_hand_after hand_after observed outcome_out handed
hand_numbers run (fed t lent) (answered o after) w = rw w.0 (pick_out (is_accepted (number_of o.answer)) o.run run)
hand_numbers run (fed t lent) (answered_here o held after) w = rw w.0 (pick_out (is_accepted (number_of o.answer)) held run)
hand_numbers run (fed t lent) (written o after) w = absurd w
hand_numbers run (fed t lent) (restored o) w = absurd w
hand_numbers run (saved t lent) (answered o after) w = absurd w
hand_numbers run (saved t lent) (answered_here o held after) w = absurd w
hand_numbers run (saved t lent) (written o after) w = ap run_out (sym (pick_both (is_accepted (written_as o).number) run))
hand_numbers run (saved t lent) (restored o) w = absurd w
hand_numbers run (loaded t) (answered o after) w = absurd w
hand_numbers run (loaded t) (answered_here o held after) w = absurd w
hand_numbers run (loaded t) (written o after) w = absurd w
hand_numbers run (loaded t) (restored (Some o)) w = rw w
hand_numbers run (loaded t) (restored None) w = rw w

-- ---- over the whole list
pub record Traced (s : Setting) (hand : Run) (es : List TillEntry) : Type 0 where
  pub entries : List Entry
  pub calls : calls_of entries ≡ till_calls es
  pub met : AllMeet s hand entries
  pub numbers : AllInNumbers es entries

module _ (s : Setting) (h : Proper s) where
  fits : (m : Model) → Kept s m → Representable m.run
  fits m g = representable m.run g.fair.valid (omega (arith, h.page, g.fair.page)) g.fair.pending

  traced : (es : List TillEntry) (m : Model) (hand : TillRun) → hand ≡ run_out m.run → Kept s m → AllAllowed s m (till_calls es) → AllTillMeet s hand es → Traced s m.run es
  unfolding AllAllowed AllMeet AllTillMeet
  traced [] m hand e g ok w = record { entries = []; calls = refl; met = tt; numbers = tt }
  traced (x ∷ es) m hand e g ok w =
      let (r, a) = result_exists s m.run x.call in
      let here : TillMeets s (run_out m.run) x.call x.mark x.result = subst (λ (n : TillRun). TillMeets s n x.call x.mark x.result) e w.0 in
      let same = in_numbers s m.run (fits m g) (valid_high m.run g.fair.valid) x.call x.mark x.result r here a in
      let model = hand_next s m m.run x.call r refl ok.0 a in
      let then = ap (λ (n : TillRun). till_hand_after n x.result) e ∙ hand_numbers m.run x.result r same ∙ ap run_out model in
      let rest = traced es (next s m x.call) (till_hand_after hand x.result) then (kept_next s h m g x.call ok.0) ok.1 w.1 in
      record {
        entries = record { call = x.call; result = r } ∷ rest.entries;
        calls = ap (λ (l : List Call). x.call ∷ l) rest.calls;
        met = (a, subst (λ (n : Run). AllMeet s n rest.entries) (sym model) rest.met);
        numbers = (refl, same, rest.numbers);
      }

-- what `till_start` hands back where the start is accepted
start_is : (d : Direction) → direction_in (direction_out d) ≡ d
start_is Decoding = refl
start_is Encoding = refl

start_run : (s : Setting) → Proper s → (till_start (direction_out s.direction) s.page s.policy.single s.policy.pair s.policy.invalid).run ≡ run_out (fresh s.direction s.page s.policy)
start_run s h = by_direction s.direction (fresh_started s h)
  where
    by_direction : (d : Direction) → started_as (Ok (fresh d s.page s.policy)) ≡ start_of d s.page s.policy → (till_start (direction_out d) s.page s.policy.single s.policy.pair s.policy.invalid).run ≡ run_out (fresh d s.page s.policy)
    by_direction Decoding e = unfold till_start handed in ap (λ (x : Start). (start_out x).run) (sym e)
    by_direction Encoding e = unfold till_start handed in ap (λ (x : Start). (start_out x).run) (sym e)

-- A list of C calls, and the trace that it is in numbers.
pub record TillDemand3 (s : Setting) (es : List TillEntry) : Type 0 where
  pub start : Run
  pub entries : List Entry
  pub numbers : AllInNumbers es entries
  pub trace : Trace s start entries
  pub claim : Demand3 s start entries

-- THE COROLLARY: every list of C calls that meets the contracts is, in numbers, a trace of the library's calls, of which the
-- claim of demand 3 holds.
pub every_list : (s : Setting) → Proper s → (start : TillHanded) (es : List TillEntry) → TillTrace s start es → TillDemand3 s es
unfolding opened
every_list s h start es t =
    let first = fresh s.direction s.page s.policy in
    let hand : start.run ≡ run_out first = ap (λ (x : TillHanded). x.run) t.started ∙ start_run s h in
    let all = traced s h es (opened s) start.run hand (kept_start s h) t.allowed t.met in
    let trace : Trace s first all.entries =
    record {
      started = fresh_started s h;
      allowed = subst (λ (l : List Call). AllAllowed s (opened s) l) (sym all.calls) t.allowed;
      met = all.met;
    } in
    record { start = first; entries = all.entries; numbers = all.numbers; trace = trace; claim = every_trace s h first all.entries trace }
