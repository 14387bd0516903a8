-- DEMAND 3: one claim over every list of calls.
use mathlib.Core.Bool.{Bool, true, false, not, ◌&&◌}
use mathlib.Core.List.{List, [], ◌∷◌}
use mathlib.Core.Logic.{inl, inr}
use mathlib.Core.Option.{Option, none, some}
use mathlib.Core.Path.{◌≡◌, refl, sym, ap, ◌∙◌, subst}
use Prim.Native.Nat.{ℕ, zero, suc, ◌<◌}
use native.Mathlib.Omega.{arith}
use lib.Dec.{eqb}
use lib.ListN.{length, take, drop}
use lib.Seq.{take_at}
use borrow.Author.Tests.{ltb-true}
use Rattle.codepage.specs.CodePage.{pick}
use Rattle.convert.specs.declared.Run.{Run}
use Rattle.std.specs.Prelude.{Ok}
use Rattle.engine.specs.Policies.{policy_allowed}
use Rattle.convert.specs.declared.Outcome.{Outcome}
use Rattle.convert.specs.Runs.{fresh, Start, start_of, started_as}
use Rattle.convert.specs.Calls.{Called, run_call, Answered}
use Rattle.codepage.specs.Lent.{over}
use Rattle.checkpoint.specs.Line.{write_of, read_of, written_as, loaded, run_of}
use Rattle.runrecord.specs.Records.{outcome_of}
use Rattle.traces.specs.Model.{Setting, by_value, in_record, Call, feeding, saving, loading, Said, said_of_call, said_of_saving, said_of_loading, says, is_accepted, in_hand, Model, opened, joined_by, noted_by, set_back_to, accepted_by, next, play, noted_beside, Note, Allowed, AllAllowed}
use Rattle.traces.specs.Traces.{Result, fed, fed_here, saved, loaded as restored, Entry, Meets, said_of, observed, hand_after, hand_at_end, AllMeet, calls_of, lent_before, lent_after, AllAgree, Alike, AlikeFor, SameFor, ReadAt, Demand3, Proper, Trace}
use Rattle.traces.proofs.ModelLaws.{Kept, kept_start, kept_next, fair_begins, fair_whole}

-- ---- a result that meets its contract is what the rules say
front_is : (before ys after : List ℕ) (n : ℕ) → after ≡ over before ys → n ≡ length ys → take n after ≡ ys
unfolding over
front_is before ys after n e q = rw e (take_at ys (drop (length ys) before) n (sym q))

said_path : (a b : Said) → a.number ≡ b.number → a.read ≡ b.read → a.output ≡ b.output → a.run ≡ b.run → a ≡ b
said_path a b p q r t = λ i. record { number = p i; read = q i; output = r i; run = t i }

-- what is seen of a run call that meets its promise, in either form
answered_seen : (c : Called) (r : Outcome) (before after : List ℕ) → Answered c r before after → said_of r after ≡ said_of_call c
answered_seen c r before after w = said_path _ _ w.number w.read (front_is before c.output after r.written w.lent w.written) (ap some w.run)

-- a result that meets its contract is seen as what the model says, with the same run in hand
pub meets_says : (s : Setting) (hand : Run) (c : Call) (r : Result) → Meets s hand c r → observed r ≡ says s hand c
unfolding observed says
meets_says s hand (feeding by_value piece last before) (fed r after) w = answered_seen _ r before after w
meets_says s hand (feeding by_value piece last before) (fed_here r held after) w = absurd w
meets_says s hand (feeding by_value piece last before) (saved r after) w = absurd w
meets_says s hand (feeding by_value piece last before) (restored r) w = absurd w
meets_says s hand (feeding in_record piece last before) (fed r after) w = absurd w
meets_says s hand (feeding in_record piece last before) (fed_here r held after) w = answered_seen _ (outcome_of r held) before after w
meets_says s hand (feeding in_record piece last before) (saved r after) w = absurd w
meets_says s hand (feeding in_record piece last before) (restored r) w = absurd w
meets_says s hand (saving before) (fed r after) w = absurd w
meets_says s hand (saving before) (fed_here r held after) w = absurd w
meets_says s hand (saving before) (saved r after) w =
    said_path _ _ w.number refl (front_is before (write_of hand (length before)).line after (written_as r).size w.lent w.size) refl
meets_says s hand (saving before) (restored r) w = absurd w
meets_says s hand (loading line) (fed r after) w = absurd w
meets_says s hand (loading line) (fed_here r held after) w = absurd w
meets_says s hand (loading line) (saved r after) w = absurd w
meets_says s hand (loading line) (restored r) w = ap said_of_loading w

meets_lent : (s : Setting) (hand : Run) (c : Call) (r : Result) → Meets s hand c r → lent_after r ≡ over (lent_before c) (says s hand c).output
unfolding says over
meets_lent s hand (feeding by_value piece last before) (fed r after) w = w.lent
meets_lent s hand (feeding by_value piece last before) (fed_here r held after) w = absurd w
meets_lent s hand (feeding by_value piece last before) (saved r after) w = absurd w
meets_lent s hand (feeding by_value piece last before) (restored r) w = absurd w
meets_lent s hand (feeding in_record piece last before) (fed r after) w = absurd w
meets_lent s hand (feeding in_record piece last before) (fed_here r held after) w = w.lent
meets_lent s hand (feeding in_record piece last before) (saved r after) w = absurd w
meets_lent s hand (feeding in_record piece last before) (restored r) w = absurd w
meets_lent s hand (saving before) (fed r after) w = absurd w
meets_lent s hand (saving before) (fed_here r held after) w = absurd w
meets_lent s hand (saving before) (saved r after) w = w.lent
meets_lent s hand (saving before) (restored r) w = absurd w
meets_lent s hand (loading line) (fed r after) w = absurd w
meets_lent s hand (loading line) (fed_here r held after) w = absurd w
meets_lent s hand (loading line) (saved r after) w = absurd w
meets_lent s hand (loading line) (restored r) w = refl

-- ---- the run in hand is the model's
-- the run in hand after a call that said a
abbrev hand_by : Run → Said → Run
hand_by hand a = pick (is_accepted a.number) (in_hand hand a.run) hand

back_run : (m : Model) (a : Said) (o : Option Note) → (o ≡ none → ⊥) → (set_back_to m a o).run ≡ in_hand m.run a.run
unfolding set_back_to
back_run m a none ne = absurd (ne refl)
back_run m a (some n) ne = refl

pick_run : (t : Bool) (m n : Model) → (pick t n m).run ≡ pick t n.run m.run
pick_run true m n = refl
pick_run false m n = refl

pick_same : (t : Bool) (x y : Run) → (t ≡ true → x ≡ y) → (z : Run) → pick t x z ≡ pick t y z
pick_same true x y h z = h refl
pick_same false x y h z = refl

-- a line that is read is noted
is_noted : (s : Setting) (m : Model) (line : List ℕ) → Allowed s m (loading line) → is_accepted (read_of line).number ≡ true → noted_beside line m.notes ≡ none → ⊥
unfolding Allowed
is_noted s m line (inl w) e q = let z : ◌≡◌ {A = ℕ} 0 1 = cc in omega arith
is_noted s m line (inr w) e q = let z : 18 < 10 = ltb-true 18 10 (sym (ap is_accepted w) ∙ e) in omega arith

accepted_run : (s : Setting) (m : Model) (c : Call) → Allowed s m c → is_accepted (says s m.run c).number ≡ true → (accepted_by m c (says s m.run c)).run ≡ in_hand m.run (says s m.run c).run
unfolding accepted_by joined_by noted_by says
accepted_run s m (feeding form piece last lent) ok e = refl
accepted_run s m (saving lent) ok e = refl
accepted_run s m (loading line) ok e = back_run m (said_of_loading (read_of line)) (noted_beside line m.notes) (is_noted s m line ok e)

next_run : (s : Setting) (m : Model) (c : Call) → Allowed s m c → (next s m c).run ≡ hand_by m.run (says s m.run c)
unfolding next
next_run s m c ok =
    pick_run (is_accepted (says s m.run c).number) m (accepted_by m c (says s m.run c))
    ∙ pick_same (is_accepted (says s m.run c).number) _ _ (accepted_run s m c ok) m.run

-- the program's run in hand and the model's stay the same over a call that is allowed
pub hand_next : (s : Setting) (m : Model) (hand : Run) (c : Call) (r : Result) → hand ≡ m.run → Allowed s m c → Meets s hand c r → hand_after hand r ≡ (next s m c).run
unfolding hand_after
hand_next s m hand c r e ok w =
    ap (hand_by hand) (meets_says s hand c r w) ∙ ap (λ (x : Run). hand_by x (says s x c)) e ∙ sym (next_run s m c ok)

-- ---- over the whole list
module _ (s : Setting) (h : Proper s) where
  pub record Over (m : Model) (hand : Run) (es : List Entry) : Type 0 where
    pub agrees : AllAgree s m es
    pub kept : Kept s (play s m (calls_of es))
    pub in_hand : hand_at_end hand es ≡ (play s m (calls_of es)).run

  -- Over a list of allowed calls whose results meet the contracts, all agree with the model, at each call and at the end.
  pub over_list : (es : List Entry) (m : Model) (hand : Run) → hand ≡ m.run → Kept s m → AllAllowed s m (calls_of es) → AllMeet s hand es → Over m hand es
  unfolding AllAgree AllAllowed AllMeet play hand_at_end
  over_list [] m hand e g ok w = record { agrees = tt; kept = g; in_hand = e }
  over_list (x ∷ es) m hand e g ok w =
      let rest = over_list es (next s m x.call) (hand_after hand x.result) (hand_next s m hand x.call x.result e ok.0 w.0)
      (kept_next s h m g x.call ok.0) ok.1 w.1 in
      record {
        agrees = (
          meets_says s hand x.call x.result w.0 ∙ ap (λ (r : Run). says s r x.call) e,
          meets_lent s hand x.call x.result w.0 ∙ ap (λ (r : Run). over (lent_before x.call) (says s r x.call).output) e,
          rest.agrees,
        );
        kept = rest.kept;
        in_hand = rest.in_hand;
      }

-- ---- second readings
alike_says : (s : Setting) (hand : Run) (c d : Call) → Alike c d → says s hand c ≡ says s hand d
unfolding says
alike_says s hand (feeding form piece last lent) (feeding form' piece' last' lent') a =
    ap (λ (p : List ℕ). said_of_call (run_call s.direction hand s.tables p last (length lent))) a.0
    ∙ ap (λ (t : Bool). said_of_call (run_call s.direction hand s.tables piece' t (length lent))) a.1
    ∙ ap (λ (n : ℕ). said_of_call (run_call s.direction hand s.tables piece' last' n)) a.2
alike_says s hand (feeding form piece last lent) (saving lent') a = absurd a
alike_says s hand (feeding form piece last lent) (loading line') a = absurd a
alike_says s hand (saving lent) (feeding form' piece' last' lent') a = absurd a
alike_says s hand (saving lent) (saving lent') a = ap (λ (n : ℕ). said_of_saving (write_of hand n)) a
alike_says s hand (saving lent) (loading line') a = absurd a
alike_says s hand (loading line) (feeding form' piece' last' lent') a = absurd a
alike_says s hand (loading line) (saving lent') a = absurd a
alike_says s hand (loading line) (loading line') a = ap (λ (l : List ℕ). said_of_loading (read_of l)) a

same_for : (s : Setting) (n : ℕ) (es fs : List Entry) (hand hand' : Run) → hand ≡ hand' → AllMeet s hand es → AllMeet s hand' fs → AlikeFor n es fs → SameFor n es fs
unfolding AllMeet hand_after
same_for s zero es fs hand hand' e w u a = tt
same_for s (suc n) [] fs hand hand' e w u a = tt
same_for s (suc n) (x ∷ es) [] hand hand' e w u a = tt
same_for s (suc n) (x ∷ es) (y ∷ fs) hand hand' e w u a =
    let same : observed x.result ≡ observed y.result =
    meets_says s hand x.call x.result w.0 ∙ ap (λ (r : Run). says s r x.call) e ∙ alike_says s hand' x.call y.call a.0 ∙ sym (meets_says s hand' y.call y.result u.0) in
    (same, same_for s n es fs (hand_after hand x.result) (hand_after hand' y.result) (ap (λ (r : Run). hand_by r (observed x.result)) e ∙ ap (hand_by hand') same) w.1 u.1 a.1)

-- the run in hand at a place of a list, and the results behind it
meet_from : (s : Setting) (k : ℕ) (hand : Run) (es : List Entry) → AllMeet s hand es → (run : Run) × AllMeet s run (drop k es)
unfolding AllMeet
meet_from s zero hand es w = (hand, w)
meet_from s (suc k) hand [] w = (hand, w)
meet_from s (suc k) hand (x ∷ es) w = meet_from s k (hand_after hand x.result) es w.1

-- an accepted reading puts the line's own run in hand
run_of_line : (line : List ℕ) → (read_of line).number ≡ 0 → (run : Run) × ((read_of line).run ≡ some run)
unfolding read_of loaded
run_of_line line e = by_run (run_of line) refl
  where
    by_run : (o : Option Run) → run_of line ≡ o → (run : Run) × ((read_of line).run ≡ some run)
    by_run none q = absurd (let z : ◌≡◌ {A = ℕ} 18 0 = sym (rw q) ∙ e in omega arith)
    by_run (some run) q = (run, rw q)

hand_read : (s : Setting) (hand : Run) (r : Result) (line : List ℕ) (run : Run) → (read_of line).number ≡ 0 → (read_of line).run ≡ some run → Meets s hand (loading line) r → hand_after hand r ≡ run
unfolding hand_after says
hand_read s hand r line run e q w = ap (hand_by hand) (meets_says s hand (loading line) r w) ∙ rw (e, q)

behind_reading : (s : Setting) (hand : Run) (es : List Entry) (line : List ℕ) (behind : List Entry) (run : Run) → AllMeet s hand es → ReadAt es line behind → (read_of line).number ≡ 0 → (read_of line).run ≡ some run
    → AllMeet s run behind
unfolding AllMeet
behind_reading s hand es line behind run w at e q =
    let there = meet_from s at.place hand es w in
    let here : AllMeet s there.0 (at.reading ∷ behind) = subst (λ (l : List Entry). AllMeet s there.0 l) at.there there.1 in
    let met : Meets s there.0 (loading line) at.reading.result = subst (λ (c : Call). Meets s there.0 c at.reading.result) at.reads here.0 in
    subst (λ (r : Run). AllMeet s r behind) (hand_read s there.0 at.reading.result line run e q met) here.1

-- the run of an accepted start is the fresh one
pub start_fresh : (s : Setting) (start : Run) → started_as (Ok start) ≡ start_of s.direction s.page s.policy → start ≡ fresh s.direction s.page s.policy
unfolding start_of
start_fresh s start e = by_test (not (eqb s.page 0) && policy_allowed s.direction s.policy) refl
  where
    by_test : (t : Bool) → (not (eqb s.page 0) && policy_allowed s.direction s.policy) ≡ t → start ≡ fresh s.direction s.page s.policy
    by_test true q = let same : some start ≡ some (fresh s.direction s.page s.policy) = ap (λ (x : Start). x.run) e ∙ rw q in cc
    by_test false q = let z : ◌≡◌ {A = ℕ} 0 17 = ap (λ (x : Start). x.number) e ∙ rw q in absurd (omega arith)

-- THE THEOREM: for every table set, good or bad, of the run's page or another, every text within the run limit, both
-- directions, every accepted start, every list of calls that document 01 allows, and every trace of results that meets the
-- contracts of the program's calls.
pub every_trace : (s : Setting) → Proper s → (start : Run) (es : List Entry) → Trace s start es → Demand3 s start es
unfolding opened
every_trace s h start es t =
    let whole = over_list s h es (opened s) start (start_fresh s start t.started) (kept_start s h) t.allowed t.met in
    let hand = whole.in_hand in
    let fair = whole.kept.fair in
    record {
      agrees = whole.agrees;
      at_end =
          record {
            begins = fair_begins s _ _ _ _ fair;
            read = ap (λ (r : Run). r.read) hand ∙ fair.read;
            written = ap (λ (r : Run). r.written) hand ∙ fair.written;
            ended = ap (λ (r : Run). r.ended) hand ∙ fair.end;
            all_of_it = λ e.
                let w = fair_whole s _ _ _ _ fair e in
                (w.0, ap (λ (r : Run). r.flags) hand ∙ w.1, ap (λ (r : Run). r.read) hand ∙ w.2, ap (λ (r : Run). r.written) hand ∙ w.3);
          };
      second_reading = λ line n first second a b e alike.
          let run = run_of_line line e in
          same_for s n first second run.0 run.0 refl (behind_reading s _ es line first run.0 t.met a e run.1) (behind_reading s _ es line second run.0 t.met b e run.1) alike;
    }
