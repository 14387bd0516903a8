-- The two forms of a run call (CR 13): a list that mixes them is, call by call, a list by value, and a record holds the run in hand.
use mathlib.Core.Bool.{Bool, true, false, false≢true}
use mathlib.Core.List.{List, [], ◌∷◌}
use mathlib.Core.Path.{◌≡◌, refl, sym, ap, ◌∙◌, subst}
use Prim.Native.Nat.{ℕ, ◌≤◌}
use native.Mathlib.Omega.{arith}
use lib.Dec.{eqb}
use lib.ListN.{length}
use borrow.Author.Tests.{eqb-true, eq-eqb, lt-ltb}
use Rattle.codepage.specs.CodePage.{pick}
use Rattle.convert.specs.declared.Run.{Run}
use Rattle.convert.specs.Calls.{number_of, refusal, Called, accepted_call, refused_call, run_call}
use Rattle.convert.proofs.CallLaws.{accepted_facts, feed_shape}
use Rattle.convert.proofs.RunLaws.{refused_same}
use Rattle.traces.specs.Model.{Setting, by_value, in_record, Call, feeding, saving, loading, says, is_accepted, Model, opened, accepted_by, next, Allowed, AllAllowed}
use Rattle.traces.specs.Traces.{Result, fed, fed_here, saved, loaded, Entry, Meets, observed, hand_after, AllMeet, calls_of, SameFor, Trace}
use Rattle.traces.specs.Forms.{call_by_value, result_by_value, all_by_value, NoRecord, RecordHolds}

-- ---- the model looks at no form
next_by_value : (s : Setting) (m : Model) (c : Call) → next s m (call_by_value c) ≡ next s m c
unfolding next accepted_by says
next_by_value s m (feeding form piece last lent) = refl
next_by_value s m (saving lent) = refl
next_by_value s m (loading line) = refl

allowed_by_value : (s : Setting) (m : Model) (c : Call) → Allowed s m c → Allowed s m (call_by_value c)
unfolding Allowed
allowed_by_value s m (feeding form piece last lent) ok = ok
allowed_by_value s m (saving lent) ok = ok
allowed_by_value s m (loading line) ok = ok

all_allowed : (s : Setting) (m : Model) (es : List Entry) → AllAllowed s m (calls_of es) → AllAllowed s m (calls_of (all_by_value es))
unfolding AllAllowed
all_allowed s m [] ok = tt
all_allowed s m (e ∷ es) ok =
    (allowed_by_value s m e.call ok.0, subst (λ (n : Model). AllAllowed s n (calls_of (all_by_value es))) (sym (next_by_value s m e.call)) (all_allowed s (next s m e.call) es ok.1))

-- ---- the results
meets_by_value : (s : Setting) (hand : Run) (c : Call) (r : Result) → Meets s hand c r → Meets s hand (call_by_value c) (result_by_value r)
meets_by_value s hand (feeding by_value piece last before) (fed r after) w = w
meets_by_value s hand (feeding by_value piece last before) (fed_here r held after) w = absurd w
meets_by_value s hand (feeding by_value piece last before) (saved r after) w = absurd w
meets_by_value s hand (feeding by_value piece last before) (loaded r) w = absurd w
meets_by_value s hand (feeding in_record piece last before) (fed r after) w = absurd w
meets_by_value s hand (feeding in_record piece last before) (fed_here r held after) w = w
meets_by_value s hand (feeding in_record piece last before) (saved r after) w = absurd w
meets_by_value s hand (feeding in_record piece last before) (loaded r) w = absurd w
meets_by_value s hand (saving before) (fed r after) w = absurd w
meets_by_value s hand (saving before) (fed_here r held after) w = absurd w
meets_by_value s hand (saving before) (saved r after) w = w
meets_by_value s hand (saving before) (loaded r) w = absurd w
meets_by_value s hand (loading line) (fed r after) w = absurd w
meets_by_value s hand (loading line) (fed_here r held after) w = absurd w
meets_by_value s hand (loading line) (saved r after) w = absurd w
meets_by_value s hand (loading line) (loaded r) w = w

seen_by_value : (r : Result) → observed (result_by_value r) ≡ observed r
unfolding observed
seen_by_value (fed r lent) = refl
seen_by_value (fed_here r held lent) = refl
seen_by_value (saved r lent) = refl
seen_by_value (loaded r) = refl

hand_by_value : (hand : Run) (r : Result) → hand_after hand (result_by_value r) ≡ hand_after hand r
unfolding hand_after
hand_by_value hand r = rw (seen_by_value r)

all_meet : (s : Setting) (hand : Run) (es : List Entry) → AllMeet s hand es → AllMeet s hand (all_by_value es)
unfolding AllMeet
all_meet s hand [] w = tt
all_meet s hand (e ∷ es) w =
    (meets_by_value s hand e.call e.result w.0, subst (λ (x : Run). AllMeet s x (all_by_value es)) (sym (hand_by_value hand e.result)) (all_meet s (hand_after hand e.result) es w.1))

-- ANY MIXTURE of the two forms is a trace by value, with equal answers, output and runs.
pub by_value_trace : (s : Setting) (start : Run) (es : List Entry) → Trace s start es → Trace s start (all_by_value es)
by_value_trace s start es t = record { started = t.started; allowed = all_allowed s (opened s) es t.allowed; met = all_meet s start es t.met }

-- what is seen of each of its calls is the same
pub by_value_same : (es : List Entry) → SameFor (length es) es (all_by_value es)
by_value_same [] = tt
by_value_same (e ∷ es) = (sym (seen_by_value e.result), by_value_same es)

-- ---- lists without the record form
entry_stays : (s : Setting) (hand : Run) (c : Call) (r : Result) (cs : List Call) → Meets s hand c r → NoRecord (c ∷ cs) → (call_by_value c ≡ c) × (result_by_value r ≡ r) × NoRecord cs
entry_stays s hand (feeding by_value piece last before) (fed r after) cs w n = (refl, refl, n)
entry_stays s hand (feeding by_value piece last before) (fed_here r held after) cs w n = absurd w
entry_stays s hand (feeding by_value piece last before) (saved r after) cs w n = absurd w
entry_stays s hand (feeding by_value piece last before) (loaded r) cs w n = absurd w
entry_stays s hand (feeding in_record piece last before) r cs w n = absurd n
entry_stays s hand (saving before) (fed r after) cs w n = absurd w
entry_stays s hand (saving before) (fed_here r held after) cs w n = absurd w
entry_stays s hand (saving before) (saved r after) cs w n = (refl, refl, n)
entry_stays s hand (saving before) (loaded r) cs w n = absurd w
entry_stays s hand (loading line) (fed r after) cs w n = absurd w
entry_stays s hand (loading line) (fed_here r held after) cs w n = absurd w
entry_stays s hand (loading line) (saved r after) cs w n = absurd w
entry_stays s hand (loading line) (loaded r) cs w n = (refl, refl, n)

-- A list without the record form is its own list by value: of it every theorem says what it said before the form came.
pub by_value_stays : (s : Setting) (hand : Run) (es : List Entry) → AllMeet s hand es → NoRecord (calls_of es) → all_by_value es ≡ es
unfolding AllMeet
by_value_stays s hand [] w n = refl
by_value_stays s hand (e ∷ es) w n =
    let x = entry_stays s hand e.call e.result (calls_of es) w.0 n in
    let rest = by_value_stays s (hand_after hand e.result) es w.1 x.2 in
    λ i. record { call = x.0 i; result = x.1 i } ∷ rest i

-- ---- the record
-- an accepted call has one of the numbers 0 to 3
answer_low : (s : Setting) (hand : Run) (piece : List ℕ) (last : Bool) (room : ℕ) → refusal s.direction hand s.tables (length piece) ≡ 0 → (run_call s.direction hand s.tables piece last room).number ≤ 3
unfolding run_call accepted_call
answer_low s hand piece last room e =
    rw (eq-eqb (refusal s.direction hand s.tables (length piece)) 0 e)
    (feed_shape s.direction hand s.tables piece last room (accepted_facts s.direction hand s.tables (length piece) e)).known

-- a refused call gives back the run it was handed
refused_run : (s : Setting) (hand : Run) (piece : List ℕ) (last : Bool) (room : ℕ) → (refusal s.direction hand s.tables (length piece) ≡ 0 → ⊥) → (run_call s.direction hand s.tables piece last room).run ≡ hand
unfolding refused_call
refused_run s hand piece last room e = ap (λ (c : Called). c.run) (refused_same s.direction hand s.tables piece last room e)

held_is : (s : Setting) (hand : Run) (piece : List ℕ) (last : Bool) (room number : ℕ) (held : Run) → number ≡ (run_call s.direction hand s.tables piece last room).number
    → held ≡ (run_call s.direction hand s.tables piece last room).run → held ≡ pick (is_accepted number) held hand
held_is s hand piece last room number held e q = by_test (is_accepted number) (eqb (refusal s.direction hand s.tables (length piece)) 0) refl refl
  where
    by_test : (t u : Bool) → is_accepted number ≡ t → eqb (refusal s.direction hand s.tables (length piece)) 0 ≡ u → held ≡ pick t held hand
    by_test true u a b = refl
    by_test false true a b = absurd (false≢true (sym a ∙ lt-ltb number 10 (omega (arith, e, answer_low s hand piece last room (eqb-true _ _ b)))))
    by_test false false a b = q ∙ refused_run s hand piece last room (λ z. false≢true (sym b ∙ eq-eqb _ _ z))

-- THE ONE PLACE of the firmware: after a call in the record form the record holds the run in hand, the new one or, on refusal, what it held.
pub record_holds : (s : Setting) (hand : Run) (c : Call) (r : Result) → Meets s hand c r → RecordHolds hand r
unfolding hand_after observed
record_holds s hand c (fed r lent) w = tt
record_holds s hand (feeding by_value piece last before) (fed_here r held lent) w = absurd w
record_holds s hand (feeding in_record piece last before) (fed_here r held lent) w = held_is s hand piece last (length before) (number_of r.answer) held w.number w.run
record_holds s hand (saving before) (fed_here r held lent) w = absurd w
record_holds s hand (loading line) (fed_here r held lent) w = absurd w
record_holds s hand c (saved r lent) w = tt
record_holds s hand c (loaded r) w = tt
