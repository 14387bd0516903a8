-- What the model and the run in hand keep over a list of calls.
use mathlib.Core.Bool.{Bool, true, false, ◌&&◌, true≢false, false≢true}
use mathlib.Core.List.{List, [], ◌∷◌, ◌++◌, append-nil}
use mathlib.Core.Logic.{◌⊎◌, inl, inr}
use mathlib.Core.Option.{Option, none, some}
use mathlib.Core.Path.{◌≡◌, refl, sym, ap, ◌∙◌, subst}
use Prim.Native.Nat.{ℕ, zero, suc, ◌+◌, ◌^◌, ◌≤◌}
use native.Mathlib.Omega.{arith}
use lib.Dec.{ltb, eqb}
use lib.ListN.{length, take, drop, length-append}
use lib.Seq.{take_at}
use borrow.Author.Tests.{eqb-true, eq-eqb, lt-ltb, le-ltb}
use Rattle.codepage.specs.CodePage.{pick, first_fault, is_good}
use Rattle.codepage.proofs.ShapeLaws.{shape_exact, and_left, and_right}
use Rattle.engine.specs.declared.Direction.{Direction}
use Rattle.engine.specs.declared.Direction.TheVariants.{Decoding, Encoding}
use Rattle.engine.specs.declared.Policy.{Policy}
use Rattle.convert.specs.declared.Pending.{Pending}
use Rattle.convert.specs.declared.Pending.TheVariants.{Nothing, Byte, High}
use Rattle.convert.specs.declared.Run.{Run}
use Rattle.engine.specs.Engine.{Converter, limit, Fed, halt, after, feed_from}
use Rattle.convert.specs.Runs.{valid_run, fresh}
use Rattle.convert.specs.Calls.{refusal, Called, pending_unit, final_unit, pending_after, ended_after, run_after, fed_by, accepted_call, refused_call, run_call}
use Rattle.engine.specs.Engine.{converter_of}
use Rattle.engine.proofs.EngineLaws.{uncut, after_none}
use Rattle.engine.proofs.CodeLaws.{whole_is_feed}
use Rattle.convert.proofs.CallLaws.{Accepted, accepted_facts, refusal_named, feed_shape}
use Rattle.convert.proofs.RunLaws.{start_kept, call_kept, refused_same}
use Rattle.checkpoint.specs.Line.{line_of, run_of, same_bytes, PendingFits, write_of, read_of, loaded}
use Rattle.checkpoint.proofs.LineLaws.{representable, write_read, one_line_one_run}
use Rattle.traces.specs.Model.{Setting, Form, Call, feeding, saving, loading, Note, Model, opened, says, is_accepted, noted_beside, joined_by, noted_by, set_back_to, accepted_by, next, Allowed, whole_of}
use Rattle.traces.specs.Traces.{AllBelow, width_of, Proper}
use Rattle.traces.proofs.StepLaws.{Reads, call_reads}

-- ---- what a run in hand says of the whole reading
-- whether the whole reading takes steps
abbrev steps : Setting → Bool
steps s = is_good (first_fault s.tables) && eqb s.page s.tables.page

-- no call was accepted
pub record Idle (run : Run) (joined : List ℕ) : Type 0 where
  pub joined_none : joined ≡ []
  pub going : run.ended ≡ false

-- where the whole reading takes steps, what the run has done of it; where it takes none, that no call was accepted
abbrev pub Doing : Bool → Setting → Run → List ℕ → Type 0
Doing true s run joined = Reads (converter_of s.direction s.tables s.policy) s.text run joined
Doing false s run joined = Idle run joined

-- A run, with a position, joined output and end that fit it.
pub record Fair (s : Setting) (run : Run) (position : ℕ) (joined : List ℕ) (ended : Bool) : Type 0 where
  pub valid : valid_run run ≡ true
  pub direction : s.direction ≡ run.direction
  pub page : run.page ≡ s.page
  pub policy : run.policy ≡ s.policy
  pub pending : PendingFits run.pending
  pub read : run.read ≡ position
  pub written : run.written ≡ length joined
  pub end : run.ended ≡ ended
  pub doing : Doing (is_good (first_fault s.tables) && eqb s.page s.tables.page) s run joined

-- ---- the bytes of the text
below_drop : (n k : ℕ) (text : List ℕ) → AllBelow n text → AllBelow n (drop k text)
below_drop n zero text h = h
below_drop n (suc k) [] h = tt
below_drop n (suc k) (a ∷ text) h = below_drop n k text h.1

below_front : (n : ℕ) (xs ys : List ℕ) → AllBelow n (xs ++ ys) → AllBelow n xs
below_front n [] ys h = tt
below_front n (x ∷ xs) ys h = (h.0, below_front n xs ys h.1)

final_fits : (direction : Direction) (pending : Pending) (piece : List ℕ) → PendingFits pending → AllBelow (2 ^ width_of direction) piece → PendingFits (final_unit direction pending piece)
final_fits direction pending [] c h = c
final_fits Decoding pending (a ∷ piece) c h = final_fits Decoding (Byte a) piece h.0 h.1
final_fits Encoding pending (a ∷ piece) c h = final_fits Encoding (High a) piece h.0 h.1

pending_fits : (direction : Direction) (pending : Pending) (piece : List ℕ) (answer used : ℕ) → PendingFits pending → AllBelow (2 ^ width_of direction) piece
    → PendingFits (pending_after direction pending piece answer used)
unfolding pending_after
pending_fits direction pending piece answer used c h = by_test (eqb answer 1) (eqb used 0)
  where
    by_test : (t₁ t₂ : Bool) → PendingFits (pick t₁ (final_unit direction pending piece) (pick t₂ pending Nothing))
    by_test true t₂ = final_fits direction pending piece c h
    by_test false true = c
    by_test false false = tt

-- ---- the start
pub fair_start : (s : Setting) → Proper s → Fair s (fresh s.direction s.page s.policy) 0 [] false
fair_start s h =
    record {
      valid = start_kept s.direction s.page s.policy h.start;
      direction = refl;
      page = refl;
      policy = refl;
      pending = tt;
      read = refl;
      written = refl;
      end = refl;
      doing = by_steps (is_good (first_fault s.tables) && eqb s.page s.tables.page);
    }
  where
    by_steps : (t : Bool) → Doing t s (fresh s.direction s.page s.policy) []
    by_steps false = record { joined_none = refl; going = refl }
    by_steps true =
        record {
          inside = omega arith;
          behind = omega arith;
          waits = tt;
          going = λ e. sym (after_none (uncut (converter_of s.direction s.tables s.policy) s.text));
          over = λ e. absurd (false≢true e);
        }

-- ---- an accepted run call
module _ (s : Setting) (h : Proper s) (run : Run) (position : ℕ) (joined : List ℕ) (ended : Bool) (g : Fair s run position joined ended) (piece rest : List ℕ) (last : Bool) (room : ℕ)
    (begins : drop position s.text ≡ piece ++ rest) (to_end : last ≡ true → rest ≡ []) (accepted : refusal s.direction run s.tables (length piece) ≡ 0) where
  abbrev v : Converter
  v = converter_of s.direction s.tables s.policy

  abbrev given : Fed
  given = feed_from v last (limit room) (pending_unit run.pending) piece

  facts : Accepted s.direction run s.tables (length piece)
  facts = accepted_facts s.direction run s.tables (length piece) accepted

  call_is : run_call s.direction run s.tables piece last room ≡ accepted_call run piece last given
  unfolding run_call fed_by
  call_is =
      let e : eqb (refusal s.direction run s.tables (length piece)) 0 ≡ true = eq-eqb _ _ accepted in
      rw e (ap (λ (q : Policy). accepted_call run piece last (feed_from (converter_of s.direction s.tables q) last (limit room) (pending_unit run.pending) piece)) g.policy)

  stepping : (is_good (first_fault s.tables) && eqb s.page s.tables.page) ≡ true
  stepping = rw ((shape_exact s.tables).1 facts.good, eq-eqb s.page s.tables.page (sym g.page ∙ facts.page))

  reads_so_far : Reads v s.text run joined
  reads_so_far = subst (λ (t : Bool). Doing t s run joined) stepping g.doing

  reads_then : Reads v s.text (accepted_call run piece last given).run (joined ++ given.output)
  reads_then = call_reads v s.text run joined piece rest last room reads_so_far facts.going (ap (λ (n : ℕ). drop n s.text) g.read ∙ begins) to_end

  valid_then : valid_run (accepted_call run piece last given).run ≡ true
  valid_then = subst (λ (c : Called). valid_run c.run ≡ true) call_is (call_kept s.direction run s.tables piece last room accepted)

  pending_then : PendingFits (accepted_call run piece last given).run.pending
  unfolding accepted_call run_after
  pending_then =
      let n : ℕ = 2 ^ width_of run.direction in
      pending_fits run.direction run.pending piece given.answer given.used g.pending
      (below_front n piece rest
      (subst (λ (l : List ℕ). AllBelow n l) begins (below_drop n position s.text (subst (λ (d : Direction). AllBelow (2 ^ width_of d) s.text) g.direction h.units))))

  fair_accepted : Fair s (accepted_call run piece last given).run (position + (accepted_call run piece last given).read) (joined ++ given.output) (ended_after last given.answer)
  unfolding accepted_call run_after
  fair_accepted =
      record {
        valid = valid_then;
        direction = g.direction;
        page = g.page;
        policy = g.policy;
        pending = pending_then;
        read = ap (λ (n : ℕ). n + (accepted_call run piece last given).read) g.read;
        written = ap (λ (n : ℕ). n + length given.output) g.written ∙ sym (length-append joined given.output);
        end = refl;
        doing = subst (λ (t : Bool). Doing t s (accepted_call run piece last given).run (joined ++ given.output)) (sym stepping) reads_then;
      }

  abbrev FairOf : Called → Type 0
  FairOf c = Fair s c.run (position + c.read) (joined ++ c.output) (ended_after last c.number)

  -- ONE ACCEPTED CALL of a list.
  pub fair_call : FairOf (run_call s.direction run s.tables piece last room)
  unfolding accepted_call
  fair_call = subst FairOf (sym call_is) fair_accepted

  -- its number is that of an accepted call
  answer_low : (run_call s.direction run s.tables piece last room).number ≤ 3
  unfolding run_call accepted_call
  answer_low = rw (eq-eqb (refusal s.direction run s.tables (length piece)) 0 accepted) (feed_shape s.direction run s.tables piece last room facts).known

-- ---- the notes
-- what was noted beside a line fits the run of that line
abbrev pub NoteFair : Setting → Note → Type 0
NoteFair s n = (run : Run) × (line_of run ≡ n.line) × Fair s run n.position n.joined n.ended

-- each note is beside the line of a run that fits what was noted
abbrev pub AllFair : Setting → List Note → Type 0
AllFair s [] = Unit {0}
AllFair s (n ∷ notes) = NoteFair s n × AllFair s notes

pub same_bytes_lem : (xs ys : List ℕ) → same_bytes xs ys ≡ true → xs ≡ ys
same_bytes_lem [] [] e = refl
same_bytes_lem [] (y ∷ ys) e = absurd (false≢true e)
same_bytes_lem (x ∷ xs) [] e = absurd (false≢true e)
same_bytes_lem (x ∷ xs) (y ∷ ys) e =
    let h : x ≡ y = eqb-true x y (and_left (eqb x y) _ e) in
    let t : xs ≡ ys = same_bytes_lem xs ys (and_right (eqb x y) _ e) in
    ap (λ (z : ℕ). z ∷ xs) h ∙ ap (λ (l : List ℕ). y ∷ l) t

Found : Setting → List ℕ → Option Note → Type 0
Found s line none = Unit {0}
Found s line (some n) = (line ≡ n.line) × NoteFair s n

found_beside : (s : Setting) (line : List ℕ) (notes : List Note) → AllFair s notes → Found s line (noted_beside line notes)
unfolding Found
found_beside s line [] h = tt
found_beside s line (n ∷ notes) h = by_test (same_bytes line n.line) refl (found_beside s line notes h.1)
  where
    by_test : (t : Bool) → same_bytes line n.line ≡ t → Found s line (noted_beside line notes) → Found s line (pick t (some n) (noted_beside line notes))
    by_test true e q = (same_bytes_lem line n.line e, h.0)
    by_test false e q = q

-- ---- one call of a list
-- What every call of a list keeps: the run in hand fits position, joined output and end, and so does the run of each note.
pub record Kept (s : Setting) (m : Model) : Type 0 where
  pub fair : Fair s m.run m.position m.joined m.ended
  pub notes : AllFair s m.notes

-- before the first call it holds: a fresh run, nothing joined, nothing noted
pub kept_start : (s : Setting) → Proper s → Kept s (opened s)
unfolding opened
kept_start s h = record { fair = fair_start s h; notes = tt }

module _ (s : Setting) (h : Proper s) (m : Model) (g : Kept s m) where
  kept_feeding : (form : Form) (piece : List ℕ) (last : Bool) (lent : List ℕ) → Allowed s m (feeding form piece last lent) → Kept s (next s m (feeding form piece last lent))
  unfolding next accepted_by joined_by says Allowed refused_call
  kept_feeding form piece last lent ok = by_test (eqb (refusal s.direction m.run s.tables (length piece)) 0) refl
    where
      by_test : (t : Bool) → eqb (refusal s.direction m.run s.tables (length piece)) 0 ≡ t → Kept s (next s m (feeding form piece last lent))
      by_test true e =
          let accepted : refusal s.direction m.run s.tables (length piece) ≡ 0 = eqb-true _ _ e in
          let low : is_accepted (run_call s.direction m.run s.tables piece last (length lent)).number ≡ true =
          lt-ltb (run_call s.direction m.run s.tables piece last (length lent)).number 10 (omega (arith, answer_low s h m.run m.position m.joined m.ended g.fair piece ok.0 last (length lent) ok.1 ok.2 accepted)) in
          rw low
          (record {
            fair = fair_call s h m.run m.position m.joined m.ended g.fair piece ok.0 last (length lent) ok.1 ok.2 accepted;
            notes = g.notes;
          })
      by_test false e =
          let refused : refusal s.direction m.run s.tables (length piece) ≡ 0 → ⊥ = λ z. false≢true (sym e ∙ eq-eqb _ _ z) in
          let high : is_accepted (run_call s.direction m.run s.tables piece last (length lent)).number ≡ false =
          ap (λ (c : Called). is_accepted c.number) (refused_same s.direction m.run s.tables piece last (length lent) refused)
          ∙ le-ltb _ _ (refusal_named s.direction m.run s.tables (length piece) refused).low in
          rw high g

  kept_saving : (lent : List ℕ) → Kept s (next s m (saving lent))
  unfolding next accepted_by noted_by says write_of
  kept_saving lent = by_room (ltb (length lent) (length (line_of m.run))) refl
    where
      by_room : (t : Bool) → ltb (length lent) (length (line_of m.run)) ≡ t → Kept s (next s m (saving lent))
      by_room true e = rw (g.fair.valid, e) g
      by_room false e = rw (g.fair.valid, e) (record { fair = g.fair; notes = ((m.run, refl, g.fair), g.notes) })

module _ (s : Setting) (h : Proper s) (m : Model) (g : Kept s m) where
  -- the run of a line that was noted
  noted_run : (line : List ℕ) (n : Note) (run : Run) → line ≡ n.line → NoteFair s n → run_of line ≡ some run → Fair s run n.position n.joined n.ended
  noted_run line n run e (r, l, f) q =
      let back : run_of line ≡ some r = ap run_of (e ∙ sym l) ∙ write_read r (representable r f.valid (omega (arith, h.page, f.page)) f.pending) f.valid in
      let same : r ≡ run = cc in
      subst (λ (x : Run). Fair s x n.position n.joined n.ended) same f

  kept_back : (line : List ℕ) (run : Run) (o : Option Note) → noted_beside line m.notes ≡ o → run_of line ≡ some run → (o ≡ none → ⊥) → Found s line o
      → Kept s (set_back_to m (record { number = 0; read = 0; output = []; run = some run }) o)
  unfolding set_back_to Found
  kept_back line run none e q ne f = absurd (ne refl)
  kept_back line run (some n) e q ne f = record { fair = noted_run line n run f.0 f.1 q; notes = g.notes }

  kept_loading : (line : List ℕ) → Allowed s m (loading line) → Kept s (next s m (loading line))
  unfolding next accepted_by says Allowed read_of loaded
  kept_loading line ok = by_run (run_of line) refl
    where
      noted : (run : Run) → run_of line ≡ some run → noted_beside line m.notes ≡ none → ⊥
      noted run q e = by_allowed ok
        where
          by_allowed : ((n : Note) × (noted_beside line m.notes ≡ some n)) ⊎ ((read_of line).number ≡ 18) → ⊥
          by_allowed (inl w) = let z : ◌≡◌ {A = ℕ} 0 1 = cc in omega arith
          by_allowed (inr w) = let z : ◌≡◌ {A = ℕ} 0 18 = sym (rw q) ∙ w in omega arith

      by_run : (o : Option Run) → run_of line ≡ o → Kept s (next s m (loading line))
      by_run none q = rw q g
      by_run (some run) q = rw q (kept_back line run (noted_beside line m.notes) refl q (noted run q) (found_beside s line m.notes g.notes))

  -- ONE CALL of a list, accepted or refused.
  pub kept_next : (c : Call) → Allowed s m c → Kept s (next s m c)
  kept_next (feeding form piece last lent) ok = kept_feeding s h m g form piece last lent ok
  kept_next (saving lent) ok = kept_saving s h m g lent
  kept_next (loading line) ok = kept_loading line ok

-- ---- what a fair model says of the whole reading
whole_steps : (s : Setting) → (is_good (first_fault s.tables) && eqb s.page s.tables.page) ≡ true → whole_of s ≡ uncut (converter_of s.direction s.tables s.policy) s.text
unfolding whole_of
whole_steps s e = rw e (whole_is_feed _ s.policy _ s.text)

whole_idle : (s : Setting) → (is_good (first_fault s.tables) && eqb s.page s.tables.page) ≡ false → whole_of s ≡ halt 0
unfolding whole_of
whole_idle s e = rw e

module _ (s : Setting) (run : Run) (position : ℕ) (joined : List ℕ) (ended : Bool) (g : Fair s run position joined ended) where
  begins_by : (t : Bool) → (is_good (first_fault s.tables) && eqb s.page s.tables.page) ≡ t → Doing t s run joined → (e : Bool) → run.ended ≡ e → (ys : List ℕ) × ((whole_of s).output ≡ joined ++ ys)
  unfolding after halt
  begins_by true q d true e = ([], ap (λ (f : Fed). f.output) (whole_steps s q) ∙ (d.over e).0 ∙ sym (append-nil joined))
  begins_by true q d false e = (_, ap (λ (f : Fed). f.output) (whole_steps s q) ∙ ap (λ (f : Fed). f.output) (d.going e))
  begins_by false q d e z = ([], ap (λ (f : Fed). f.output) (whole_idle s q) ∙ sym (append-nil joined ∙ d.joined_none))

  -- The joined output is a beginning of the whole reading's.
  pub fair_begins : (ys : List ℕ) × ((whole_of s).output ≡ joined ++ ys)
  fair_begins = begins_by (is_good (first_fault s.tables) && eqb s.page s.tables.page) refl g.doing run.ended refl

  whole_by : (t : Bool) → (is_good (first_fault s.tables) && eqb s.page s.tables.page) ≡ t → Doing t s run joined → run.ended ≡ true
      → (joined ≡ (whole_of s).output) × (run.flags ≡ (whole_of s).flags) × (run.read ≡ (whole_of s).used) × (run.written ≡ length (whole_of s).output)
  whole_by true q d e =
      let w = whole_steps s q in
      let o : joined ≡ (whole_of s).output = sym (ap (λ (f : Fed). f.output) w ∙ (d.over e).0) in
      (o, sym (ap (λ (f : Fed). f.flags) w ∙ (d.over e).1), sym (ap (λ (f : Fed). f.used) w ∙ (d.over e).2), g.written ∙ ap length o)
  whole_by false q d e = absurd (true≢false (sym e ∙ d.going))

  -- Once ended, the joined output, the flags and the totals are those of the whole reading.
  pub fair_whole : ended ≡ true → (joined ≡ (whole_of s).output) × (run.flags ≡ (whole_of s).flags) × (run.read ≡ (whole_of s).used) × (run.written ≡ length (whole_of s).output)
  fair_whole e = whole_by (is_good (first_fault s.tables) && eqb s.page s.tables.page) refl g.doing (g.end ∙ e)

-- ---- a line that is written twice is noted alike
front_of : (s : Setting) (run : Run) (position : ℕ) (joined : List ℕ) (ended : Bool) → Fair s run position joined ended → joined ≡ take run.written (whole_of s).output
front_of s run position joined ended f =
    let b = fair_begins s run position joined ended f in
    sym (ap (take run.written) b.1 ∙ take_at joined b.0 run.written (sym f.written))

-- Two fair notes beside one line agree.
pub notes_alike : (s : Setting) → Proper s → (n k : Note) → NoteFair s n → NoteFair s k → n.line ≡ k.line → (n.position ≡ k.position) × (n.joined ≡ k.joined) × (n.ended ≡ k.ended)
notes_alike s h n k (a, la, f) (b, lb, g) e =
    let same : a ≡ b =
    one_line_one_run a b (representable a f.valid (omega (arith, h.page, f.page)) f.pending) f.valid (representable b g.valid (omega (arith, h.page, g.page)) g.pending) g.valid
    (la ∙ e ∙ sym lb) in (
      sym f.read ∙ ap (λ (r : Run). r.read) same ∙ g.read,
      front_of s a _ _ _ f ∙ ap (λ (r : Run). take r.written (whole_of s).output) same ∙ sym (front_of s b _ _ _ g),
      sym f.end ∙ ap (λ (r : Run). r.ended) same ∙ g.end,
    )
