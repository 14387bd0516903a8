-- Each number of a run call exactly in its case, of the call itself.
use mathlib.Core.Bool.{Bool, true, false, false≢true}
use mathlib.Core.List.{List, [], ◌∷◌, ◌++◌}
use mathlib.Core.Logic.{◌↔◌, ◌⊎◌, inl, inr}
use mathlib.Core.Option.{Option, none, some}
use mathlib.Core.Path.{◌≡◌, refl, sym, ap, ◌∙◌, subst}
use Prim.Native.Nat.{ℕ, ◌+◌, ◌-◌, ◌<◌, ◌≤◌}
use native.Mathlib.Omega.{arith}
use lib.Dec.{eqb}
use lib.ListN.{length, get_or, length-append}
use borrow.Author.Tests.{eqb-true, eqb-false, eq-eqb, ne_eqb}
use Rattle.codepage.specs.CodePage.{CodePage, pick}
use Rattle.codepage.specs.Reading.{Reader, Code, codes_at_end, call_codes, left_pending, as_units}
use Rattle.codepage.proofs.ReadingLaws.{sizes_of, sizes_cover}
use Rattle.engine.specs.declared.Direction.{Direction}
use Rattle.engine.specs.declared.Direction.TheVariants.{Decoding, Encoding}
use Rattle.engine.specs.Engine.{Converter, converter, converter_of, reader_of, limit, Fed, at_end}
use Rattle.engine.proofs.EngineLaws.{Shape}
use Rattle.engine.proofs.AnswerLaws.{Goes, StopsAt, NoRoomAt, Exact, answers_exact, AnswerCases, answer_cases}
use Rattle.convert.specs.declared.Pending.{Pending}
use Rattle.convert.specs.declared.Pending.TheVariants.{Nothing, Byte, High}
use Rattle.convert.specs.declared.Run.{Run}
use Rattle.convert.specs.Calls.{refusal, Called, pending_unit, pending_count, pending_as, final_unit, units_read, pending_after, ended_after, run_after, fed_by, accepted_call, refused_call, run_call}
use Rattle.convert.proofs.CallLaws.{Accepted, accepted_facts, pending_units, count_le_one, valid_in, final_as, feed_shape}
use Rattle.convert.proofs.RefusalLaws.{Cases, AllPass, accepted_of, refusals_exact}
use Rattle.convert.proofs.RunLaws.{refused_same}

-- The codes of a call: those of the pending unit and the piece. Neither room nor policy changes them.
abbrev pub codes_of_call : Direction → Run → CodePage → (piece : List ℕ) → (last : Bool) → List Code
codes_of_call direction run p piece last = call_codes (reader_of direction p) last (pending_unit run.pending) piece

-- One of them stops the call: all before it are taken.
abbrev pub Stops : Direction → Run → CodePage → (piece : List ℕ) → (last : Bool) → (room : ℕ) → Type 0
Stops direction run p piece last room = StopsAt (converter_of direction p run.policy) (limit room) (codes_of_call direction run p piece last)

-- One of them does not fit: all before it are taken.
abbrev pub DoesNotFit : Direction → Run → CodePage → (piece : List ℕ) → (last : Bool) → (room : ℕ) → Type 0
DoesNotFit direction run p piece last room = NoRoomAt (converter_of direction p run.policy) (limit room) (codes_of_call direction run p piece last)

-- Document 01's table of numbers, 0 to 3 and 10 to 16, and when the run ends. `AllPass`: the call passes every check.
pub record Numbers (direction : Direction) (run : Run) (p : CodePage) (piece : List ℕ) (last : Bool) (room : ℕ) (c : Called) : Type 0 where
  -- all read, nothing pending, not stopped
  pub all_read : (c.number ≡ 0) ↔ (AllPass direction run p (length piece) × (c.read ≡ length piece) × (c.run.pending ≡ Nothing) × (Stops direction run p piece last room → ⊥))
  -- call not marked last: all read, a lead or a high surrogate is pending
  pub waits : (c.number ≡ 1)
      ↔ (AllPass direction run p (length piece) × (last ≡ false) × (c.read ≡ length piece) × ((unit : ℕ) × (c.run.pending ≡ pending_as direction unit) × ((reader_of direction p).waits unit ≡ true)))
  -- the next code does not fit
  pub full : (c.number ≡ 2) ↔ (AllPass direction run p (length piece) × DoesNotFit direction run p piece last room)
  -- stopped by policy 0
  pub stopped : (c.number ≡ 3) ↔ (AllPass direction run p (length piece) × Stops direction run p piece last room)
  -- 10 to 16: the first check that fails
  pub refused : Cases direction run p (length piece) c.number
  -- an accepted call ends the run by a stop, or marked last with all read and nothing pending
  pub ended : AllPass direction run p (length piece) → (c.run.ended ≡ true) ↔ ((c.number ≡ 3) ⊎ ((last ≡ true) × (c.read ≡ length piece) × (c.run.pending ≡ Nothing)))

-- ---- an accepted call
-- a pending unit is not nothing
some_pending : (direction : Direction) (unit : ℕ) → pending_as direction unit ≡ Nothing → ⊥
some_pending Decoding unit e = let z : ◌≡◌ {A = ℕ} 1 0 = ap pending_count e in omega arith
some_pending Encoding unit e = let z : ◌≡◌ {A = ℕ} 1 0 = ap pending_count e in omega arith

module _ (direction : Direction) (run : Run) (p : CodePage) (piece : List ℕ) (last : Bool) (room : ℕ) (a : Accepted direction run p (length piece)) where
  abbrev v : Converter
  v = converter_of direction p run.policy

  abbrev ks : List Code
  ks = codes_of_call direction run p piece last

  abbrev still_pending : Option ℕ
  still_pending = left_pending (reader_of direction p) last (pending_unit run.pending) piece

  f : Fed
  f = fed_by direction run p piece last room

  abbrev pending' : Pending
  pending' = pending_after run.direction run.pending piece f.answer f.used

  abbrev read' : ℕ
  read' = units_read run.pending (length piece) f.answer f.used

  formed : Shape v last (pending_units run.pending ++ piece) f
  unfolding f
  formed = feed_shape direction run p piece last room a

  units : length (pending_units run.pending ++ piece) ≡ pending_count run.pending + length piece
  units = length-append (pending_units run.pending) piece

  exact : Exact v (limit room) ks still_pending f
  unfolding f fed_by converter
  exact = answers_exact v last (limit room) (pending_unit run.pending) piece

  cases : AnswerCases v (limit room) ks still_pending f.answer
  cases = answer_cases v (limit room) ks still_pending f exact

  -- what is read and pending then
  read_used : (f.answer ≡ 1 → ⊥) → read' ≡ f.used - pending_count run.pending
  unfolding units_read
  read_used e = rw (ne_eqb _ _ e)

  pending_settled : (f.answer ≡ 1 → ⊥) → (f.used ≡ 0 → ⊥) → pending' ≡ Nothing
  unfolding pending_after
  pending_settled e u = rw (ne_eqb _ _ e, ne_eqb _ _ u)

  pending_same : (f.answer ≡ 1 → ⊥) → f.used ≡ 0 → pending' ≡ run.pending
  unfolding pending_after
  pending_same e u = rw (ne_eqb _ _ e, eq-eqb _ _ u)

  none_pending : (pending : Pending) → pending_count pending ≡ 0 → pending ≡ Nothing
  none_pending Nothing e = refl
  none_pending (Byte byte) e = absurd (omega arith)
  none_pending (High unit) e = absurd (omega arith)

  -- 0
  zero_read : f.answer ≡ 0 → read' ≡ length piece
  zero_read e = read_used (λ q. omega arith) ∙ omega (arith, formed.all e, units)

  zero_pending : f.answer ≡ 0 → pending' ≡ Nothing
  zero_pending e = by_used (eqb f.used 0) refl
    where
      by_used : (t : Bool) → eqb f.used 0 ≡ t → pending' ≡ Nothing
      by_used true u = pending_same (λ q. omega arith) (eqb-true _ _ u) ∙ none_pending run.pending (omega (arith, formed.all e, units, eqb-true f.used 0 u))
      by_used false u = pending_settled (λ q. omega arith) (eqb-false _ _ u)

  -- 1
  one_read : f.answer ≡ 1 → read' ≡ length piece
  unfolding units_read
  one_read e = rw (eq-eqb _ _ e)

  one_pending : f.answer ≡ 1 → (unit : ℕ) × (pending' ≡ pending_as direction unit) × ((reader_of direction p).waits unit ≡ true)
  unfolding pending_after converter
  one_pending e = (
    get_or (pending_units run.pending ++ piece) f.used 0,
    rw (eq-eqb _ _ e) (ap (λ (d : Direction). final_unit d run.pending piece) (sym a.same) ∙ final_as direction run.pending piece f.used (valid_in run direction a.same a.valid) (formed.holds e).0),
    (formed.holds e).1,
  )

  -- 2: something is left, in the piece or pending
  sizes_split : (xs : List Code) (k : Code) (ys : List Code) → sizes_of xs < sizes_of (xs ++ (k ∷ ys))
  sizes_split [] k ys = omega arith
  sizes_split (x ∷ xs) k ys = omega (arith, sizes_split xs k ys)

  used_less : DoesNotFit direction run p piece last room → f.used < pending_count run.pending + length piece
  used_less n =
      let all : sizes_of ks + length (as_units still_pending) ≡ length (as_units (pending_unit run.pending)) + length piece =
      sizes_cover (reader_of direction p) last (pending_unit run.pending) piece in
      let part : sizes_of n.taken < sizes_of ks = subst (λ (l : List Code). sizes_of n.taken < sizes_of l) (sym n.split) (sizes_split n.taken n.code n.behind) in
      omega (arith, ap (λ (x : Fed). x.used) (exact.full n))

  not_all : DoesNotFit direction run p piece last room → f.answer ≡ 2 → read' ≡ length piece → pending' ≡ Nothing → ⊥
  not_all n e r q = by_used (eqb f.used 0) refl
    where
      by_used : (t : Bool) → eqb f.used 0 ≡ t → ⊥
      by_used true u =
          let none : pending_count run.pending ≡ 0 = ap pending_count (sym (pending_same (λ z. omega arith) (eqb-true _ _ u)) ∙ q) in
          omega (arith, used_less n, read_used (λ z. omega arith), eqb-true f.used 0 u)
      by_used false u = omega (arith, used_less n, read_used (λ z. omega arith), eqb-false f.used 0 u, count_le_one run.pending)

  -- in a call not marked last there is no code in an empty piece
  no_codes : (r : Reader) (pending : Option ℕ) (piece : List ℕ) (xs : List Code) (k : Code) (ys : List Code) → length piece ≡ 0 → call_codes r false pending piece ≡ xs ++ (k ∷ ys) → ⊥
  unfolding call_codes codes_at_end
  no_codes r none [] xs k ys e q = omega (arith, sizes_split xs k ys, ap sizes_of q)
  no_codes r (some c) [] xs k ys e q = omega (arith, sizes_split xs k ys, ap sizes_of q)
  no_codes r pending (b ∷ l) xs k ys e q = omega arith

  not_pending : last ≡ false → DoesNotFit direction run p piece last room → f.answer ≡ 2 → read' ≡ length piece → (unit : ℕ) → pending' ≡ pending_as direction unit → ⊥
  not_pending l n e r unit q = by_used (eqb f.used 0) refl
    where
      by_used : (t : Bool) → eqb f.used 0 ≡ t → ⊥
      by_used true u =
          no_codes (reader_of direction p) (pending_unit run.pending) piece n.taken n.code n.behind
          (omega (arith, read_used (λ z. omega arith), eqb-true f.used 0 u))
          (subst (λ (t : Bool). call_codes (reader_of direction p) t (pending_unit run.pending) piece ≡ n.taken ++ (n.code ∷ n.behind)) l n.split)
      by_used false u =
          some_pending direction unit (sym q ∙ pending_settled (λ z. omega arith) (eqb-false _ _ u))

  -- 3
  three_pending : f.answer ≡ 3 → pending' ≡ Nothing
  three_pending e = pending_settled (λ q. omega arith) (λ q. omega (arith, formed.reads e))

  -- ---- the other way round
  abbrev StaysPending : Type 0
  StaysPending = (unit : ℕ) × (pending' ≡ pending_as direction unit) × ((reader_of direction p).waits unit ≡ true)

  other_pending : (unit : ℕ) → pending' ≡ Nothing → pending' ≡ pending_as direction unit → ⊥
  other_pending unit e q = some_pending direction unit (sym q ∙ e)

  is_zero : read' ≡ length piece → pending' ≡ Nothing → (Stops direction run p piece last room → ⊥) → f.answer ≡ 0
  is_zero r q s = by_case exact.one_of_them
    where
      by_answer : (t : Bool) → eqb f.answer 0 ≡ t → f.answer ≤ 1 → f.answer ≡ 0
      by_answer true e h = eqb-true _ _ e
      by_answer false e h =
          let pending = one_pending (omega (arith, eqb-false f.answer 0 e)) in
          absurd (other_pending pending.0 q pending.1)

      low : (w : Option ℕ) → f.answer ≡ at_end w → f.answer ≤ 1
      low none e = omega arith
      low (some c) e = omega arith

      by_case : Goes v (limit room) ks ⊎ (StopsAt v (limit room) ks ⊎ NoRoomAt v (limit room) ks) → f.answer ≡ 0
      by_case (inl g) = by_answer (eqb f.answer 0) refl (low still_pending (ap (λ (x : Fed). x.answer) (exact.all_taken g)))
      by_case (inr (inl g)) = absurd (s g)
      by_case (inr (inr g)) = absurd (not_all g (cases.full.1 g) r q)

  is_one : last ≡ false → read' ≡ length piece → StaysPending → f.answer ≡ 1
  is_one l r (byte, q, w) = by_case exact.one_of_them
    where
      low : (w : Option ℕ) → f.answer ≡ at_end w → f.answer ≡ 1
      low none e = absurd (other_pending byte (zero_pending e) q)
      low (some c) e = e

      by_case : Goes v (limit room) ks ⊎ (StopsAt v (limit room) ks ⊎ NoRoomAt v (limit room) ks) → f.answer ≡ 1
      by_case (inl g) = low still_pending (ap (λ (x : Fed). x.answer) (exact.all_taken g))
      by_case (inr (inl g)) = absurd (other_pending byte (three_pending (cases.stopped.1 g)) q)
      by_case (inr (inr g)) = absurd (not_pending l g (cases.full.1 g) r byte q)

  not_both_ways : f.answer ≡ 0 → Stops direction run p piece last room → ⊥
  not_both_ways e s = omega (arith, cases.stopped.1 s)

  ended_by : (ended_after last f.answer ≡ true) ↔ ((f.answer ≡ 3) ⊎ ((last ≡ true) × (f.answer ≡ 0)))
  unfolding ended_after
  ended_by = by_answer (eqb f.answer 3) (eqb f.answer 0) refl refl
    where
      by_answer : (s z : Bool) → eqb f.answer 3 ≡ s → eqb f.answer 0 ≡ z → (pick s true (pick z last false) ≡ true) ↔ ((f.answer ≡ 3) ⊎ ((last ≡ true) × (f.answer ≡ 0)))
      by_answer true z e q = (λ h. inl (eqb-true _ _ e), λ h. refl)
      by_answer false true e q = (λ h. inr (h, eqb-true _ _ q), λ h. right h)
        where
          right : (f.answer ≡ 3) ⊎ ((last ≡ true) × (f.answer ≡ 0)) → last ≡ true
          right (inl h) = absurd (eqb-false _ _ e h)
          right (inr h) = h.0
      by_answer false false e q = (λ h. absurd (false≢true h), λ h. neither h)
        where
          neither : (f.answer ≡ 3) ⊎ ((last ≡ true) × (f.answer ≡ 0)) → false ≡ true
          neither (inl h) = absurd (eqb-false _ _ e h)
          neither (inr h) = absurd (eqb-false _ _ q h.1)

  ended_when : (ended_after last f.answer ≡ true) ↔ ((f.answer ≡ 3) ⊎ ((last ≡ true) × (read' ≡ length piece) × (pending' ≡ Nothing)))
  ended_when = (λ e. there (ended_by.0 e), λ h. ended_by.1 (back (eqb f.answer 3) refl h))
    where
      there : (f.answer ≡ 3) ⊎ ((last ≡ true) × (f.answer ≡ 0)) → (f.answer ≡ 3) ⊎ ((last ≡ true) × (read' ≡ length piece) × (pending' ≡ Nothing))
      there (inl e) = inl e
      there (inr h) = inr (h.0, zero_read h.1, zero_pending h.1)

      back : (t : Bool) → eqb f.answer 3 ≡ t → (f.answer ≡ 3) ⊎ ((last ≡ true) × (read' ≡ length piece) × (pending' ≡ Nothing)) → (f.answer ≡ 3) ⊎ ((last ≡ true) × (f.answer ≡ 0))
      back true q h = inl (eqb-true _ _ q)
      back false q (inl e) = inl e
      back false q (inr h) = inr (h.0, is_zero h.1 h.2 (λ s. eqb-false _ _ q (cases.stopped.1 s)))

-- ---- every call
module _ (direction : Direction) (run : Run) (p : CodePage) (piece : List ℕ) (last : Bool) (room : ℕ) where
  abbrev count : ℕ
  count = length piece

  abbrev call : Called
  call = run_call direction run p piece last room

  call_accepted : refusal direction run p count ≡ 0 → call ≡ accepted_call run piece last (fed_by direction run p piece last room)
  unfolding run_call
  call_accepted e = rw (eq-eqb (refusal direction run p count) 0 e)

  -- a refused call's number is that of the refusal, an accepted one's is at most 3
  pub low_number : refusal direction run p count ≡ 0 → call.number ≤ 3
  unfolding accepted_call
  low_number e = omega (arith, ap (λ (c : Called). c.number) (call_accepted e), (feed_shape direction run p piece last room (accepted_facts direction run p count e)).known)

  -- A refused call answers the number of its refusal.
  pub refused_number : (refusal direction run p count ≡ 0 → ⊥) → call.number ≡ refusal direction run p count
  unfolding refused_call
  refused_number e = ap (λ (c : Called). c.number) (refused_same direction run p piece last room e)

  same_number : (k : ℕ) → 10 ≤ k → (call.number ≡ k) ↔ (refusal direction run p count ≡ k)
  same_number k h = by_test (eqb (refusal direction run p count) 0) refl
    where
      by_test : (t : Bool) → eqb (refusal direction run p count) 0 ≡ t → (call.number ≡ k) ↔ (refusal direction run p count ≡ k)
      by_test true e =
          let z = eqb-true _ _ e in
          (λ q. absurd (omega (arith, low_number z)), λ q. absurd (omega arith))
      by_test false e = (λ q. sym (refused_number (eqb-false _ _ e)) ∙ q, λ q. refused_number (eqb-false _ _ e) ∙ q)

  accepted_number : (call.number < 10) ↔ AllPass direction run p count
  accepted_number = (λ h. (refusals_exact direction run p count).accepted.0 (low h), λ h. omega (arith, low_number (accepted_of direction run p count h)))
    where
      low : call.number < 10 → refusal direction run p count < 10
      low h = by_test (eqb (refusal direction run p count) 0) refl
        where
          by_test : (t : Bool) → eqb (refusal direction run p count) 0 ≡ t → refusal direction run p count < 10
          by_test true e = omega (arith, eqb-true (refusal direction run p count) 0 e)
          by_test false e = omega (arith, refused_number (eqb-false _ _ e))

  via : {A : Type 0} (k : ℕ) → 10 ≤ k → (refusal direction run p count ≡ k) ↔ A → (call.number ≡ k) ↔ A
  via k h e = (λ q. e.0 ((same_number k h).0 q), λ q. (same_number k h).1 (e.1 q))

  -- EACH REFUSAL exactly in its case, of the call itself.
  pub call_refusals : Cases direction run p count call.number
  call_refusals =
      let r = refusals_exact direction run p count in
      record {
        bad_shape = via 10 (omega arith) r.bad_shape;
        too_long = via 11 (omega arith) r.too_long;
        invalid_run = via 12 (omega arith) r.invalid_run;
        other_run = via 13 (omega arith) r.other_run;
        not_lead = via 14 (omega arith) r.not_lead;
        ended = via 15 (omega arith) r.ended;
        read_limit = via 16 (omega arith) r.read_limit;
        accepted = accepted_number;
      }

  -- the facts of an accepted call, and what it gives
  facts : AllPass direction run p count → Accepted direction run p count
  facts h = accepted_facts direction run p count (accepted_of direction run p count h)

  is_call : AllPass direction run p count → call ≡ accepted_call run piece last (fed_by direction run p piece last room)
  is_call h = call_accepted (accepted_of direction run p count h)

  pass_of : (k : ℕ) → k < 10 → call.number ≡ k → AllPass direction run p count
  pass_of k h e = accepted_number.0 (omega arith)

  -- THE NUMBERS OF A RUN CALL, each exactly in its case.
  pub numbers_exact : Numbers direction run p piece last room call
  unfolding accepted_call run_after f
  numbers_exact =
      record {
        all_read = (
          λ e. let h = pass_of 0 (omega arith) e in
              let a = facts h in
              let q = sym (ap (λ (c : Called). c.number) (is_call h)) ∙ e in (
                h,
                ap (λ (c : Called). c.read) (is_call h) ∙ zero_read direction run p piece last room a q,
                ap (λ (c : Called). c.run.pending) (is_call h) ∙ zero_pending direction run p piece last room a q,
                not_both_ways direction run p piece last room a q,
              ),
          λ (h, r, q, s). ap (λ (c : Called). c.number) (is_call h)
              ∙ is_zero direction run p piece last room (facts h) (sym (ap (λ (c : Called). c.read) (is_call h)) ∙ r) (sym (ap (λ (c : Called). c.run.pending) (is_call h)) ∙ q) s,
        );
        waits = (
          λ e. let h = pass_of 1 (omega arith) e in
              let a = facts h in
              let q = sym (ap (λ (c : Called). c.number) (is_call h)) ∙ e in
              let w = one_pending direction run p piece last room a q in (
                h,
                ((formed direction run p piece last room a).holds q).2,
                ap (λ (c : Called). c.read) (is_call h) ∙ one_read direction run p piece last room a q,
                (w.0, ap (λ (c : Called). c.run.pending) (is_call h) ∙ w.1, w.2),
              ),
          λ (h, l, r, (byte, q, w)). ap (λ (c : Called). c.number) (is_call h)
              ∙ is_one direction run p piece last room (facts h) l (sym (ap (λ (c : Called). c.read) (is_call h)) ∙ r) (byte, sym (ap (λ (c : Called). c.run.pending) (is_call h)) ∙ q, w),
        );
        full = (
          λ e. let h = pass_of 2 (omega arith) e in
              (h, (cases direction run p piece last room (facts h)).full.0 (sym (ap (λ (c : Called). c.number) (is_call h)) ∙ e)),
          λ (h, n). ap (λ (c : Called). c.number) (is_call h) ∙ (cases direction run p piece last room (facts h)).full.1 n,
        );
        stopped = (
          λ e. let h = pass_of 3 (omega arith) e in
              (h, (cases direction run p piece last room (facts h)).stopped.0 (sym (ap (λ (c : Called). c.number) (is_call h)) ∙ e)),
          λ (h, n). ap (λ (c : Called). c.number) (is_call h) ∙ (cases direction run p piece last room (facts h)).stopped.1 n,
        );
        refused = call_refusals;
        ended = λ h. rw (is_call h) (ended_when direction run p piece last room (facts h));
      }
