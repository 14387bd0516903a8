-- Each number of the call on a whole text exactly in its case.
use mathlib.Core.Bool.{Bool, true, false, false≢true}
use mathlib.Core.List.{List}
use mathlib.Core.Logic.{◌↔◌}
use mathlib.Core.Option.{none}
use mathlib.Core.Path.{◌≡◌, refl, sym, ap, ◌∙◌}
use Prim.Native.Nat.{ℕ, ◌<◌, ◌≤◌}
use native.Mathlib.Omega.{arith}
use lib.Dec.{leb, ltb, eqb}
use lib.ListN.{length}
use borrow.Author.Tests.{eqb-true, eqb-false, leb-true, leb-false, ltb-true, ltb-false, eq-eqb, ne_eqb}
use Rattle.codepage.specs.CodePage.{CodePage, pick, GoodShape, first_fault, is_good}
use Rattle.codepage.specs.Reading.{Code, codes}
use Rattle.codepage.proofs.ReadingLaws.{none_waits}
use Rattle.codepage.proofs.ShapeLaws.{shape_exact}
use Rattle.engine.specs.declared.Direction.{Direction}
use Rattle.engine.specs.declared.Policy.{Policy}
use Rattle.engine.specs.Policies.{policy_allowed}
use Rattle.engine.specs.Engine.{Converter, converter, converter_of, reader_of, limit, endless, Fed, take_codes, feed_from}
use Rattle.engine.proofs.AnswerLaws.{Goes, StopsAt, NoRoomAt, codes_exact, AnswerCases, answer_cases}
use Rattle.engine.proofs.EngineLaws.{shape_from}
use Rattle.convert.specs.Runs.{piece_limit}
use Rattle.convert.specs.Calls.{check}
use Rattle.convert.proofs.RuleLaws.{Digits, digits_allowed}
use Rattle.oneshot.specs.Texts.{text_refusal, Text, answer_of, accepted_text, refused_text, text_fed, text_of}
use Rattle.oneshot.proofs.TextLaws.{never_full, answer_is}

-- What the checks that pass say: 17, 10, 11.
abbrev pub PolicyShape : Direction → Policy → CodePage → Type 0
PolicyShape direction policy p = Digits direction policy × GoodShape p

abbrev pub TextPasses : Direction → Policy → CodePage → ℕ → Type 0
TextPasses direction policy p count = PolicyShape direction policy p × (count ≤ piece_limit)

-- Each refusal, and acceptance, exactly in its case: it is the first check that fails.
pub record TextCases (direction : Direction) (policy : Policy) (p : CodePage) (count number : ℕ) : Type 0 where
  pub bad_policy : (number ≡ 17) ↔ (Digits direction policy → ⊥)
  pub bad_shape : (number ≡ 10) ↔ (Digits direction policy × (GoodShape p → ⊥))
  pub too_long : (number ≡ 11) ↔ (PolicyShape direction policy p × (piece_limit < count))
  pub accepted : (number < 10) ↔ TextPasses direction policy p count

-- The numbers of the call: 0 all codes are taken, 2 one of them does not fit, 3 one of them stops; never 1; 17, 10, 11. And 2 said
-- without the codes: the need of the whole reading is over the room.
pub record TextNumbers (direction : Direction) (policy : Policy) (p : CodePage) (text : List ℕ) (room : ℕ) (t : Text) : Type 0 where
  pub all_read : (t.number ≡ 0) ↔ (TextPasses direction policy p (length text) × Goes (converter_of direction p policy) (limit room) (codes (reader_of direction p) text))
  pub full : (t.number ≡ 2) ↔ (TextPasses direction policy p (length text) × NoRoomAt (converter_of direction p policy) (limit room) (codes (reader_of direction p) text))
  pub stopped : (t.number ≡ 3) ↔ (TextPasses direction policy p (length text) × StopsAt (converter_of direction p policy) (limit room) (codes (reader_of direction p) text))
  pub over_room : (t.number ≡ 2) ↔ (TextPasses direction policy p (length text) × (room < length (text_fed direction policy p endless text).output))
  pub never_waits : t.number ≡ 1 → ⊥
  pub refused : TextCases direction policy p (length text) t.number

module _ (direction : Direction) (policy : Policy) (p : CodePage) where
  abbrev number_by : (a b c : Bool) → ℕ
  number_by a b c = check 17 a (check 10 b (check 11 c 0))

  refused_by : (count : ℕ) (a b c : Bool) → policy_allowed direction policy ≡ a → is_good (first_fault p) ≡ b → leb count piece_limit ≡ c → TextCases direction policy p count (number_by a b c)
  refused_by count false b c ea eb ec =
      let no : Digits direction policy → ⊥ = λ d. false≢true (sym ea ∙ (digits_allowed direction policy).1 d) in
      record {
        bad_policy = (λ e. no, λ h. refl);
        bad_shape = (λ e. absurd (omega arith), λ h. absurd (no h.0));
        too_long = (λ e. absurd (omega arith), λ h. absurd (no h.0.0));
        accepted = (λ e. absurd (omega arith), λ h. absurd (no h.0.0));
      }
  refused_by count true false c ea eb ec =
      let yes : Digits direction policy = (digits_allowed direction policy).0 ea in
      let no : GoodShape p → ⊥ = λ g. false≢true (sym eb ∙ (shape_exact p).1 g) in
      record {
        bad_policy = (λ e. absurd (omega arith), λ h. absurd (h yes));
        bad_shape = (λ e. (yes, no), λ h. refl);
        too_long = (λ e. absurd (omega arith), λ h. absurd (no h.0.1));
        accepted = (λ e. absurd (omega arith), λ h. absurd (no h.0.1));
      }
  refused_by count true true false ea eb ec =
      let yes : PolicyShape direction policy p = ((digits_allowed direction policy).0 ea, (shape_exact p).0 eb) in
      let long : piece_limit < count = leb-false _ _ ec in
      record {
        bad_policy = (λ e. absurd (omega arith), λ h. absurd (h yes.0));
        bad_shape = (λ e. absurd (omega arith), λ h. absurd (h.1 yes.1));
        too_long = (λ e. (yes, long), λ h. refl);
        accepted = (λ e. absurd (omega arith), λ h. absurd (omega (arith, h.1)));
      }
  refused_by count true true true ea eb ec =
      let yes : PolicyShape direction policy p = ((digits_allowed direction policy).0 ea, (shape_exact p).0 eb) in
      let short : count ≤ piece_limit = leb-true _ _ ec in
      record {
        bad_policy = (λ e. absurd (omega arith), λ h. absurd (h yes.0));
        bad_shape = (λ e. absurd (omega arith), λ h. absurd (h.1 yes.1));
        too_long = (λ e. absurd (omega arith), λ h. absurd (omega (arith, h.1)));
        accepted = (λ e. (yes, short), λ h. omega arith);
      }

  text_refusals : (count : ℕ) → TextCases direction policy p count (text_refusal direction policy p count)
  unfolding text_refusal
  text_refusals count = refused_by count _ _ _ refl refl refl

  -- the refusal's number is 0, 10, 11 or 17
  known_by : (a b c : Bool) → number_by a b c < 10 → number_by a b c ≡ 0
  known_by false b c h = absurd (omega arith)
  known_by true false c h = absurd (omega arith)
  known_by true true false h = absurd (omega arith)
  known_by true true true h = refl

  accepted_zero : (count : ℕ) → text_refusal direction policy p count < 10 → text_refusal direction policy p count ≡ 0
  unfolding text_refusal
  accepted_zero count h = known_by (policy_allowed direction policy) (is_good (first_fault p)) (leb count piece_limit) h

module _ (direction : Direction) (policy : Policy) (p : CodePage) (text : List ℕ) (room : ℕ) where
  abbrev v : Converter
  v = converter_of direction p policy

  abbrev ks : List Code
  ks = codes (reader_of direction p) text

  abbrev given : Text
  given = text_of direction policy p text room

  abbrev refused_with : ℕ
  refused_with = text_refusal direction policy p (length text)

  fed_codes : feed_from v true (limit room) none text ≡ take_codes v (limit room) ks none
  unfolding feed_from codes converter
  fed_codes = ap (take_codes v (limit room) ks) (none_waits (reader_of direction p) none text)

  cases : AnswerCases v (limit room) ks none (take_codes v (limit room) ks none).answer
  cases = answer_cases v (limit room) ks none _ (codes_exact v (limit room) ks none)

  accepted_is : refused_with ≡ 0 → given.number ≡ (take_codes v (limit room) ks none).answer
  unfolding text_of accepted_text text_fed
  accepted_is e = rw (eq-eqb refused_with 0 e) (answer_is v room text ∙ ap (λ (f : Fed). f.answer) fed_codes)

  -- by the need: 2 or another number
  by_need : refused_with ≡ 0 → given.number ≡ answer_of (text_fed direction policy p endless text) room
  unfolding text_of accepted_text
  by_need e = rw (eq-eqb refused_with 0 e)

  need_over : refused_with ≡ 0 → (given.number ≡ 2) ↔ (room < length (text_fed direction policy p endless text).output)
  unfolding answer_of text_fed
  need_over e = by_room (ltb room (length (text_fed direction policy p endless text).output)) refl
    where
      by_room : (t : Bool) → ltb room (length (text_fed direction policy p endless text).output) ≡ t → (given.number ≡ 2) ↔ (room < length (text_fed direction policy p endless text).output)
      by_room true q = (λ z. ltb-true _ _ q, λ h. by_need e ∙ ap (λ (b : Bool). pick b 2 (text_fed direction policy p endless text).answer) q)
      by_room false q =
          let whole = by_need e ∙ ap (λ (b : Bool). pick b 2 (text_fed direction policy p endless text).answer) q in
          (λ z. absurd (never_full v true none text (sym whole ∙ z)), λ h. absurd (omega (arith, ltb-false room (length (text_fed direction policy p endless text).output) q)))

  refused_is : (refused_with ≡ 0 → ⊥) → given.number ≡ refused_with
  unfolding text_of refused_text
  refused_is e = rw (ne_eqb refused_with 0 e)

  low : refused_with ≡ 0 → given.number ≤ 3
  low e = omega (arith, accepted_is e, ap (λ (f : Fed). f.answer) fed_codes, (shape_from v true (limit room) none text tt).known)

  same : (k : ℕ) → 10 ≤ k → (given.number ≡ k) ↔ (refused_with ≡ k)
  same k h = by_test (eqb refused_with 0) refl
    where
      by_test : (t : Bool) → eqb refused_with 0 ≡ t → (given.number ≡ k) ↔ (refused_with ≡ k)
      by_test true e = (λ q. absurd (omega (arith, low (eqb-true _ _ e))), λ q. absurd (omega (arith, eqb-true refused_with 0 e)))
      by_test false e = (λ q. sym (refused_is (eqb-false _ _ e)) ∙ q, λ q. refused_is (eqb-false _ _ e) ∙ q)

  via : {A : Type 0} (k : ℕ) → 10 ≤ k → (refused_with ≡ k) ↔ A → (given.number ≡ k) ↔ A
  via k h e = (λ q. e.0 ((same k h).0 q), λ q. (same k h).1 (e.1 q))

  passes : given.number < 10 → TextPasses direction policy p (length text)
  passes h = (text_refusals direction policy p (length text)).accepted.0 (by_test (eqb refused_with 0) refl)
    where
      by_test : (t : Bool) → eqb refused_with 0 ≡ t → refused_with < 10
      by_test true e = omega (arith, eqb-true refused_with 0 e)
      by_test false e = omega (arith, refused_is (eqb-false _ _ e))

  zero_of : TextPasses direction policy p (length text) → refused_with ≡ 0
  zero_of h = accepted_zero direction policy p (length text) ((text_refusals direction policy p (length text)).accepted.1 h)

  answer_of_lem : (k : ℕ) → k < 10 → given.number ≡ k → (take_codes v (limit room) ks none).answer ≡ k
  answer_of_lem k h e = sym (accepted_is (zero_of (passes (omega arith)))) ∙ e

  -- EACH NUMBER EXACTLY IN ITS CASE, with any room, also with none (counting).
  pub text_numbers : TextNumbers direction policy p text room given
  text_numbers =
      let r = text_refusals direction policy p (length text) in
      record {
        all_read = (λ e. (passes (omega arith), (cases.all_read.0 (answer_of_lem 0 (omega arith) e)).0), λ h. accepted_is (zero_of h.0) ∙ cases.all_read.1 (h.1, refl));
        full = (λ e. (passes (omega arith), cases.full.0 (answer_of_lem 2 (omega arith) e)), λ h. accepted_is (zero_of h.0) ∙ cases.full.1 h.1);
        stopped = (λ e. (passes (omega arith), cases.stopped.0 (answer_of_lem 3 (omega arith) e)), λ h. accepted_is (zero_of h.0) ∙ cases.stopped.1 h.1);
        over_room = (λ e. let h = passes (omega arith) in (h, (need_over (zero_of h)).0 e), λ h. (need_over (zero_of h.0)).1 h.1);
        never_waits = λ e. let (g, (c, w)) = cases.waits.0 (answer_of_lem 1 (omega arith) e) in let z : ◌≡◌ {A = ℕ} 0 1 = cc in omega arith;
        refused =
            record {
              bad_policy = via 17 (omega arith) r.bad_policy;
              bad_shape = via 10 (omega arith) r.bad_shape;
              too_long = via 11 (omega arith) r.too_long;
              accepted = (passes, λ h. omega (arith, low (zero_of h)));
            };
      }
