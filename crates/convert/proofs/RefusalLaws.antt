-- Each number of a run call exactly in its case.
use mathlib.Core.Bool.{Bool, true, false, not, ◌&&◌, true≢false, false≢true}
use mathlib.Core.Logic.{◌↔◌}
use mathlib.Core.List.{List, [], ◌∷◌}
use mathlib.Core.Path.{◌≡◌, refl, sym, ◌∙◌, subst}
use Prim.Native.Nat.{ℕ, zero, suc, ◌+◌, ◌<◌, ◌≤◌}
use native.Mathlib.Omega.{arith}
use lib.Dec.{leb, eqb}
use borrow.Author.Tests.{eqb-true, eqb-false, leb-true, leb-false, eq-eqb, le-leb, lt-leb, not-true, not-false}
use Rattle.codepage.specs.CodePage.{CodePage, GoodShape, first_fault, is_good}
use Rattle.codepage.proofs.ShapeLaws.{shape_exact, and_left, and_right}
use Rattle.engine.specs.declared.Direction.{Direction}
use Rattle.engine.specs.declared.Direction.TheVariants.{Decoding, Encoding}
use Rattle.convert.specs.declared.Run.{Run}
use Rattle.convert.specs.Runs.{piece_limit, read_limit, valid_run, RunRules}
use Rattle.convert.specs.Calls.{same_direction, lead_in, check, refusal}
use Rattle.convert.proofs.CallLaws.{same_direction_lem, refusal_named}
use Rattle.convert.proofs.RuleLaws.{rules_exact}

-- ---- a chain of checks, numbered from n on
chain : ℕ → List Bool → ℕ
chain n [] = 0
chain n (b ∷ bs) = check n b (chain (suc n) bs)

-- the check at place k is the first that fails; all pass
abbrev Fails : List Bool → ℕ → Type 0
Fails [] k = ⊥
Fails (b ∷ bs) zero = b ≡ false
Fails (b ∷ bs) (suc k) = (b ≡ true) × Fails bs k

abbrev Passes : List Bool → Type 0
Passes [] = Unit {0}
Passes (b ∷ bs) = (b ≡ true) × Passes bs

-- a chain gives 0 or a number of its own
own : (n : ℕ) (bs : List Bool) (k : ℕ) → 1 ≤ k → k < n → chain n bs ≡ k → ⊥
unfolding chain
own n [] k h l e = omega arith
own n (false ∷ bs) k h l e = omega arith
own n (true ∷ bs) k h l e = own (suc n) bs k h (omega arith) e

fails_at : (n : ℕ) (bs : List Bool) (k : ℕ) → 1 ≤ n → (chain n bs ≡ n + k) ↔ Fails bs k
unfolding chain
fails_at n [] k h = (λ e. omega arith, λ z. absurd z)
fails_at n (false ∷ bs) zero h = (λ e. refl, λ e. omega arith)
fails_at n (true ∷ bs) zero h = (λ e. absurd (own (suc n) bs n h (omega arith) (e ∙ omega arith)), λ e. absurd (true≢false e))
fails_at n (false ∷ bs) (suc k) h = (λ e. absurd (omega arith), λ e. absurd (false≢true e.0))
fails_at n (true ∷ bs) (suc k) h =
    let z : n + suc k ≡ suc n + k = omega arith in
    (λ e. (refl, (fails_at (suc n) bs k (omega arith)).0 (e ∙ z)), λ e. (fails_at (suc n) bs k (omega arith)).1 e.1 ∙ sym z)

passes_all : (n : ℕ) (bs : List Bool) → 1 ≤ n → (chain n bs ≡ 0) ↔ Passes bs
unfolding chain
passes_all n [] h = (λ e. tt, λ e. refl)
passes_all n (false ∷ bs) h = (λ e. absurd (omega arith), λ e. absurd (false≢true e.0))
passes_all n (true ∷ bs) h = (λ e. (refl, (passes_all (suc n) bs (omega arith)).0 e), λ e. (passes_all (suc n) bs (omega arith)).1 e.1)

-- ---- the tests of a run call, as facts
is_false : (b : Bool) → (b ≡ true → ⊥) → b ≡ false
is_false true h = absurd (h refl)
is_false false h = refl

not_both : (b : Bool) → b ≡ false → b ≡ true → ⊥
not_both b f t = false≢true (sym f ∙ t)

direction_same : (a b : Direction) → a ≡ b → same_direction a b ≡ true
direction_same Decoding b e = subst (λ (d : Direction). same_direction Decoding d ≡ true) e refl
direction_same Encoding b e = subst (λ (d : Direction). same_direction Encoding d ≡ true) e refl

both : (a b : Bool) → a ≡ true → b ≡ true → (a && b) ≡ true
both a b e f = rw (e, f)

-- What each check that passes says, up to each of them: 10, 11, 12, 13, 14, 15.
abbrev pub ShapePasses : CodePage → Type 0
ShapePasses p = GoodShape p

abbrev pub CountPasses : CodePage → ℕ → Type 0
CountPasses p count = ShapePasses p × (count ≤ piece_limit)

abbrev pub RulesPass : Run → CodePage → ℕ → Type 0
RulesPass run p count = CountPasses p count × RunRules run

abbrev pub SameRun : Direction → Run → CodePage → Type 0
SameRun direction run p = (direction ≡ run.direction) × (run.page ≡ p.page)

abbrev pub RunPasses : Direction → Run → CodePage → ℕ → Type 0
RunPasses direction run p count = RulesPass run p count × SameRun direction run p

abbrev pub LeadPasses : Direction → Run → CodePage → ℕ → Type 0
LeadPasses direction run p count = RunPasses direction run p count × (lead_in p.classes run.pending ≡ true)

abbrev pub EndPasses : Direction → Run → CodePage → ℕ → Type 0
EndPasses direction run p count = LeadPasses direction run p count × (run.ended ≡ false)

-- All checks up to 16 pass: the call is accepted.
abbrev pub AllPass : Direction → Run → CodePage → ℕ → Type 0
AllPass direction run p count = EndPasses direction run p count × (run.read + count ≤ read_limit)

-- Each number of a refused run call, and acceptance, exactly in its case: it is the first check that fails.
pub record Cases (direction : Direction) (run : Run) (p : CodePage) (count number : ℕ) : Type 0 where
  pub bad_shape : (number ≡ 10) ↔ (GoodShape p → ⊥)
  pub too_long : (number ≡ 11) ↔ (ShapePasses p × (piece_limit < count))
  pub invalid_run : (number ≡ 12) ↔ (CountPasses p count × (RunRules run → ⊥))
  pub other_run : (number ≡ 13) ↔ (RulesPass run p count × (SameRun direction run p → ⊥))
  pub not_lead : (number ≡ 14) ↔ (RunPasses direction run p count × (lead_in p.classes run.pending ≡ false))
  pub ended : (number ≡ 15) ↔ (LeadPasses direction run p count × (run.ended ≡ true))
  pub read_limit : (number ≡ 16) ↔ (EndPasses direction run p count × (read_limit < run.read + count))
  pub accepted : (number < 10) ↔ AllPass direction run p count

module _ (direction : Direction) (run : Run) (p : CodePage) (count : ℕ) where
  tests : List Bool
  tests =
      is_good (first_fault p) ∷ leb count piece_limit ∷ valid_run run ∷ (same_direction direction run.direction && eqb run.page p.page) ∷ lead_in p.classes run.pending
      ∷ not run.ended ∷ leb (run.read + count) read_limit ∷ []

  as_chain : refusal direction run p count ≡ chain 10 tests
  unfolding refusal chain tests
  as_chain = refl

  number : (k : ℕ) → (refusal direction run p count ≡ 10 + k) ↔ Fails tests k
  number k = (λ e. (fails_at 10 tests k (omega arith)).0 (sym as_chain ∙ e), λ e. as_chain ∙ (fails_at 10 tests k (omega arith)).1 e)

  none : (refusal direction run p count ≡ 0) ↔ Passes tests
  none = (λ e. (passes_all 10 tests (omega arith)).0 (sym as_chain ∙ e), λ e. as_chain ∙ (passes_all 10 tests (omega arith)).1 e)

  good : is_good (first_fault p) ≡ true → GoodShape p
  good e = (shape_exact p).0 e

  is_good_lem : GoodShape p → is_good (first_fault p) ≡ true
  is_good_lem g = (shape_exact p).1 g

  same : (same_direction direction run.direction && eqb run.page p.page) ≡ true → (direction ≡ run.direction) × (run.page ≡ p.page)
  same e = (same_direction_lem direction run.direction (and_left _ _ e), eqb-true _ _ (and_right (same_direction direction run.direction) _ e))

  is_same : direction ≡ run.direction → run.page ≡ p.page → (same_direction direction run.direction && eqb run.page p.page) ≡ true
  is_same e f = both (same_direction direction run.direction) (eqb run.page p.page) (direction_same direction run.direction e) (eq-eqb _ _ f)

  -- what the checks that pass say, one more each time
  shape_is : is_good (first_fault p) ≡ true → ShapePasses p
  shape_is e = good e

  counted : ShapePasses p → leb count piece_limit ≡ true → CountPasses p count
  counted a e = (a, leb-true _ _ e)

  ruled : CountPasses p count → valid_run run ≡ true → RulesPass run p count
  ruled a e = (a, (rules_exact run).0 e)

  alike : RulesPass run p count → (same_direction direction run.direction && eqb run.page p.page) ≡ true → RunPasses direction run p count
  alike a e = (a, same e)

  going : LeadPasses direction run p count → not run.ended ≡ true → EndPasses direction run p count
  going a e = (a, not-true _ e)

  -- a number that is none of the refusals' is 0
  below_ten : refusal direction run p count < 10 → refusal direction run p count ≡ 0
  below_ten h = by_test (eqb (refusal direction run p count) 0) refl
    where
      by_test : (t : Bool) → eqb (refusal direction run p count) 0 ≡ t → refusal direction run p count ≡ 0
      by_test true e = eqb-true _ _ e
      by_test false e = absurd (omega (arith, (refusal_named direction run p count (eqb-false _ _ e)).low))

  -- A call is accepted where every check passes.
  pub accepted_of : AllPass direction run p count → refusal direction run p count ≡ 0
  unfolding tests
  accepted_of (((((((g, c), r), s), l), e), t)) =
      none.1 (is_good_lem g, (le-leb _ _ c, ((rules_exact run).1 r, (is_same s.0 s.1, (l, (rw e, (le-leb _ _ t, tt)))))))

  -- EACH NUMBER EXACTLY IN ITS CASE.
  pub refusals_exact : Cases direction run p count (refusal direction run p count)
  unfolding tests
  refusals_exact =
      record {
        bad_shape = (λ e g. not_both _ ((number 0).0 e) (is_good_lem g), λ h. (number 0).1 (is_false _ (λ e. h (good e))));
        too_long = (
          λ e. let q = (number 1).0 e in (good q.0, leb-false _ _ q.1),
          λ h. (number 1).1 (is_good_lem h.0, lt-leb _ _ h.1),
        );
        invalid_run = (
          λ e. let q = (number 2).0 e in (counted (good q.0) q.1.0, λ r. not_both _ q.1.1 ((rules_exact run).1 r)),
          λ h. (number 2).1 (is_good_lem h.0.0, (le-leb _ _ h.0.1, is_false _ (λ e. h.1 ((rules_exact run).0 e)))),
        );
        other_run = (
          λ e. let q = (number 3).0 e in (ruled (counted (good q.0) q.1.0) q.1.1.0, λ s. not_both _ q.1.1.1 (is_same s.0 s.1)),
          λ h. (number 3).1 (is_good_lem h.0.0.0, (le-leb _ _ h.0.0.1, ((rules_exact run).1 h.0.1, is_false _ (λ e. h.1 (same e))))),
        );
        not_lead = (
          λ e. let q = (number 4).0 e in (alike (ruled (counted (good q.0) q.1.0) q.1.1.0) q.1.1.1.0, q.1.1.1.1),
          λ h. (number 4).1 (is_good_lem h.0.0.0.0, (le-leb _ _ h.0.0.0.1, ((rules_exact run).1 h.0.0.1, (is_same h.0.1.0 h.0.1.1, h.1)))),
        );
        ended = (
          λ e. let q = (number 5).0 e in ((alike (ruled (counted (good q.0) q.1.0) q.1.1.0) q.1.1.1.0, q.1.1.1.1.0), not-false _ q.1.1.1.1.1),
          λ h. let a = h.0.0 in
              (number 5).1 (is_good_lem a.0.0.0, (le-leb _ _ a.0.0.1, ((rules_exact run).1 a.0.1, (is_same a.1.0 a.1.1, (h.0.1, rw h.1))))),
        );
        read_limit = (
          λ e. let q = (number 6).0 e in
              (going (alike (ruled (counted (good q.0) q.1.0) q.1.1.0) q.1.1.1.0, q.1.1.1.1.0) q.1.1.1.1.1.0, leb-false _ _ q.1.1.1.1.1.1),
          λ h. let a = h.0.0.0 in
              (number 6).1 (is_good_lem a.0.0.0, (le-leb _ _ a.0.0.1, ((rules_exact run).1 a.0.1, (is_same a.1.0 a.1.1, (h.0.0.1, (rw h.0.1, lt-leb _ _ h.1)))))),
        );
        accepted = (
          λ e. let q = none.0 (below_ten e) in
              (going (alike (ruled (counted (good q.0) q.1.0) q.1.1.0) q.1.1.1.0, q.1.1.1.1.0) q.1.1.1.1.1.0, leb-true _ _ q.1.1.1.1.1.1.0),
          λ h. omega (arith, accepted_of h),
        );
      }
