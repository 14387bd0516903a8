-- Laws of a chain of checks: each refusal exactly in its case.
use mathlib.Core.Bool.{Bool, true, false, false≢true}
use mathlib.Core.Logic.{◌↔◌, ◌⊎◌, inl, inr}
use mathlib.Core.Option.{Option, none, some}
use mathlib.Core.Path.{◌≡◌, refl, sym, ◌∙◌, subst}
use Prim.Native.Nat.{ℕ}
use native.Mathlib.Omega.{arith}
use lib.Dec.{leb}
use borrow.Author.Tests.{leb-true, leb-false}
use Rattle.codepage.specs.CodePage.{CodePage, GoodShape, first_fault, is_good}
use Rattle.codepage.proofs.ShapeLaws.{shape_exact}
use Rattle.codepage_walk.specs.Checks.{TextPasses, TextFails}

-- The cases that are met one by one are exact where one of them holds.
module _ {R : Type 0} (Says : R → Type 0) (Passes : Type 0) (o : Option R) (refused : (why : R) → Says why → o ≡ some why) (passed : Passes → o ≡ none)
    (cases : ((why : R) × Says why) ⊎ Passes) where
  -- a refusal exactly in its case
  pub refused_exact : (why : R) → (o ≡ some why) ↔ Says why
  refused_exact why = (λ e. by e cases, refused why)
    where
      by : o ≡ some why → ((why : R) × Says why) ⊎ Passes → Says why
      by e (inl (other, h)) =
          let q : some other ≡ some why = sym (refused other h) ∙ e in
          let same : other ≡ why = cc in
          subst Says same h
      by e (inr h) =
          let q : none ≡ some why = sym (passed h) ∙ e in
          absurd (let z : ◌≡◌ {A = ℕ} 0 1 = cc in omega arith)

  -- no refusal exactly if all checks pass
  pub passed_exact : (o ≡ none) ↔ Passes
  passed_exact = (λ e. by e cases, passed)
    where
      by : o ≡ none → ((why : R) × Says why) ⊎ Passes → Passes
      by e (inl (other, h)) =
          let q : none ≡ some other = sym e ∙ refused other h in
          absurd (let z : ◌≡◌ {A = ℕ} 0 1 = cc in omega arith)
      by e (inr h) = h

-- a text passes 10 and 11, or not
pub text_cases : (p : CodePage) (limit size : ℕ) → TextFails p limit size ⊎ TextPasses p limit size
text_cases p limit size = by (is_good (first_fault p)) (leb size limit) refl refl
  where
    by : (a b : Bool) → is_good (first_fault p) ≡ a → leb size limit ≡ b → TextFails p limit size ⊎ TextPasses p limit size
    by false b e q = inl (inl (λ g. false≢true (sym e ∙ (shape_exact p).1 g)))
    by true false e q = inl (inr ((shape_exact p).0 e, leb-false _ _ q))
    by true true e q = inr ((shape_exact p).0 e, leb-true _ _ q)

-- a shape that is not good is found so
pub not_good : (p : CodePage) → (GoodShape p → ⊥) → is_good (first_fault p) ≡ false
not_good p h = by (is_good (first_fault p)) refl
  where
    by : (t : Bool) → is_good (first_fault p) ≡ t → is_good (first_fault p) ≡ false
    by true e = absurd (h ((shape_exact p).0 e))
    by false e = e
