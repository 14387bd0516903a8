-- Laws of the lent list as it is filled: so many findings stand at its front, one more is stored, and all are.
use mathlib.Core.List.{List, [], ◌∷◌, ◌++◌}
use mathlib.Core.Logic.{◌⊎◌, inl, inr}
use mathlib.Core.Path.{◌≡◌, refl, sym, ap, ◌∙◌}
use Prim.Native.Nat.{ℕ, zero, suc, ◌+◌, ◌≤◌, ◌<◌}
use native.Mathlib.Nat.{le_of_suc-le-suc, not-suc-le-zero}
use native.Mathlib.Numerals.{add-one}
use native.Mathlib.Omega.{arith}
use lib.ListN.{length, set, take, drop, length-drop}
use Rattle.codepage.specs.Reading.{Reader}
use Rattle.engine.specs.declared.Policy.{Policy}
use Rattle.findings.specs.declared.Finding.{Finding}
use Rattle.findings.specs.declared.Located.{Located}
use Rattle.findings.specs.Findings.{findings_from, filled_front}
use Rattle.findings.specs.Steps.{behind, FoundAt, Filled}
use Rattle.findings.proofs.CountLaws.{behind_stop, behind_on, drop_next}

abbrev Fs : Type 0
Fs = List Finding

-- no findings change nothing
pub filled_none : (ys : Fs) → filled_front ys [] ≡ ys
filled_none [] = refl
filled_none (y ∷ ys) = refl

-- the list stays as long as it was
pub filled_length : (ys fs : Fs) → length (filled_front ys fs) ≡ length ys
filled_length [] fs = refl
filled_length (y ∷ ys) [] = refl
filled_length (y ∷ ys) (f ∷ fs) = ap suc (filled_length ys fs)

no_entry : (f : Finding) (rest : Fs) → ◌≡◌ {A = Fs} [] (f ∷ rest) → ⊥
no_entry f rest e = let z : ◌≡◌ {A = ℕ} 0 1 = cc in omega arith

stored : (n : ℕ) (ys fs : Fs) (f : Finding) (rest : Fs) → n < length ys → drop n fs ≡ f ∷ rest → set (filled_front ys (take n fs)) n f ≡ filled_front ys (take (suc n) fs)
stored n [] fs f rest h e = absurd (not-suc-le-zero h)
stored zero (y ∷ ys) [] f rest h e = absurd (no_entry f rest e)
stored (suc n) (y ∷ ys) [] f rest h e = absurd (no_entry f rest e)
stored zero (y ∷ ys) (g ∷ gs) f rest h e = let same : g ≡ f = cc in ap (λ (x : Finding). x ∷ ys) (sym same) ∙ ap (λ (l : Fs). g ∷ l) (sym (filled_none ys))
stored (suc n) (y ∷ ys) (g ∷ gs) f rest h e = ap (λ (l : Fs). g ∷ l) (stored n ys gs f rest (le_of_suc-le-suc h) e)

-- the next finding is stored, where there is room for it
pub filled_next : (ys fs : Fs) (n m : ℕ) (f : Finding) (rest : Fs) → n < length ys → drop n fs ≡ f ∷ rest → m ≡ n + 1 → set (filled_front ys (take n fs)) n f ≡ filled_front ys (take m fs)
filled_next ys fs n m f rest h e q = stored n ys fs f rest h e ∙ ap (λ (k : ℕ). filled_front ys (take k fs)) (sym (q ∙ add-one n))

-- all are stored, or the list is full
pub filled_end : (n : ℕ) (ys fs : Fs) → (length fs ≤ n) ⊎ (length ys ≤ n) → filled_front ys (take n fs) ≡ filled_front ys fs
filled_end n [] fs h = refl
filled_end zero (y ∷ ys) [] h = refl
filled_end (suc n) (y ∷ ys) [] h = refl
filled_end zero (y ∷ ys) (f ∷ fs) (inl h) = absurd (not-suc-le-zero h)
filled_end zero (y ∷ ys) (f ∷ fs) (inr h) = absurd (not-suc-le-zero h)
filled_end (suc n) (y ∷ ys) (f ∷ fs) (inl h) = ap (λ (l : Fs). f ∷ l) (filled_end n ys fs (inl (le_of_suc-le-suc h)))
filled_end (suc n) (y ∷ ys) (f ∷ fs) (inr h) = ap (λ (l : Fs). f ∷ l) (filled_end n ys fs (inr (le_of_suc-le-suc h)))

-- THE LIST AFTER A CALL: its front is the first of the findings, as many as it has entries, and the rest is as before.
pub filled_is : (before fs : Fs) → filled_front before fs ≡ take (length before) fs ++ drop (length fs) before
filled_is [] [] = refl
filled_is [] (f ∷ fs) = refl
filled_is (y ∷ ys) [] = refl
filled_is (y ∷ ys) (f ∷ fs) = ap (λ (l : Fs). f ∷ l) (filled_is ys fs)

-- ---- filling: `count` findings are stored, and those from a place on are left
pub record Filling (r : Reader) (policy : Policy) (text : List ℕ) (before : Fs) (place count : ℕ) (now : Fs) : Type 0 where
  pub inside : place ≤ length text
  pub few : count ≤ place
  pub within : count ≤ length (findings_from r policy text 0)
  pub left : drop count (findings_from r policy text 0) ≡ findings_from r policy text place
  pub list : now ≡ filled_front before (take count (findings_from r policy text 0))

-- nothing is stored yet
pub filling_start : (r : Reader) (policy : Policy) (text : List ℕ) (before : Fs) → Filling r policy text before 0 0 before
filling_start r policy text before = record { inside = omega arith; few = omega arith; within = omega arith; left = refl; list = sym (filled_none before) }

-- a text without findings
pub filled_clean : (fs before : Fs) → fs ≡ [] → Filled fs 0 before before
filled_clean fs before e = rw e (record { number = refl; lent = sym (filled_none before) })

module _ {r : Reader} {policy : Policy} {text : List ℕ} {before : Fs} {place count : ℕ} {now : Fs} (w : Filling r policy text before place count now) where
  abbrev fs : Fs
  fs = findings_from r policy text 0

  size : length fs ≡ count + length (findings_from r policy text place)
  size = omega (arith, length-drop count fs, ap (λ (l : Fs). length l) w.left, w.within)

  same : length now ≡ length before
  same = ap (λ (l : Fs). length l) w.list ∙ filled_length before (take count fs)

  -- none is left
  pub filling_none : findings_from r policy text place ≡ [] → Filled fs count before now
  filling_none e =
      let all : count ≡ length fs = omega (arith, size, ap (λ (l : Fs). length l) e) in
      record { number = all; lent = w.list ∙ filled_end count before fs (inl (omega arith)) }

  -- the list is full, and the rest is counted
  pub filling_full : (room rest : ℕ) → room ≡ length now → room ≤ count → count ≤ room → rest ≡ length (findings_from r policy text place) → Filled fs (room + rest) before now
  filling_full room rest n h l e = record { number = omega (arith, size); lent = w.list ∙ filled_end count before fs (inr (omega (arith, same))) }

  module _ (s : Located) (h : FoundAt r policy text place s) (room : count < length now) where
    put : set now count s.finding ≡ filled_front before (take (count + 1) fs)
    put = ap (λ (l : Fs). set l count s.finding) w.list ∙ filled_next before fs count (count + 1) s.finding _ (omega (arith, same)) (w.left ∙ h.one) refl

    more : length (findings_from r policy text place) ≡ suc (length (behind r policy text s.finding s.end))
    more = ap (λ (l : Fs). length l) h.one

    -- one is stored that stops the reading
    pub filling_stop : s.finding.digit ≡ 0 → Filled fs (count + 1) before (set now count s.finding)
    filling_stop d =
        let all : count + 1 ≡ length fs = omega (arith, size, more, ap (λ (l : Fs). length l) (behind_stop r policy text s.finding s.end d)) in
        record { number = all; lent = put ∙ filled_end (count + 1) before fs (inl (omega arith)) }

    -- one is stored, and those behind it are left
    pub filling_on : (s.finding.digit ≡ 0 → ⊥) → Filling r policy text before s.end (count + 1) (set now count s.finding)
    filling_on d =
        record {
          inside = h.inside;
          few = omega (arith, w.few, h.ahead);
          within = omega (arith, size, more);
          left = drop_next count fs s.finding _ (w.left ∙ h.one) ∙ behind_on r policy text s.finding s.end d;
          list = put;
        }
