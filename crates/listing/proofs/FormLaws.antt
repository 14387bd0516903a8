-- Laws of forms.
use mathlib.Core.Bool.{Bool, true, false, ◌&&◌, false≢true}
use mathlib.Core.List.{List, [], ◌∷◌}
use mathlib.Core.Path.{◌≡◌, refl, ap, ◌∙◌}
use Prim.Native.Nat.{ℕ, zero, suc, ◌+◌, ◌*◌, ◌≤◌, ◌<◌}
use native.Mathlib.Numerals.{add-one}
use native.Mathlib.Omega.{arith}
use lib.ListN.{length, get_or, drop, drop_of_length-le}
use lib.Seq.{drop-cons}
use Rattle.codepage.proofs.ShapeLaws.{and_right}
use Rattle.listing.specs.Form.{fits_symbol, has_form, digit, decimal_at}

-- a line that has a form has its length
pub form_length : (form line : List ℕ) → has_form form line ≡ true → length form ≡ length line
unfolding has_form
form_length [] [] e = refl
form_length [] (byte ∷ line) e = absurd (false≢true e)
form_length (symbol ∷ form) [] e = absurd (false≢true e)
form_length (symbol ∷ form) (byte ∷ line) e = ap suc (form_length form line (and_right (fits_symbol symbol byte) (has_form form line) e))

-- a line of another length has not the form
pub form_other : (form line : List ℕ) → (length form ≡ length line → ⊥) → has_form form line ≡ false
form_other form line ne = by_case (has_form form line) refl
  where
    by_case : (t : Bool) → has_form form line ≡ t → has_form form line ≡ false
    by_case true q = absurd (ne (form_length form line q))
    by_case false q = q

-- ---- a loop that holds a line to a form
module _ (form line : List ℕ) (i : ℕ) (h : i < length form) (k : i < length line) where
  here : has_form (drop i form) (drop i line) ≡ (fits_symbol (get_or form i 0) (get_or line i 0) && has_form (drop (suc i) form) (drop (suc i) line))
  unfolding has_form
  here = ap (λ (f : List ℕ). has_form f (drop i line)) (drop-cons form i 0 h) ∙ ap (λ (l : List ℕ). has_form (get_or form i 0 ∷ drop (suc i) form) l) (drop-cons line i 0 k)

  -- a byte that fits: the rest decides
  pub form_turn : fits_symbol (get_or form i 0) (get_or line i 0) ≡ true → has_form (drop i form) (drop i line) ≡ has_form (drop (i + 1) form) (drop (i + 1) line)
  form_turn e = here ∙ rw (e, add-one i)

  -- a byte that does not fit
  pub form_differs : fits_symbol (get_or form i 0) (get_or line i 0) ≡ false → has_form (drop i form) (drop i line) ≡ false
  form_differs e = here ∙ rw e

-- nothing is left to compare
pub form_end : (form line : List ℕ) (i : ℕ) → length form ≤ i → length line ≤ i → has_form (drop i form) (drop i line) ≡ true
unfolding has_form
form_end form line i h k = rw (drop_of_length-le form h, drop_of_length-le line k)

-- ---- a loop that reads a decimal number: a bound of what it has read
unfoldable pub room : ℕ → ℕ
room zero = 1
room (suc i) = 16 * room i

-- one digit more
pub room_step : (i : ℕ) → room (i + 1) ≡ 16 * room i
unfolding room
room_step i = ap room (add-one i)

-- five digits fit 32 bits
pub room_le : (i : ℕ) → i ≤ 5 → room i ≤ 1048576
unfolding room
room_le zero h = omega arith
room_le (suc zero) h = omega arith
room_le (suc (suc zero)) h = omega arith
room_le (suc (suc (suc zero))) h = omega arith
room_le (suc (suc (suc (suc zero)))) h = omega arith
room_le (suc (suc (suc (suc (suc zero))))) h = omega arith
room_le (suc (suc (suc (suc (suc (suc i)))))) h = absurd (omega arith)

-- one digit more
pub decimal_step : (line : List ℕ) (place i value d : ℕ) → value ≡ decimal_at i line place → d ≡ digit (get_or line (place + i) 0) → 10 * value + d ≡ decimal_at (i + 1) line place
unfolding decimal_at
decimal_step line place i value d e f = rw (e, f, add-one i, decimal_at)

-- no digit yet
pub decimal_none : (line : List ℕ) (place : ℕ) → 0 ≡ decimal_at 0 line place
unfolding decimal_at
decimal_none line place = refl

-- all digits are read
pub finished : (line : List ℕ) (i count value : ℕ) → value ≡ decimal_at i line 2 → i ≤ count → count ≤ i → value ≡ decimal_at count line 2
finished line i count value e h k = let same : i ≡ count = omega arith in e ∙ ap (λ (n : ℕ). decimal_at n line 2) same
