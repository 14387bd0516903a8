-- A listing has the page as a saved line has it.
use mathlib.Core.Bool.{Bool, true, false}
use mathlib.Core.List.{List, [], ◌∷◌, ◌++◌}
use mathlib.Core.Path.{◌≡◌, refl, sym, ap, ◌∙◌}
use Prim.Native.Nat.{ℕ, zero, suc, ◌+◌, ◌-◌, ◌/◌, ◌%◌, ◌≤◌, ◌<◌}
use native.Mathlib.Omega.{arith}
use lib.Dec.{ltb}
use borrow.Author.Tests.{lt-ltb, le-ltb, ltb-true, ltb-false}
use Rattle.checkpoint.specs.Line.{decimal_from, decimal}
use Rattle.lister.specs.Lines.{decimal_text, page_text}
use Rattle.lister.proofs.LineLaws.{page_1, page_2, page_3, page_4, page_5}

-- one digit, and one more
digits_1 : (fuel n : ℕ) → n < 10 → decimal_text 1 n ≡ decimal_from fuel n
unfolding decimal_from
digits_1 zero n h = let e : n % 10 ≡ n = omega arith in ap (λ (x : ℕ). (0x30 + x) ∷ []) e
digits_1 (suc fuel) n h = let e : n % 10 ≡ n = omega arith in rw (lt-ltb n 10 h, decimal_from) (ap (λ (x : ℕ). (0x30 + x) ∷ []) e)

one_more : (fuel n : ℕ) → 10 ≤ n → decimal_from (suc fuel) n ≡ (decimal_from fuel (n / 10) ++ ((0x30 + n % 10) ∷ []))
unfolding decimal_from
one_more fuel n h = rw (le-ltb n 10 h, decimal_from)

digits_more : (count fuel n : ℕ) → 10 ≤ n → decimal_text count (n / 10) ≡ decimal_from fuel (n / 10) → decimal_text (suc count) n ≡ decimal_from (suc fuel) n
digits_more count fuel n h e = ap (λ (l : List ℕ). l ++ ((0x30 + n % 10) ∷ [])) e ∙ sym (one_more fuel n h)

digits_2 : (fuel n : ℕ) → 10 ≤ n → n < 100 → decimal_text 2 n ≡ decimal_from (suc fuel) n
digits_2 fuel n h k = digits_more 1 fuel n h (digits_1 fuel (n / 10) (omega arith))

digits_3 : (fuel n : ℕ) → 100 ≤ n → n < 1000 → decimal_text 3 n ≡ decimal_from (suc (suc fuel)) n
digits_3 fuel n h k = digits_more 2 (suc fuel) n (omega arith) (digits_2 fuel (n / 10) (omega arith) (omega arith))

digits_4 : (fuel n : ℕ) → 1000 ≤ n → n < 10000 → decimal_text 4 n ≡ decimal_from (suc (suc (suc fuel))) n
digits_4 fuel n h k = digits_more 3 (suc (suc fuel)) n (omega arith) (digits_3 fuel (n / 10) (omega arith) (omega arith))

digits_5 : (fuel n : ℕ) → 10000 ≤ n → n < 100000 → decimal_text 5 n ≡ decimal_from (suc (suc (suc (suc fuel)))) n
digits_5 fuel n h k = digits_more 4 (suc (suc (suc fuel))) n (omega arith) (digits_4 fuel (n / 10) (omega arith) (omega arith))

-- THE PAGE AS IN A SAVED LINE: the same digits.
pub page_as_saved : (page : ℕ) → page ≤ 65535 → page_text page ≡ decimal page
unfolding decimal
page_as_saved page small = by_size (ltb page 10) refl (ltb page 100) refl (ltb page 1000) refl (ltb page 10000) refl
  where
    fuel : (n : ℕ) → page ≡ n → decimal_from n page ≡ decimal_from page page
    fuel n e = ap (λ (f : ℕ). decimal_from f page) (sym e)

    by_size : (a : Bool) → ltb page 10 ≡ a → (b : Bool) → ltb page 100 ≡ b → (c : Bool) → ltb page 1000 ≡ c → (d : Bool) → ltb page 10000 ≡ d → page_text page ≡ decimal_from page page
    by_size true p b q c r d t = page_1 page (ltb-true page 10 p) ∙ digits_1 page page (ltb-true page 10 p)
    by_size false p true q c r d t = page_2 page (ltb-false page 10 p) (ltb-true page 100 q) ∙ digits_2 (page - 1) page (ltb-false page 10 p) (ltb-true page 100 q) ∙ fuel (suc (page - 1)) (omega (arith, ltb-false page 10 p))
    by_size false p false q true r d t = page_3 page (ltb-false page 100 q) (ltb-true page 1000 r) ∙ digits_3 (page - 2) page (ltb-false page 100 q) (ltb-true page 1000 r) ∙ fuel (suc (suc (page - 2))) (omega (arith, ltb-false page 100 q))
    by_size false p false q false r true t = page_4 page (ltb-false page 1000 r) (ltb-true page 10000 t) ∙ digits_4 (page - 3) page (ltb-false page 1000 r) (ltb-true page 10000 t) ∙ fuel (suc (suc (suc (page - 3)))) (omega (arith, ltb-false page 1000 r))
    by_size false p false q false r false t = page_5 page (ltb-false page 10000 t) ∙ digits_5 (page - 4) page (ltb-false page 10000 t) (omega arith) ∙ fuel (suc (suc (suc (suc (page - 4))))) (omega (arith, ltb-false page 10000 t))
