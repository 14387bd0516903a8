-- Laws of decimal numbers: how one is written, how long it is, and that it is read back.
use mathlib.Core.Bool.{Bool, true, false}
use mathlib.Core.List.{List, [], ◌∷◌, ◌++◌}
use mathlib.Core.Path.{◌≡◌, refl, sym, ap, ◌∙◌}
use Prim.Native.Nat.{ℕ, zero, suc, ◌+◌, ◌*◌, ◌/◌, ◌%◌, ◌^◌, ◌<◌, ◌≤◌}
use native.Mathlib.Nat.{pow-succ'}
use native.Mathlib.Omega.{arith}
use lib.Dec.{ltb}
use lib.ListN.{length, length-append}
use borrow.Author.Tests.{lt-ltb, le-ltb, ltb-true, ltb-false}
use Rattle.checkpoint.specs.Line.{digit_byte, decimal_from, decimal}

-- ---- the digits of a number
few : (fuel n : ℕ) → n < 10 → decimal_from fuel n ≡ digit_byte n ∷ []
unfolding decimal_from
few zero n h = refl
few (suc fuel) n h = rw (lt-ltb n 10 h, decimal_from)

many : (fuel n : ℕ) → 10 ≤ n → decimal_from (suc fuel) n ≡ decimal_from fuel (n / 10) ++ (digit_byte (n % 10) ∷ [])
unfolding decimal_from
many fuel n h = rw (le-ltb n 10 h, decimal_from)

-- any fuel that is enough gives the same
enough : (f g n : ℕ) → n ≤ f → n ≤ g → decimal_from f n ≡ decimal_from g n
enough zero g n h k = few zero n (omega arith) ∙ sym (few g n (omega arith))
enough (suc f) zero n h k = few (suc f) n (omega arith) ∙ sym (few zero n (omega arith))
enough (suc f) (suc g) n h k = by_size (enough f g (n / 10) (omega arith) (omega arith)) (ltb n 10) refl
  where
    by_size : decimal_from f (n / 10) ≡ decimal_from g (n / 10) → (t : Bool) → ltb n 10 ≡ t → decimal_from (suc f) n ≡ decimal_from (suc g) n
    by_size e true q = few (suc f) n (ltb-true _ _ q) ∙ sym (few (suc g) n (ltb-true _ _ q))
    by_size e false q = many f n (ltb-false _ _ q) ∙ ap (λ (l : List ℕ). l ++ (digit_byte (n % 10) ∷ [])) e ∙ sym (many g n (ltb-false _ _ q))

-- a number below 10 is one digit
pub decimal_few : (n : ℕ) → n < 10 → decimal n ≡ digit_byte n ∷ []
unfolding decimal
decimal_few n h = few n n h

-- a larger number is the digits of its tenth and then its last digit
pub decimal_many : (n : ℕ) → 10 ≤ n → decimal n ≡ decimal (n / 10) ++ (digit_byte (n % 10) ∷ [])
unfolding decimal
decimal_many zero h = absurd (omega arith)
decimal_many (suc n) h = many n (suc n) h ∙ ap (λ (l : List ℕ). l ++ (digit_byte (suc n % 10) ∷ [])) (enough n (suc n / 10) (suc n / 10) (omega arith) (omega arith))

-- one digit more
pub decimal_step : (n digit : ℕ) → 1 ≤ n → digit < 10 → decimal (10 * n + digit) ≡ decimal n ++ (digit_byte digit ∷ [])
decimal_step n digit h k =
    let front : (10 * n + digit) / 10 ≡ n = omega arith in
    let last : (10 * n + digit) % 10 ≡ digit = omega arith in
    decimal_many (10 * n + digit) (omega arith) ∙ rw (front, last)

-- ---- how many they are
-- from 10 on a number has one digit more than its tenth
pub long : (n : ℕ) → 10 ≤ n → length (decimal n) ≡ suc (length (decimal (n / 10)))
long n h = ap length (decimal_many n h) ∙ length-append (decimal (n / 10)) (digit_byte (n % 10) ∷ []) ∙ omega arith

-- a number below 10 to the k has at most k digits
pub decimal_short : (k n : ℕ) → n < 10 ^ suc k → length (decimal n) ≤ suc k
decimal_short zero n h = omega (arith, ap length (decimal_few n (omega arith)))
decimal_short (suc k) n h = by_size (decimal_short k (n / 10) (omega (arith, pow-succ' 10 (suc k)))) (ltb n 10) refl
  where
    by_size : length (decimal (n / 10)) ≤ suc k → (t : Bool) → ltb n 10 ≡ t → length (decimal n) ≤ suc (suc k)
    by_size e true q = omega (arith, ap length (decimal_few n (ltb-true _ _ q)))
    by_size e false q = omega (arith, long n (ltb-false _ _ q))

-- ---- the digits of a given number of places, from which the program writes a number
-- the last `count` digits of a number, with zeros before it where it has fewer
unfoldable pub places : (count n : ℕ) → List ℕ
places zero n = []
places (suc count) n = places count (n / 10) ++ (digit_byte (n % 10) ∷ [])

-- there are as many digits as places
pub places_length : (count n : ℕ) → length (places count n) ≡ count
unfolding places
places_length zero n = refl
places_length (suc count) n = length-append (places count (n / 10)) (digit_byte (n % 10) ∷ []) ∙ omega (arith, places_length count (n / 10))

-- one place more: the last digit stands behind those of the tenth
pub places_suc : (count n : ℕ) → places (suc count) n ≡ places count (n / 10) ++ (digit_byte (n % 10) ∷ [])
unfolding places
places_suc count n = refl

place_few : (n : ℕ) → n < 10 → places (length (decimal n)) n ≡ decimal n
unfolding places
place_few n h =
    let small : n % 10 ≡ n = omega arith in
    rw (decimal_few n h, small)

place_from : (fuel n : ℕ) → n ≤ fuel → places (length (decimal n)) n ≡ decimal n
place_from zero n h = place_few n (omega arith)
place_from (suc fuel) n h = by_size (place_from fuel (n / 10) (omega arith)) (ltb n 10) refl
  where
    by_size : places (length (decimal (n / 10))) (n / 10) ≡ decimal (n / 10) → (t : Bool) → ltb n 10 ≡ t → places (length (decimal n)) n ≡ decimal n
    by_size e true q = place_few n (ltb-true _ _ q)
    by_size e false q =
        ap (λ (k : ℕ). places k n) (long n (ltb-false _ _ q))
        ∙ places_suc (length (decimal (n / 10))) n
        ∙ ap (λ (l : List ℕ). l ++ (digit_byte (n % 10) ∷ [])) e
        ∙ sym (decimal_many n (ltb-false _ _ q))

-- in as many places as its decimal form has, the digits of a number are that form
pub places_decimal : (n : ℕ) → places (length (decimal n)) n ≡ decimal n
places_decimal n = place_from n n (omega arith)
