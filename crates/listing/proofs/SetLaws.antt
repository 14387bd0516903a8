-- Laws of the sets of bytes.
use mathlib.Core.Bool.{Bool, true, false}
use mathlib.Core.Path.{◌≡◌, refl, sym, ap, ◌∙◌}
use Prim.Native.Nat.{ℕ, ◌+◌, ◌-◌, ◌*◌, ◌/◌, ◌%◌, ◌^◌, ◌≤◌, ◌<◌}
use native.Mathlib.Nat.{mod-lt, mul_comm, mul-one}
use native.Mathlib.Omega.{arith}
use lib.Bits.{bit_or, or_step, or_shr, and_mask, bit_and}
use lib.Count.{ones, ones_step, ones_cat}
use lib.Pow.{pow_pos, split, shl_exact, shl-shr}
use lib.Dec.{ltb, lit<}
use borrow.Author.Tests.{eqb-true, eq-eqb}
use Rattle.listing.specs.declared.Half.{Half}
use Rattle.listing.specs.Sets.{bit, with_bit, bits_below, in_half, add_to_half, count_half, below_in_half}

-- a one shifted in a word, and the mask of the bits below it
pub shifted : (k : ℕ) → k < 64 → 1 * 2 ^ k % 18446744073709551616 ≡ 2 ^ k
shifted k h = shl_exact {a = 1} 1 k 64 (lit< tt) (omega arith) ∙ mul_comm 1 (2 ^ k) ∙ mul-one (2 ^ k)

-- a word cut by a mask of ones
pub masked : (word k : ℕ) → k < 64 → bit_and word (1 * 2 ^ k % 18446744073709551616 - 1) ≡ word % 2 ^ k
masked word k h = ap (λ (n : ℕ). bit_and word (n - 1)) (shifted k h) ∙ and_mask word k

-- the mask has a one above it
pub mask_positive : (k : ℕ) → k < 64 → 1 ≤ 1 * 2 ^ k % 18446744073709551616
mask_positive k h = omega (arith, shifted k h, pow_pos k)

-- a set bit is counted with those below it
pub bit_below : (word place : ℕ) → bit word place ≡ true → bits_below word place + 1 ≤ ones word
unfolding bits_below
bit_below word place e =
    let odd : word / 2 ^ place % 2 ≡ 1 = eqb-true (word / 2 ^ place % 2) 1 e in
    let whole : ones word ≡ ones (word / 2 ^ place) + ones (word % 2 ^ place) =
    ap ones (sym (split word place)) ∙ ones_cat place (word / 2 ^ place) (word % 2 ^ place) (mod-lt word (pow_pos place)) in
    omega (arith, whole, ones_step (word / 2 ^ place), odd)

-- fewer are below a place that is in the set than there are
pub half_below : (h : Half) (place : ℕ) → in_half h place ≡ true → below_in_half h place + 1 ≤ count_half h
unfolding in_half below_in_half count_half
half_below h place e = by_word (ltb place 64) refl
  where
    by_word : (t : Bool) → ltb place 64 ≡ t → below_in_half h place + 1 ≤ count_half h
    by_word true q = let set : bit h.low place ≡ true = rw q at e in rw q (omega (arith, bit_below h.low place set))
    by_word false q = let set : bit h.high (place - 64) ≡ true = rw q at e in rw q (omega (arith, bit_below h.high (place - 64) set))

-- a bit that was set is set
pub bit_with : (word place : ℕ) → bit (with_bit word place) place ≡ true
unfolding with_bit
bit_with word place = eq-eqb (bit_or word (2 ^ place) / 2 ^ place % 2) 1 odd
  where
    one : 2 ^ place / 2 ^ place ≡ 1
    one = ap (λ (n : ℕ). n / 2 ^ place) (sym (mul_comm 1 (2 ^ place) ∙ mul-one (2 ^ place))) ∙ shl-shr 1 place

    apart : bit_or word (2 ^ place) / 2 ^ place ≡ bit_or (word / 2 ^ place) 1
    apart = or_shr word (2 ^ place) place ∙ ap (bit_or (word / 2 ^ place)) one

    odd : bit_or word (2 ^ place) / 2 ^ place % 2 ≡ 1
    odd = omega (arith, apart, or_step (word / 2 ^ place) 1)

-- a place that was added is in the set
pub half_with : (h : Half) (place : ℕ) → in_half (add_to_half h place) place ≡ true
unfolding in_half add_to_half
half_with h place = by_word (ltb place 64) refl
  where
    by_word : (t : Bool) → ltb place 64 ≡ t → in_half (add_to_half h place) place ≡ true
    by_word true q = rw q (bit_with h.low place)
    by_word false q = rw q (bit_with h.high (place - 64))
