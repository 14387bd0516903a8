-- Laws of the sets of bytes: what a set has after a byte was added, and how many it has.
use mathlib.Core.Bool.{Bool, true, false}
use mathlib.Core.Path.{◌≡◌, refl, sym, ap, ap₂, ◌∙◌}
use Prim.Native.Nat.{ℕ, zero, suc, ◌+◌, ◌-◌, ◌*◌, ◌/◌, ◌%◌, ◌^◌, ◌≤◌, ◌<◌}
use native.Mathlib.Nat.{mod-lt, mod-eq_of_lt, div-eq_of_lt, pow-suc, mul-mod_left}
use native.Mathlib.Omega.{arith}
use lib.Bits.{bit_or, or_step, or_shr, or_lt}
use lib.Count.{ones, ones_in, ones_cat}
use lib.Pow.{pow_pos, pow-lt, pow-add, shl-shr, mod-pow-add}
use lib.Dec.{ltb, leb, eqb}
use borrow.Author.Tests.{lt-ltb, le-ltb, ltb-true, ltb-false, leb-true, le-leb, lt-leb}
use Rattle.codepage.specs.CodePage.{pick}
use Rattle.listing.specs.declared.Half.{Half}
use Rattle.listing.specs.declared.Bytes.{Bytes}
use Rattle.listing.specs.Sets.{bit, with_bit, in_half, add_to_half, count_half, empty_half, in_bytes, add_to_bytes, empty_bytes}
use Rattle.listing.specs.Order.{is_listed_lead, with_lead}

-- ---- another bit than the one that was set
power_below : (j m : ℕ) → 2 ^ (suc m + j) / 2 ^ j % 2 ≡ 0
power_below j m =
    let e : 2 ^ (suc m + j) / 2 ^ j ≡ 2 ^ m * 2 = ap (λ (n : ℕ). n / 2 ^ j) (pow-add 2 (suc m) j) ∙ shl-shr (2 ^ suc m) j ∙ pow-suc 2 m in
    ap (λ (n : ℕ). n % 2) e ∙ mul-mod_left (2 ^ m) 2

power_other : (j k : ℕ) → (j ≡ k → ⊥) → 2 ^ k / 2 ^ j % 2 ≡ 0
power_other j k ne = by_order (ltb j k) refl
  where
    by_order : (t : Bool) → ltb j k ≡ t → 2 ^ k / 2 ^ j % 2 ≡ 0
    by_order true q =
        let e : suc (k - j - 1) + j ≡ k = omega (arith, ltb-true j k q) in
        ap (λ (n : ℕ). 2 ^ n / 2 ^ j % 2) (sym e) ∙ power_below j (k - j - 1)
    by_order false q =
        let less : k < j = omega (arith, ltb-false j k q) in
        ap (λ (n : ℕ). n % 2) (div-eq_of_lt (pow-lt less))

-- a bit that is set changes no other
pub bit_other : (word k j : ℕ) → (j ≡ k → ⊥) → bit (with_bit word k) j ≡ bit word j
unfolding with_bit
bit_other word k j ne =
    let apart : bit_or word (2 ^ k) / 2 ^ j ≡ bit_or (word / 2 ^ j) (2 ^ k / 2 ^ j) = or_shr word (2 ^ k) j in
    let same : bit_or word (2 ^ k) / 2 ^ j % 2 ≡ word / 2 ^ j % 2 = omega (arith, apart, or_step (word / 2 ^ j) (2 ^ k / 2 ^ j), power_other j k ne) in
    ap (λ (n : ℕ). eqb n 1) same

-- 0 has no bit
pub bit_none : (k : ℕ) → bit 0 k ≡ false
bit_none k = ap (λ (n : ℕ). eqb (n % 2) 1) (div-eq_of_lt (pow_pos k))

-- a word with one bit more is a word
pub with_small : (word k : ℕ) → word < 2 ^ 64 → k < 64 → with_bit word k < 2 ^ 64
unfolding with_bit
with_small word k h l = or_lt 64 word (2 ^ k) h (pow-lt l)

module _ (h : Half) (place other : ℕ) (ne : other ≡ place → ⊥) where
  pub half_other : in_half (add_to_half h place) other ≡ in_half h other
  unfolding in_half add_to_half
  half_other = by_words (ltb place 64) refl (ltb other 64) refl
    where
      by_words : (t : Bool) → ltb place 64 ≡ t → (u : Bool) → ltb other 64 ≡ u → in_half (add_to_half h place) other ≡ in_half h other
      by_words true q true r = rw (q, r) (bit_other h.low place other ne)
      by_words true q false r = rw (q, r)
      by_words false q true r = rw (q, r)
      by_words false q false r = rw (q, r) (bit_other h.high (place - 64) (other - 64) (λ e. ne (omega (arith, ltb-false place 64 q, ltb-false other 64 r))))

-- the empty set has no place
pub half_none : (place : ℕ) → in_half empty_half place ≡ false
unfolding in_half
half_none place = by_word (ltb place 64) refl
  where
    by_word : (t : Bool) → ltb place 64 ≡ t → in_half empty_half place ≡ false
    by_word true q = rw q (bit_none place)
    by_word false q = rw q (bit_none (place - 64))

-- the empty set has no byte
pub bytes_none : (byte : ℕ) → in_bytes empty_bytes byte ≡ false
unfolding in_bytes
bytes_none byte = by_half (ltb byte 0x80) refl
  where
    by_half : (t : Bool) → ltb byte 0x80 ≡ t → in_bytes empty_bytes byte ≡ false
    by_half true q = rw q (half_none byte)
    by_half false q = rw q (half_none (byte - 0x80))

module _ (s : Bytes) (byte other : ℕ) (ne : other ≡ byte → ⊥) where
  -- a byte that is listed changes no other
  pub bytes_other : in_bytes (add_to_bytes s byte) other ≡ in_bytes s other
  unfolding in_bytes add_to_bytes
  bytes_other = by_halves (ltb byte 0x80) refl (ltb other 0x80) refl
    where
      by_halves : (t : Bool) → ltb byte 0x80 ≡ t → (u : Bool) → ltb other 0x80 ≡ u → in_bytes (add_to_bytes s byte) other ≡ in_bytes s other
      by_halves true q true r = rw (q, r) (half_other s.low byte other ne)
      by_halves true q false r = rw (q, r)
      by_halves false q true r = rw (q, r)
      by_halves false q false r = rw (q, r) (half_other s.high (byte - 0x80) (other - 0x80) (λ e. ne (omega (arith, ltb-false byte 0x80 q, ltb-false other 0x80 r))))

-- a lead that is listed lists no other
pub lead_other : (leads : Half) (byte other : ℕ) → (other ≡ byte → ⊥) → is_listed_lead (with_lead leads byte) other ≡ is_listed_lead leads other
unfolding is_listed_lead with_lead
lead_other leads byte other ne = by_halves (ltb byte 0x80) refl (leb 0x80 other) refl
  where
    by_halves : (t : Bool) → ltb byte 0x80 ≡ t → (u : Bool) → leb 0x80 other ≡ u → is_listed_lead (with_lead leads byte) other ≡ is_listed_lead leads other
    by_halves true q u r = rw q
    by_halves false q false r = rw r
    by_halves false q true r = rw (q, r) (half_other leads (byte - 0x80) (other - 0x80) (λ e. ne (omega (arith, ltb-false byte 0x80 q, leb-true 0x80 other r))))

-- ---- how many
-- the places below n that a test holds of
unfoldable pub tally : (ℕ → Bool) → ℕ → ℕ
tally f zero = 0
tally f (suc n) = pick (f n) (suc (tally f n)) (tally f n)

-- equal tests are counted alike
pub tally_same : (f g : ℕ → Bool) (n : ℕ) → ((i : ℕ) → i < n → f i ≡ g i) → tally f n ≡ tally g n
unfolding tally
tally_same f g zero e = refl
tally_same f g (suc n) e = ap₂ (λ (t : Bool) (m : ℕ). pick t (suc m) m) (e n (omega arith)) (tally_same f g n (λ i h. e i (omega arith)))

-- a test that never holds counts none
pub tally_none : (f : ℕ → Bool) (n : ℕ) → ((i : ℕ) → i < n → f i ≡ false) → tally f n ≡ 0
unfolding tally
tally_none f zero e = refl
tally_none f (suc n) e = rw (e n (omega arith)) (tally_none f n (λ i h. e i (omega arith)))

-- a count is that of its two parts
pub tally_split : (f : ℕ → Bool) (m n : ℕ) → tally f (m + n) ≡ tally f m + tally (λ i. f (m + i)) n
unfolding tally
tally_split f m zero = let e : m + 0 ≡ m = omega arith in let g : tally f m ≡ tally f m + 0 = omega arith in ap (tally f) e ∙ g
tally_split f m (suc n) =
    let e : m + suc n ≡ suc (m + n) = omega arith in
    ap (tally f) e ∙ ap (λ (k : ℕ). pick (f (m + n)) (suc k) k) (tally_split f m n) ∙ by_test (f (m + n))
  where
    by_test : (t : Bool) → pick t (suc (tally f m + tally (λ i. f (m + i)) n)) (tally f m + tally (λ i. f (m + i)) n) ≡ tally f m + pick t (suc (tally (λ i. f (m + i)) n)) (tally (λ i. f (m + i)) n)
    by_test true = omega arith
    by_test false = refl

-- a count is at most how many are asked
pub tally_le : (f : ℕ → Bool) (n : ℕ) → tally f n ≤ n
unfolding tally
tally_le f zero = omega arith
tally_le f (suc n) = by_test (f n) (tally_le f n)
  where
    by_test : (t : Bool) → tally f n ≤ n → pick t (suc (tally f n)) (tally f n) ≤ suc n
    by_test true h = omega arith
    by_test false h = omega arith

digit_count : (n : ℕ) → n < 2 → ones n ≡ n
unfolding ones ones_in
digit_count zero h = refl
digit_count (suc zero) h = refl
digit_count (suc (suc n)) h = absurd (omega arith)

word_more : (word k : ℕ) → ones (word % 2 ^ suc k) ≡ word / 2 ^ k % 2 + ones (word % 2 ^ k)
word_more word k =
    let e : suc k ≡ 1 + k = omega arith in
    ap (λ (n : ℕ). ones (word % 2 ^ n)) e
    ∙ ap ones (mod-pow-add word 1 k)
    ∙ ones_cat k (word / 2 ^ k % 2) (word % 2 ^ k) (mod-lt word (pow_pos k))
    ∙ ap (λ (n : ℕ). n + ones (word % 2 ^ k)) (digit_count (word / 2 ^ k % 2) (omega arith))

-- the ones below a place are its bits, counted
pub word_tally : (word k : ℕ) → ones (word % 2 ^ k) ≡ tally (bit word) k
unfolding tally
word_tally word zero = let e : word % 1 ≡ 0 = omega arith in ap ones e ∙ digit_count 0 (omega arith)
word_tally word (suc k) = word_more word k ∙ by_digit (word / 2 ^ k % 2) (omega arith) (word_tally word k)
  where
    by_digit : (d : ℕ) → d < 2 → ones (word % 2 ^ k) ≡ tally (bit word) k → d + ones (word % 2 ^ k) ≡ pick (eqb d 1) (suc (tally (bit word) k)) (tally (bit word) k)
    by_digit zero h e = omega (arith, e)
    by_digit (suc zero) h e = omega (arith, e)
    by_digit (suc (suc d)) h e = absurd (omega arith)

-- so is a set of 128
pub half_tally : (h : Half) → h.low < 2 ^ 64 → h.high < 2 ^ 64 → count_half h ≡ tally (in_half h) 128
unfolding count_half in_half
half_tally h l k =
    let low : ones h.low ≡ tally (in_half h) 64 =
    ap ones (sym (mod-eq_of_lt l)) ∙ word_tally h.low 64 ∙ tally_same (bit h.low) (in_half h) 64 (λ i m. sym (rw (lt-ltb i 64 m))) in
    let high : ones h.high ≡ tally (λ i. in_half h (64 + i)) 64 =
    ap ones (sym (mod-eq_of_lt k)) ∙ word_tally h.high 64 ∙ tally_same (bit h.high) (λ i. in_half h (64 + i)) 64 (λ i m. sym (shifted i)) in
    omega (arith, low, high, tally_split (in_half h) 64 64)
  where
    shifted : (i : ℕ) → in_half h (64 + i) ≡ bit h.high i
    shifted i = let e : 64 + i - 64 ≡ i = omega arith in rw (le-ltb (64 + i) 64 (omega arith), e)

-- so are the listed leads
pub lead_tally : (h : Half) → h.low < 2 ^ 64 → h.high < 2 ^ 64 → count_half h ≡ tally (is_listed_lead h) 256
unfolding is_listed_lead
lead_tally h l k =
    let low : tally (is_listed_lead h) 128 ≡ 0 = tally_none (is_listed_lead h) 128 (λ i m. rw (lt-leb 0x80 i m)) in
    let high : tally (in_half h) 128 ≡ tally (λ i. is_listed_lead h (128 + i)) 128 =
    tally_same (in_half h) (λ i. is_listed_lead h (128 + i)) 128 (λ i m. sym (shifted i)) in
    omega (arith, low, high, half_tally h l k, tally_split (is_listed_lead h) 128 128)
  where
    shifted : (i : ℕ) → is_listed_lead h (128 + i) ≡ in_half h i
    shifted i = let e : 128 + i - 128 ≡ i = omega arith in rw (le-leb 128 (128 + i) (omega arith), e)
