-- The leads of a page as bits, and the block of a lead as the number of ones below it.
use mathlib.Core.Bool.{Bool, true, false, not, ◌||◌, true≢false}
use mathlib.Core.List.{List}
use mathlib.Core.Path.{◌≡◌, refl, sym, ap, ap₂, ◌∙◌, subst}
use Prim.Native.Nat.{ℕ, zero, suc, ◌+◌, ◌*◌, ◌/◌, ◌%◌, ◌^◌, ◌-◌, ◌<◌, ◌≤◌}
use native.Mathlib.Nat.{pow-suc, mul_assoc, mul_comm, add-mul, mod-eq_of_lt, mod-lt}
use native.Mathlib.Omega.{arith}
use lib.Bits.{bit_and, bit_or, and_mask, and_block}
use lib.Count.{ones, ones_step, ones_cat, ones-le, count_leading_zeros, count_trailing_zeros, under, leading_length, trailing_le, trailing_of_zero}
use lib.Dec.{ltb, eqb}
use lib.Pow.{pow_pos, pow_mono, pow-add, shl_lt, split as pow_split, low as pow_low}
use lib.ListN.{length, get_or-eq_default}
use borrow.Author.Tests.{ltb-true, ltb-false, eqb-true}
use Rattle.codepage.specs.CodePage.{CodePage, GoodShape, entry_at, is_known, is_lead, leads_below}
use Rattle.codepage.specs.Marks.{mark_of, NoLowLead}
use Rattle.codepage.proofs.MarkLaws.{mark_le, or_else, all_below, all_below_lem, below_next, below_steps, below_same, none_low}
use Rattle.codepage_lookup.specs.Profile.{lead_bits, leads_as, LeadsAt, KnownClasses, ones_below, block_of, side_by_side}
use Rattle.codepage_lookup.specs.Words.{word_in, WordAt}
use Rattle.codepage_lookup.specs.declared.profile.Leads.{Leads}

-- ---- digits
half_of : (m n : ℕ) → m ≤ 1 → (m + 2 * n) / 2 ≡ n
half_of m n h = omega arith

odd_of : (m n : ℕ) → m ≤ 1 → (m + 2 * n) % 2 ≡ m
odd_of m n h = omega arith

ones_none : ones 0 ≡ 0
unfolding ones
ones_none = refl

-- the lowest digit, and the ones of the rest
ones_next : (m n : ℕ) → m ≤ 1 → ones (m + 2 * n) ≡ m + ones n
ones_next m n h = ones_step (m + 2 * n) ∙ ap (λ (x : ℕ). x + ones ((m + 2 * n) / 2)) (odd_of m n h) ∙ ap (λ (x : ℕ). m + ones x) (half_of m n h)

-- the digits below a place, past the lowest
rest_below : (m n k : ℕ) → m ≤ 1 → (m + 2 * n) % 2 ^ suc k ≡ m + 2 * (n % 2 ^ k)
rest_below m n k h =
    let split : n / 2 ^ k * 2 ^ k + n % 2 ^ k ≡ n = pow_split n k in
    let least : n % 2 ^ k < 2 ^ k = mod-lt n (pow_pos k) in
    let whole : n / 2 ^ k * 2 ^ suc k ≡ n / 2 ^ k * 2 ^ k * 2 = ap (λ (x : ℕ). n / 2 ^ k * x) (pow-suc 2 k) ∙ sym (mul_assoc (n / 2 ^ k) (2 ^ k) 2) in
    let value : n / 2 ^ k * 2 ^ suc k + (m + 2 * (n % 2 ^ k)) ≡ m + 2 * n = omega (arith, split, whole) in
    sym (ap (λ (x : ℕ). x % 2 ^ suc k) value) ∙ pow_low (n / 2 ^ k) (suc k) (omega (arith, least, pow-suc 2 k))

-- ---- the leads among bytes, as bits
module _ (cs : List ℕ) where
  -- 1 for a lead, else 0
  bit : ℕ → ℕ
  bit byte = mark_of (is_lead (entry_at cs byte))

  bit_le : (byte : ℕ) → bit byte ≤ 1
  unfolding bit
  bit_le byte = mark_le (is_lead (entry_at cs byte)) _ refl

  bits_step : (from n : ℕ) → lead_bits cs from (suc n) ≡ bit from + 2 * lead_bits cs (suc from) n
  unfolding lead_bits bit
  bits_step from n = refl

  -- no bytes, no bits
  pub bits_none : (from : ℕ) → lead_bits cs from 0 ≡ 0
  unfolding lead_bits
  bits_none from = refl

  -- the bits of n bytes are a number below 2^n
  pub bits_lt : (from n : ℕ) → lead_bits cs from n < 2 ^ n
  bits_lt from zero = omega (arith, bits_none from)
  bits_lt from (suc n) = omega (arith, bits_step from n, bit_le from, bits_lt (suc from) n, pow-suc 2 n)

  below_bit : (byte : ℕ) → byte < length cs → leads_below cs (byte + 1) ≡ leads_below cs byte + bit byte
  unfolding bit
  below_bit byte h = below_next cs byte h

  -- the bits of some bytes, and those of the bytes behind them
  pub bits_join : (from a b : ℕ) → lead_bits cs from (a + b) ≡ lead_bits cs from a + 2 ^ a * lead_bits cs (from + a) b
  bits_join from zero b =
      let at : from + 0 ≡ from = omega arith in
      let count : 0 + b ≡ b = omega arith in
      rw (at, count) (omega (arith, bits_none from))
  bits_join from (suc a) b =
      let at : suc from + a ≡ from + suc a = omega arith in
      let count : suc a + b ≡ suc (a + b) = omega arith in
      let rest : lead_bits cs (suc from) (a + b) ≡ lead_bits cs (suc from) a + 2 ^ a * lead_bits cs (from + suc a) b =
      bits_join (suc from) a b ∙ ap (λ (x : ℕ). lead_bits cs (suc from) a + 2 ^ a * lead_bits cs x b) at in
      let twice : 2 ^ suc a * lead_bits cs (from + suc a) b ≡ 2 * (2 ^ a * lead_bits cs (from + suc a) b) =
      ap (λ (x : ℕ). x * lead_bits cs (from + suc a) b) (pow-suc 2 a ∙ mul_comm (2 ^ a) 2) ∙ mul_assoc 2 (2 ^ a) (lead_bits cs (from + suc a) b) in
      ap (lead_bits cs from) count ∙ omega (arith, bits_step from (a + b), bits_step from a, rest, twice)

  -- the ones below a place are the leads of the bytes before it
  pub bits_ones : (from n k : ℕ) → k ≤ n → from + n ≤ length cs → leads_below cs (from + k) ≡ leads_below cs from + ones (lead_bits cs from n % 2 ^ k)
  bits_ones from n zero h l =
      let at : from + 0 ≡ from = omega arith in
      let none : lead_bits cs from n % 2 ^ 0 ≡ 0 = omega arith in
      ap (leads_below cs) at ∙ omega (arith, ap ones none ∙ ones_none)
  bits_ones from zero (suc k) h l = absurd (omega arith)
  bits_ones from (suc n) (suc k) h l =
      let at : from + suc k ≡ suc from + k = omega arith in
      let next : from + 1 ≡ suc from = omega arith in
      let digits : ones (lead_bits cs from (suc n) % 2 ^ suc k) ≡ bit from + ones (lead_bits cs (suc from) n % 2 ^ k) =
      ap (λ (x : ℕ). ones (x % 2 ^ suc k)) (bits_step from n) ∙ ap ones (rest_below (bit from) (lead_bits cs (suc from) n) k (bit_le from)) ∙ ones_next (bit from) (lead_bits cs (suc from) n % 2 ^ k) (bit_le from) in
      let more : leads_below cs (suc from) ≡ leads_below cs from + bit from = sym (ap (leads_below cs) next) ∙ below_bit from (omega arith) in
      ap (leads_below cs) at ∙ omega (arith, digits, more, bits_ones (suc from) n k (omega arith) (omega arith))

  -- all the ones of some bytes' bits
  pub all_ones : (from n : ℕ) → from + n ≤ length cs → leads_below cs (from + n) ≡ leads_below cs from + ones (lead_bits cs from n)
  all_ones from n l = bits_ones from n n (omega arith) l ∙ ap (λ (x : ℕ). leads_below cs from + ones x) (mod-eq_of_lt (bits_lt from n))

  -- the ones below a place, by a mask
  pub masked_ones : (from n k : ℕ) → k ≤ n → from + n ≤ length cs → leads_below cs (from + k) ≡ leads_below cs from + ones_below (lead_bits cs from n) k
  masked_ones from n k h l = bits_ones from n k h l ∙ ap (λ (x : ℕ). leads_below cs from + ones x) (sym (and_mask (lead_bits cs from n) k))

-- ---- a lead is a byte from 80 on
no_class : is_lead 0 ≡ false
unfolding is_lead
no_class = refl

lead_inside : (cs : List ℕ) (byte : ℕ) → is_lead (entry_at cs byte) ≡ true → byte < length cs
lead_inside cs byte e = by_inside (ltb byte (length cs)) refl
  where
    by_inside : (t : Bool) → ltb byte (length cs) ≡ t → byte < length cs
    by_inside true q = ltb-true byte (length cs) q
    by_inside false q = absurd (true≢false (sym e ∙ ap is_lead (get_or-eq_default cs 0 (ltb-false byte (length cs) q)) ∙ no_class))

-- where no lead is below 80, a lead is 80 or more
pub lead_high : (cs : List ℕ) (lead : ℕ) → NoLowLead cs → is_lead (entry_at cs lead) ≡ true → 0x80 ≤ lead
lead_high cs lead low e = by_low (ltb lead 0x80) refl
  where
    by_low : (t : Bool) → ltb lead 0x80 ≡ t → 0x80 ≤ lead
    by_low true q = absurd (true≢false (sym e ∙ low lead (ltb-true lead 0x80 q)))
    by_low false q = ltb-false lead 0x80 q

-- ---- the block of a lead is the number of leads below it
pub block_below : (cs : List ℕ) (lead : ℕ) → length cs ≡ 256 → NoLowLead cs → is_lead (entry_at cs lead) ≡ true → block_of (leads_as cs) lead ≡ leads_below cs lead
unfolding block_of
block_below cs lead size low e = by_half (ltb lead 0xC0) refl
  where
    from_80 : 0x80 ≤ lead
    from_80 = lead_high cs lead low e

    in_table : lead < 256
    in_table = subst (λ (n : ℕ). lead < n) size (lead_inside cs lead e)

    by_half : (t : Bool) → ltb lead 0xC0 ≡ t → block_of (leads_as cs) lead ≡ leads_below cs lead
    by_half true q =
        let below : lead < 0xC0 = ltb-true lead 0xC0 q in
        let at : 0x80 + (lead - 0x80) ≡ lead = omega (arith, from_80) in
        let ones_of = masked_ones cs 0x80 64 (lead - 0x80) (omega arith) (omega arith) in
        rw q (omega (arith, none_low cs size low, rw at at ones_of))
    by_half false q =
        let above : 0xC0 ≤ lead = ltb-false lead 0xC0 q in
        let at : 0xC0 + (lead - 0xC0) ≡ lead = omega arith in
        let ones_of = masked_ones cs 0xC0 64 (lead - 0xC0) (omega (arith, in_table)) (omega arith) in
        rw q (omega (arith, none_low cs size low, all_ones cs 0x80 64 (omega arith), rw at at ones_of))

-- For every good shape: the promise of CR 6.
pub ones_below_lem : (p : CodePage) → GoodShape p → (lead : ℕ) → is_lead (entry_at p.classes lead) ≡ true → block_of (leads_as p.classes) lead ≡ leads_below p.classes lead
ones_below_lem p good lead e = block_below p.classes lead good.classes good.low e

-- ---- ones that stand side by side
no_mark : (t : Bool) → mark_of t ≡ 0 → t ≡ false
no_mark true e = absurd (omega arith)
no_mark false e = refl

trailing_next : (n m r : ℕ) → m ≤ 1 → count_trailing_zeros (suc n) (m + 2 * r) ≡ under m (count_trailing_zeros n r)
unfolding count_trailing_zeros
trailing_next n m r h = ap (λ (x : ℕ). under x (count_trailing_zeros n ((m + 2 * r) / 2))) (odd_of m r h) ∙ ap (λ (x : ℕ). under m (count_trailing_zeros n x)) (half_of m r h)

module _ (cs : List ℕ) where
  no_lead : (byte : ℕ) → bit cs byte ≡ 0 → is_lead (entry_at cs byte) ≡ false
  unfolding bit
  no_lead byte e = no_mark (is_lead (entry_at cs byte)) e

  -- no lead stands below the trailing zeros
  none_below : (from n k : ℕ) → k < count_trailing_zeros n (lead_bits cs from n) → is_lead (entry_at cs (from + k)) ≡ false
  none_below from zero k h = absurd (omega (arith, trailing_le 0 (lead_bits cs from 0)))
  none_below from (suc n) k h = by_bit (bit cs from) refl (none_below (suc from) n) k h
    where
      zeros : count_trailing_zeros (suc n) (lead_bits cs from (suc n)) ≡ under (bit cs from) (count_trailing_zeros n (lead_bits cs (suc from) n))
      zeros = ap (count_trailing_zeros (suc n)) (bits_step cs from n) ∙ trailing_next n (bit cs from) (lead_bits cs (suc from) n) (bit_le cs from)

      by_bit : (m : ℕ) → bit cs from ≡ m → ((k : ℕ) → k < count_trailing_zeros n (lead_bits cs (suc from) n) → is_lead (entry_at cs (suc from + k)) ≡ false)
          → (k : ℕ) → k < count_trailing_zeros (suc n) (lead_bits cs from (suc n)) → is_lead (entry_at cs (from + k)) ≡ false
      by_bit zero e rest zero h =
          let at : from + 0 ≡ from = omega arith in
          rw at (no_lead from e)
      by_bit zero e rest (suc k) h =
          let at : from + suc k ≡ suc from + k = omega arith in
          let one_more : count_trailing_zeros (suc n) (lead_bits cs from (suc n)) ≡ suc (count_trailing_zeros n (lead_bits cs (suc from) n)) = zeros ∙ ap (λ (x : ℕ). under x (count_trailing_zeros n (lead_bits cs (suc from) n))) e in
          rw at (rest k (omega (arith, one_more)))
      by_bit (suc m) e rest k h =
          let none : count_trailing_zeros (suc n) (lead_bits cs from (suc n)) ≡ 0 = zeros ∙ ap (λ (x : ℕ). under x (count_trailing_zeros n (lead_bits cs (suc from) n))) e in
          absurd (omega (arith, none))

  -- nor from a place on that the number of the bits does not reach
  none_above : (from n m k : ℕ) → lead_bits cs from n < 2 ^ m → m ≤ k → k < n → is_lead (entry_at cs (from + k)) ≡ false
  none_above from zero m k b h l = absurd (omega arith)
  none_above from (suc n) zero zero b h l =
      let at : from + 0 ≡ from = omega arith in
      rw at (no_lead from (omega (arith, bits_step cs from n)))
  none_above from (suc n) zero (suc k) b h l =
      let at : from + suc k ≡ suc from + k = omega arith in
      rw at (none_above (suc from) n zero k (omega (arith, bits_step cs from n)) (omega arith) (omega arith))
  none_above from (suc n) (suc m) zero b h l = absurd (omega arith)
  none_above from (suc n) (suc m) (suc k) b h l =
      let at : from + suc k ≡ suc from + k = omega arith in
      rw at (none_above (suc from) n m k (omega (arith, bits_step cs from n, pow-suc 2 m)) (omega arith) (omega arith))

never : (t : Bool) → (t ≡ true → ⊥) → t ≡ false
never true n = absurd (n refl)
never false n = refl

-- among 64 bytes with so many leads, none before the place `first` and none from the place `end` on
module _ (cs : List ℕ) (from first end count : ℕ) (fits : from + 64 ≤ length cs) (total : leads_below cs (from + 64) ≡ leads_below cs from + count)
    (before : (k : ℕ) → k < first → k < 64 → is_lead (entry_at cs (from + k)) ≡ false) (behind : (k : ℕ) → end ≤ k → k < 64 → is_lead (entry_at cs (from + k)) ≡ false) where
  -- up to a lead, and from it on, every byte counts at most once
  up_to : (k : ℕ) → k < 64 → first ≤ k → leads_below cs (from + k) + first ≤ leads_below cs from + k
  up_to k b f =
      let none = below_same cs from first (omega arith) (λ j l. before j l (omega arith)) in
      let some = below_steps cs (from + first) (k - first) (omega arith) in
      let at : from + first + (k - first) ≡ from + k = omega arith in
      omega (arith, none, rw at at some)

  on_from_lem : (k : ℕ) → k < end → end ≤ 64 → leads_below cs from + count + k ≤ leads_below cs (from + k) + end
  on_from_lem k b l =
      let some = below_steps cs (from + k) (end - k) (omega arith) in
      let at : from + k + (end - k) ≡ from + end = omega arith in
      let none = below_same cs (from + end) (64 - end) (omega arith) (λ j o. let p : from + end + j ≡ from + (end + j) = omega arith in rw p (behind (end + j) (omega arith) (omega arith))) in
      let all : from + end + (64 - end) ≡ from + 64 = omega arith in
      omega (arith, total, rw at at some, rw all at none)

  -- where there is no room for a gap, a lead's block is its distance to the first place
  side_by_side_lem : end ≤ 64 → end ≤ first + count → (k : ℕ) → k < 64 → is_lead (entry_at cs (from + k)) ≡ true → leads_below cs (from + k) + first ≡ leads_below cs from + k
  side_by_side_lem l r k b e = by_first (ltb k first) refl (ltb k end) refl
    where
      by_first : (s : Bool) → ltb k first ≡ s → (t : Bool) → ltb k end ≡ t → leads_below cs (from + k) + first ≡ leads_below cs from + k
      by_first true p t q = absurd (true≢false (sym e ∙ before k (ltb-true k first p) b))
      by_first false p true q = omega (arith, up_to k b (ltb-false k first p), on_from_lem k (ltb-true k end q) l)
      by_first false p false q = absurd (true≢false (sym e ∙ behind k (ltb-false k end q) b))

-- where the ones of a word stand side by side
run_block : (cs : List ℕ) (from : ℕ) → from + 64 ≤ length cs → side_by_side (lead_bits cs from 64) ≡ true → (k : ℕ) → k < 64 → is_lead (entry_at cs (from + k)) ≡ true
    → leads_below cs (from + k) + count_trailing_zeros 64 (lead_bits cs from 64) ≡ leads_below cs from + k
unfolding side_by_side
run_block cs from fits run k b e = by_zero (eqb (lead_bits cs from 64) 0) refl
  where
    by_zero : (t : Bool) → eqb (lead_bits cs from 64) 0 ≡ t → leads_below cs (from + k) + count_trailing_zeros 64 (lead_bits cs from 64) ≡ leads_below cs from + k
    by_zero true q =
        let none : lead_bits cs from 64 < 2 ^ 0 = omega (arith, eqb-true (lead_bits cs from 64) 0 q) in
        absurd (true≢false (sym e ∙ none_above cs from 64 0 k none (omega arith) b))
    by_zero false q =
        let sum : ℕ = count_leading_zeros 64 (lead_bits cs from 64) + ones (lead_bits cs from 64) + count_trailing_zeros 64 (lead_bits cs from 64) in
        let digits : sum ≡ 64 = eqb-true sum 64 (or_else (eqb (lead_bits cs from 64) 0) (eqb sum 64) q run) in
        let size = leading_length 64 (lead_bits cs from 64) (bits_lt cs from 64) in
        side_by_side_lem cs from (count_trailing_zeros 64 (lead_bits cs from 64)) size.0 (ones (lead_bits cs from 64)) fits (all_ones cs from 64 fits) (λ j l o. none_below cs from 64 j l)
        (λ j l o. none_above cs from 64 size.0 j size.2 l o) (omega (arith, size.1)) (omega (arith, size.1, digits)) k b e

-- the ones of a word that stand side by side end within it
pub run_within : (word : ℕ) → side_by_side word ≡ true → count_trailing_zeros 64 word + ones word ≤ 64
unfolding side_by_side
run_within word run = by_zero (eqb word 0) refl
  where
    by_zero : (t : Bool) → eqb word 0 ≡ t → count_trailing_zeros 64 word + ones word ≤ 64
    by_zero true q =
        let none : word ≡ 0 = eqb-true word 0 q in
        subst (λ (n : ℕ). count_trailing_zeros 64 n + ones n ≤ 64) (sym none) (omega (arith, trailing_of_zero 64, ones-le 0 0 (omega arith)))
    by_zero false q =
        let sum : ℕ = count_leading_zeros 64 word + ones word + count_trailing_zeros 64 word in
        let digits : sum ≡ 64 = eqb-true sum 64 (or_else (eqb word 0) (eqb sum 64) q run) in
        omega (arith, digits)

-- the block of a lead as its distance to the byte `low`, less that from there to `high` where its bit 6 is set
abbrev pub Distance : (cs : List ℕ) (lead low high : ℕ) → Type 0
Distance cs lead low high = (low ≤ lead) × (low ≤ high) × ((high - low) * (lead / 64 % 2) ≤ lead - low) × (lead - low - (high - low) * (lead / 64 % 2) ≡ leads_below cs lead)

-- the block of a lead as a distance, in the low word and in the high one
module _ (cs : List ℕ) (lead : ℕ) (size : length cs ≡ 256) (e : is_lead (entry_at cs lead) ≡ true) where
  low_distance : NoLowLead cs → lead < 0xC0 → side_by_side (lead_bits cs 0x80 64) ≡ true → leads_below cs lead + (0x80 + count_trailing_zeros 64 (lead_bits cs 0x80 64)) ≡ lead
  low_distance low h run =
      let from : 0x80 ≤ lead = lead_high cs lead low e in
      let at : 0x80 + (lead - 0x80) ≡ lead = omega arith in
      let block = run_block cs 0x80 (omega arith) run (lead - 0x80) (omega arith) (rw at e) in
      omega (arith, none_low cs size low, rw at at block)

  high_distance : NoLowLead cs → 0xC0 ≤ lead → side_by_side (lead_bits cs 0xC0 64) ≡ true
      → (0xC0 + count_trailing_zeros 64 (lead_bits cs 0xC0 64) ≤ lead) × (leads_below cs lead + (0xC0 + count_trailing_zeros 64 (lead_bits cs 0xC0 64)) ≡ ones (lead_bits cs 0x80 64) + lead)
  high_distance low h run =
      let in_table : lead < 256 = subst (λ (n : ℕ). lead < n) size (lead_inside cs lead e) in
      let at : 0xC0 + (lead - 0xC0) ≡ lead = omega arith in
      let block = run_block cs 0xC0 (omega arith) run (lead - 0xC0) (omega arith) (rw at e) in
      let more = bits_ones cs 0xC0 64 (lead - 0xC0) (omega arith) (omega arith) in
      (omega (arith, block, more), omega (arith, none_low cs size low, all_ones cs 0x80 64 (omega arith), rw at at block))

  -- the same of words that are the page's
  module _ (l : Leads) (at : LeadsAt cs l) where
    -- the block of a lead is the number of leads below it
    pub block_at : block_of l lead ≡ leads_below cs lead
    block_at = ap (λ (x : Leads). block_of x lead) at.0 ∙ block_below cs lead size at.1 e

    -- a lead of 80 to BF, where the ones of that word stand side by side: its block is its distance to the first lead
    pub low_in_run : lead < 0xC0 → side_by_side l.low ≡ true → leads_below cs lead + (0x80 + count_trailing_zeros 64 l.low) ≡ lead
    low_in_run h = subst (λ (x : Leads). side_by_side x.low ≡ true → leads_below cs lead + (0x80 + count_trailing_zeros 64 x.low) ≡ lead) (sym at.0) (low_distance at.1 h)

    -- the same of a lead of C0 to FF: its distance to the first lead there, and as many as there are leads of 80 to BF
    pub high_in_run : 0xC0 ≤ lead → side_by_side l.high ≡ true → (0xC0 + count_trailing_zeros 64 l.high ≤ lead) × (leads_below cs lead + (0xC0 + count_trailing_zeros 64 l.high) ≡ ones l.low + lead)
    high_in_run h =
        subst (λ (x : Leads). side_by_side x.high ≡ true → (0xC0 + count_trailing_zeros 64 x.high ≤ lead) × (leads_below cs lead + (0xC0 + count_trailing_zeros 64 x.high) ≡ ones x.low + lead))
        (sym at.0) (high_distance at.1 h)

    -- the same of both words: a lead of C0 to FF has bit 6
    pub in_runs : side_by_side l.low ≡ true → side_by_side l.high ≡ true → (low high : ℕ) → low ≡ 0x80 + count_trailing_zeros 64 l.low → high + ones l.low ≡ 0xC0 + count_trailing_zeros 64 l.high
        → Distance cs lead low high
    in_runs run₀ run₁ low high f g = by_word (ltb lead 0xC0) refl
      where
        ordered : low ≤ high
        ordered = omega (arith, f, g, run_within l.low run₀)

        by_word : (t : Bool) → ltb lead 0xC0 ≡ t → Distance cs lead low high
        by_word true q =
            let below = ltb-true lead 0xC0 q in
            let from : 0x80 ≤ lead = lead_high cs lead at.1 e in
            let bit : lead / 64 % 2 ≡ 0 = omega arith in
            let block = low_in_run below run₀ in
            rw bit (omega (arith, f, block), ordered, omega arith, omega (arith, f, block))
        by_word false q =
            let from = ltb-false lead 0xC0 q in
            let in_table : lead < 256 = subst (λ (n : ℕ). lead < n) size (lead_inside cs lead e) in
            let bit : lead / 64 % 2 ≡ 1 = omega arith in
            let block = high_in_run from run₁ in
            rw bit (omega (arith, f, run_within l.low run₀), ordered, omega (arith, f, g, block.0, run_within l.low run₀), omega (arith, f, g, block.1, run_within l.low run₀))

-- ---- eight classes as one word
-- bit 1 of a known class tells a lead
bit_right : ℕ → Bool
bit_right class = not (is_known class) || eqb (bit_and class 2) (2 * mark_of (is_lead class))

bit_right_lem : all_below bit_right 256 ≡ true
unfolding bit_right is_known is_lead
bit_right_lem = refl

class_bit : (class : ℕ) → class < 256 → is_known class ≡ true → bit_and class 2 ≡ 2 * mark_of (is_lead class)
unfolding bit_right
class_bit class h k =
    let twice = 2 * mark_of (is_lead class) in
    eqb-true _ _ (or_else (not (is_known class)) (eqb (bit_and class 2) twice) (ap not k) (all_below_lem bit_right 256 bit_right_lem class h))

class_at : (cs : List ℕ) (i : ℕ) → ((k : ℕ) → entry_at cs k < 256) → KnownClasses cs → i < 256 → bit_and (entry_at cs i) 2 ≡ 2 * bit cs i
unfolding bit
class_at cs i small known h = class_bit (entry_at cs i) (small i) (known i h)

-- a number's lowest digits, each in a byte of its own
unfoldable spread : (count number : ℕ) → ℕ
spread zero number = 0
spread (suc count) number = number % 2 + 256 * spread count (number / 2)

-- so many bytes with bit 1 alone
unfoldable twos : ℕ → ℕ
twos zero = 0
twos (suc count) = 2 + 256 * twos count

-- a byte at a time
mask_step : (e word mask : ℕ) → e < 256 → bit_and (e + 256 * word) (2 + 256 * mask) ≡ 256 * bit_and word mask + bit_and e 2
mask_step e word mask h =
    let l : e + 256 * word ≡ word * 2 ^ 8 + e = omega arith in
    let r : 2 + 256 * mask ≡ mask * 2 ^ 8 + 2 = omega arith in
    ap₂ bit_and l r ∙ and_block 8 word mask e 2 h (omega arith) ∙ omega arith

-- the bits 1 of a word of known classes are its leads, each in its byte
word_leads : (cs : List ℕ) (n i : ℕ) → ((k : ℕ) → entry_at cs k < 256) → KnownClasses cs → i + n ≤ 256 → bit_and (word_in n cs i) (twos n) ≡ 2 * spread n (lead_bits cs i n)
unfolding word_in twos spread
word_leads cs zero i small known h = refl
word_leads cs (suc n) i small known h =
    let rest = lead_bits cs (suc i) n in
    let next : i + 1 ≡ suc i = omega arith in
    let here = class_at cs i small known (omega arith) in
    let later : bit_and (word_in n cs (i + 1)) (twos n) ≡ 2 * spread n rest = ap (λ (x : ℕ). bit_and (word_in n cs x) (twos n)) next ∙ word_leads cs n (suc i) small known (omega arith) in
    let low : lead_bits cs i (suc n) % 2 ≡ bit cs i = ap (λ (x : ℕ). x % 2) (bits_step cs i n) ∙ odd_of (bit cs i) rest (bit_le cs i) in
    let high : lead_bits cs i (suc n) / 2 ≡ rest = ap (λ (x : ℕ). x / 2) (bits_step cs i n) ∙ half_of (bit cs i) rest (bit_le cs i) in
    mask_step (entry_at cs i) (word_in n cs (i + 1)) (twos n) (small i) ∙ omega (arith, here, later, low, ap (spread n) high)

-- eight digits, each in a byte of its own, brought side by side: those of the upper four bytes go between the others, and a product adds up all at one place
abbrev folded : ℕ → ℕ
folded marks = bit_and (bit_or marks (marks / 2 ^ 28)) 0x11111111

abbrev gathered : ℕ → ℕ
gathered marks = bit_and (folded marks * 0x204081 / 2 ^ 21) 0xFF

gather_right : ℕ → Bool
gather_right number = eqb (gathered (spread 8 number)) number

gather_right_lem : all_below gather_right 256 ≡ true
unfolding gather_right spread
gather_right_lem = refl

gather_spread : (number : ℕ) → number < 256 → gathered (spread 8 number) ≡ number
unfolding gather_right
gather_spread number h = eqb-true _ _ (all_below_lem gather_right 256 gather_right_lem number h)

-- eight known classes, read as a word, give the bits of their leads
pub eight_leads : (cs : List ℕ) (i word : ℕ) → WordAt cs i word → KnownClasses cs → i + 8 ≤ 256 → gathered (bit_and word 0x0202020202020202 / 2) ≡ lead_bits cs i 8
unfolding twos
eight_leads cs i word a known h =
    let lead_bits = lead_bits cs i 8 in
    let marks : bit_and word 0x0202020202020202 ≡ 2 * spread 8 lead_bits = ap (λ (x : ℕ). bit_and x 0x0202020202020202) a.value ∙ word_leads cs 8 i a.bytes known h in
    let half : bit_and word 0x0202020202020202 / 2 ≡ spread 8 lead_bits = omega (arith, marks) in
    ap gathered half ∙ gather_spread lead_bits (bits_lt cs i 8)

-- ---- the words, made from the last byte on: shifted by eight, with the bits of the eight bytes before
pub eight_more : (cs : List ℕ) (from i word eight : ℕ) → 8 ≤ i → i ≤ 64 → word ≡ lead_bits cs (from + i) (64 - i) → eight ≡ lead_bits cs (from + (i - 8)) 8
    → word * 2 ^ 8 % 2 ^ 64 + eight ≡ lead_bits cs (from + (i - 8)) (64 - (i - 8))
eight_more cs from i word eight h l met e =
    let count : 8 + (64 - i) ≡ 64 - (i - 8) = omega arith in
    let at : from + (i - 8) + 8 ≡ from + i = omega arith in
    let join : lead_bits cs (from + (i - 8)) (64 - (i - 8)) ≡ eight + 256 * word =
    ap (lead_bits cs (from + (i - 8))) (sym count) ∙ bits_join cs (from + (i - 8)) 8 (64 - i)
    ∙ ap₂ (λ (x y : ℕ). x + 256 * y) (sym e) (ap (λ (x : ℕ). lead_bits cs x (64 - i)) at ∙ sym met) in
    let most : 2 ^ (64 - i) ≤ 2 ^ 56 = pow_mono {i = 64 - i} {j = 56} (omega arith) in
    let small : word < 2 ^ 56 = omega (arith, met, bits_lt cs (from + i) (64 - i), most) in
    let kept : word * 2 ^ 8 % 2 ^ 64 ≡ 256 * word = omega (arith, small) in
    omega (arith, join, kept)

-- what stands below a place, with all from it on shifted out of the word
pub shifted_ones : (word place : ℕ) → place < 64 → ones (word * 2 ^ (63 - place) % 2 ^ 64 * 2 % 2 ^ 64) ≡ ones_below word place
shifted_ones word place h =
    let more = 64 - place in
    let rest = word % 2 ^ place in
    let front = word / 2 ^ place in
    let step : suc (63 - place) ≡ more = omega arith in
    let power : 2 ^ (63 - place) * 2 ≡ 2 ^ more = sym (pow-suc 2 (63 - place)) ∙ ap (λ (k : ℕ). 2 ^ k) step in
    let twice : word * 2 ^ (63 - place) * 2 ≡ word * 2 ^ more = mul_assoc word (2 ^ (63 - place)) 2 ∙ ap (λ (x : ℕ). word * x) power in
    let size : place + more ≡ 64 = omega arith in
    let high : front * 2 ^ place * 2 ^ more ≡ front * 2 ^ 64 = mul_assoc front (2 ^ place) (2 ^ more) ∙ ap (λ (x : ℕ). front * x) (sym (pow-add 2 place more) ∙ ap (λ (k : ℕ). 2 ^ k) size) in
    let parts : word * 2 ^ more ≡ front * 2 ^ 64 + rest * 2 ^ more =
    ap (λ (x : ℕ). x * 2 ^ more) (sym (pow_split word place)) ∙ add-mul (front * 2 ^ place) rest (2 ^ more) ∙ ap (λ (x : ℕ). x + rest * 2 ^ more) high in
    let fits : rest * 2 ^ more < 2 ^ 64 = subst (λ (k : ℕ). rest * 2 ^ more < 2 ^ k) size (shl_lt place more (mod-lt word (pow_pos place))) in
    let left : word * 2 ^ (63 - place) % 2 ^ 64 * 2 % 2 ^ 64 ≡ rest * 2 ^ more =
    once (word * 2 ^ (63 - place)) ∙ ap (λ (x : ℕ). x % 2 ^ 64) (twice ∙ parts) ∙ pow_low front 64 fits in
    let none : rest * 2 ^ more + 0 ≡ rest * 2 ^ more = omega arith in
    ap ones (left ∙ sym none) ∙ ones_cat more rest 0 (pow_pos more) ∙ omega (arith, ones_none) ∙ sym (ap ones (and_mask word place))
  where
    once : (a : ℕ) → a % 2 ^ 64 * 2 % 2 ^ 64 ≡ a * 2 % 2 ^ 64
    once a = omega arith

-- a word has at most 64 ones
pub few_ones : (word : ℕ) → word < 2 ^ 64 → ones word ≤ 64
few_ones word h = ones-le 64 word h
