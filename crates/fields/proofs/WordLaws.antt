-- Laws of four units as one word: what its marks tell of the units.
use mathlib.Core.Bool.{Bool, true, false, ◌||◌}
use mathlib.Core.List.{List, [], ◌∷◌}
use mathlib.Core.Option.{Option, none, some}
use mathlib.Core.Path.{◌≡◌, refl, sym, ap, ap₂, ◌∙◌, subst}
use Prim.Native.Nat.{ℕ, zero, suc, ◌+◌, ◌*◌, ◌/◌, ◌%◌, ◌^◌, ◌<◌, ◌≤◌}
use native.Mathlib.Numerals.{add-one}
use native.Mathlib.Omega.{arith}
use lib.Dec.{eqb, leb}
use lib.ListN.{length, get_or, take, drop, length-drop}
use lib.Seq.{drop-cons, drop-drop, length-take-le}
use lib.Bits.{bit_and, bit_or, bit_xor, block_half, block_odd, shifted_half, shifted_even, and_le_l, and_le_r, and_lt, or_lt, xor_lt, and_mask, and_high, and_shr, or_shr, and_block, or_block, xor_block, xor_self, xor_add_and}
use lib.Count.{count_trailing_zeros, under, trailing_le, trailing_of_zero}
use borrow.Author.Tests.{eqb-true, eqb-false, leb-true, leb-false}
use Rattle.codepage.specs.CodePage.{pick}
use Rattle.fields.specs.declared.End.{End}
use Rattle.fields.specs.Fields.{separator, units_before, field_units}
use Rattle.fields.specs.Steps.{is_separator, NoSeparator, four_at, word_of, AreUnits, WordAt, marks_of, nonzero_marked}
use Rattle.fields.proofs.CallLaws.{no_separator, is_separator_lem}

-- ---- zeros at a number's end
-- a sum that computes at its first number
unfoldable plus : (j k : ℕ) → ℕ
plus zero k = k
plus (suc j) k = suc (plus j k)

plus_sum : (j k : ℕ) → plus j k ≡ j + k
unfolding plus
plus_sum zero k = omega arith
plus_sum (suc j) k = omega (arith, plus_sum j k)

-- j zeros below a number
zeros_below : (j k n : ℕ) → count_trailing_zeros (plus j k) (n * 2 ^ j) ≡ plus j (count_trailing_zeros k n)
unfolding count_trailing_zeros plus
zeros_below zero k n = let e : n * 1 ≡ n = omega arith in ap (count_trailing_zeros k) e
zeros_below (suc j) k n = ap₂ (λ (d h : ℕ). under d (count_trailing_zeros (plus j k) h)) (shifted_even n j) (shifted_half n j) ∙ ap suc (zeros_below j k n)

-- j zeros below a bit
zeros_below_bit : (j k n : ℕ) → count_trailing_zeros (plus (suc j) k) (n * 2 ^ suc j + 1 * 2 ^ j) ≡ j
unfolding count_trailing_zeros plus
zeros_below_bit zero k n =
    let r : (n * 2 + 1) % 2 ≡ 1 = omega arith in
    ap (λ (d : ℕ). under d (count_trailing_zeros k ((n * 2 + 1) / 2))) r
zeros_below_bit (suc j) k n =
    ap₂ (λ (d h : ℕ). under d (count_trailing_zeros (plus (suc j) k) h))
    (block_odd n (suc j) (1 * 2 ^ suc j) ∙ shifted_even 1 j)
    (block_half n (suc j) (1 * 2 ^ suc j) ∙ ap (λ (h : ℕ). n * 2 ^ suc j + h) (shifted_half 1 j))
    ∙ ap suc (zeros_below_bit j k n)

-- ---- one unit
-- one of two bits is set
one_set : (a b : ℕ) → a ≤ 1 → b ≤ 1 → 0 < a + b → bit_or a b ≡ 1
one_set zero zero h f s = absurd (omega arith)
one_set zero (suc zero) h f s = refl
one_set (suc zero) zero h f s = refl
one_set (suc zero) (suc zero) h f s = refl
one_set zero (suc (suc b)) h f s = absurd (omega arith)
one_set (suc zero) (suc (suc b)) h f s = absurd (omega arith)
one_set (suc (suc a)) b h f s = absurd (omega arith)

-- the top bit of a unit that is not 0 is set
top_nonzero : (x : ℕ) → 0 < x → x < 0x10000 → nonzero_marked 0x7FFF x / 2 ^ 15 ≡ 1
top_nonzero x s h =
    or_shr (bit_and x 0x7FFF + 0x7FFF) x 15
    ∙ ap (λ (l : ℕ). bit_or ((l + 0x7FFF) / 0x8000) (x / 0x8000)) (and_mask x 15)
    ∙ one_set ((x % 0x8000 + 0x7FFF) / 0x8000) (x / 0x8000) (omega arith) (omega arith) (omega arith)

-- two numbers that are not equal differ in a bit
differs : (e c : ℕ) → (e ≡ c → ⊥) → 0 < bit_xor e c
differs e c d = by (bit_xor e c) refl
  where
    by : (x : ℕ) → bit_xor e c ≡ x → 0 < bit_xor e c
    by zero q = absurd (d (omega (arith, xor_add_and e c, and_le_l e c, and_le_r e c, q)))
    by (suc x) q = omega (arith, q)

-- as the program marks the units of a word that are no separators, for words of any number of units: `low` has the bits of each unit below
-- its top bit, and `c`, `bar`, `feed` and `top` have the same number at each
abbrev others : (low c word : ℕ) → ℕ
others low c word = nonzero_marked low (bit_xor word c)

abbrev marked : (low bar feed top word : ℕ) → ℕ
marked low bar feed top word = bit_and (bit_and (others low bar word) (others low feed word)) top

-- the top bit is 1 for a unit that is another than c, else 0
top_other : (e c : ℕ) → e < 0x10000 → c < 0x10000 → others 0x7FFF c e / 2 ^ 15 ≡ pick (eqb e c) 0 1
top_other e c h f = by (eqb e c) refl
  where
    by : (t : Bool) → eqb e c ≡ t → others 0x7FFF c e / 2 ^ 15 ≡ pick t 0 1
    by true q = ap (λ (x : ℕ). nonzero_marked 0x7FFF x / 2 ^ 15) (ap (λ (y : ℕ). bit_xor y c) (eqb-true e c q) ∙ xor_self c)
    by false q = top_nonzero (bit_xor e c) (differs e c (eqb-false e c q)) (xor_lt 16 e c h f)

-- one unit has the mark that it should have
marked_unit : (e : ℕ) → e < 0x10000 → marked 0x7FFF 0x7C 0x0A 0x8000 e ≡ pick (is_separator e) 0 0x8000
marked_unit e h =
    and_high (bit_and (others 0x7FFF 0x7C e) (others 0x7FFF 0x0A e)) 1 15
    ∙ ap (λ (t : ℕ). (t % 2) * 0x8000)
    (and_shr (others 0x7FFF 0x7C e) (others 0x7FFF 0x0A e) 15 ∙ ap₂ bit_and (top_other e 0x7C h (omega arith)) (top_other e 0x0A h (omega arith)))
    ∙ by (eqb e 0x7C) (eqb e 0x0A)
  where
    by : (a b : Bool) → (bit_and (pick a 0 1) (pick b 0 1) % 2) * 0x8000 ≡ pick (a || b) 0 0x8000
    by true true = refl
    by true false = refl
    by false true = refl
    by false false = refl

-- ---- one unit more: no sum carries out of it
nonzero_step : (L W e : ℕ) → e < 0x10000 → nonzero_marked (L * 0x10000 + 0x7FFF) (W * 0x10000 + e) ≡ nonzero_marked L W * 0x10000 + nonzero_marked 0x7FFF e
nonzero_step L W e h =
    let apart : bit_and (W * 0x10000 + e) (L * 0x10000 + 0x7FFF) + (L * 0x10000 + 0x7FFF) ≡ (bit_and W L + L) * 0x10000 + (bit_and e 0x7FFF + 0x7FFF) =
    omega (arith, and_block 16 W L e 0x7FFF h (omega arith)) in
    ap (λ (x : ℕ). bit_or x (W * 0x10000 + e)) apart ∙ or_block 16 (bit_and W L + L) W (bit_and e 0x7FFF + 0x7FFF) e (omega (arith, and_le_r e 0x7FFF)) h

others_step : (L C W c e : ℕ) → c < 0x10000 → e < 0x10000 → others (L * 0x10000 + 0x7FFF) (C * 0x10000 + c) (W * 0x10000 + e) ≡ others L C W * 0x10000 + others 0x7FFF c e
others_step L C W c e f h = ap (nonzero_marked (L * 0x10000 + 0x7FFF)) (xor_block 16 W C e c h f) ∙ nonzero_step L (bit_xor W C) (bit_xor e c) (xor_lt 16 e c h f)

others_lt : (c e : ℕ) → c < 0x10000 → e < 0x10000 → others 0x7FFF c e < 0x10000
others_lt c e f h = or_lt 16 (bit_and (bit_xor e c) 0x7FFF + 0x7FFF) (bit_xor e c) (omega (arith, and_le_r (bit_xor e c) 0x7FFF)) (xor_lt 16 e c h f)

marked_step : (L B F T W e : ℕ) → e < 0x10000
    → marked (L * 0x10000 + 0x7FFF) (B * 0x10000 + 0x7C) (F * 0x10000 + 0x0A) (T * 0x10000 + 0x8000) (W * 0x10000 + e) ≡ marked L B F T W * 0x10000 + marked 0x7FFF 0x7C 0x0A 0x8000 e
marked_step L B F T W e h =
    let b = others_lt 0x7C e (omega arith) h in
    let f = others_lt 0x0A e (omega arith) h in
    ap (λ (x : ℕ). bit_and x (T * 0x10000 + 0x8000))
    (ap₂ bit_and (others_step L B W 0x7C e (omega arith) h) (others_step L F W 0x0A e (omega arith) h)
    ∙ and_block 16 (others L B W) (others L F W) (others 0x7FFF 0x7C e) (others 0x7FFF 0x0A e) b f)
    ∙ and_block 16 (bit_and (others L B W) (others L F W)) T (bit_and (others 0x7FFF 0x7C e) (others 0x7FFF 0x0A e)) 0x8000
    (and_lt 16 (others 0x7FFF 0x7C e) (others 0x7FFF 0x0A e) b f) (omega arith)

-- ---- the units of a word
-- the same number for each of n units
unfoldable each : (n c : ℕ) → ℕ
each zero c = 0
each (suc n) c = each n c * 0x10000 + c

-- what the program marks are the marks of the units
marked_units : (n : ℕ) (units : List ℕ) → length units ≡ n → AreUnits units → marked (each n 0x7FFF) (each n 0x7C) (each n 0x0A) (each n 0x8000) (word_of units) ≡ marks_of units
unfolding each word_of AreUnits marks_of
marked_units zero [] q a = refl
marked_units zero (u ∷ units) q a = absurd (omega arith)
marked_units (suc n) [] q a = absurd (omega arith)
marked_units (suc n) (u ∷ units) q a =
    marked_step (each n 0x7FFF) (each n 0x7C) (each n 0x0A) (each n 0x8000) (word_of units) u a.0
    ∙ ap₂ (λ (x y : ℕ). x * 0x10000 + y) (marked_units n units (omega arith) a.1) (marked_unit u a.0)

-- the bits of n units
unfoldable width : (n : ℕ) → ℕ
width zero = 0
width (suc n) = plus 16 (width n)

-- a first unit that is not marked has 15 zeros below its bit, and one that is marked 16 zeros
first_with : (n X u : ℕ) (units : List ℕ) (t : Bool) → is_separator u ≡ t → count_trailing_zeros (width n) X / 16 ≡ length (field_units units)
    → count_trailing_zeros (width (suc n)) (X * 0x10000 + bit_xor (pick t 0 0x8000) 0x8000) / 16 ≡ length (units_before (separator u) (u ∷ field_units units))
unfolding width
first_with n X u units true q e =
    ap (λ (z : ℕ). z / 16) (zeros_below_bit 15 (width n) X) ∙ sym (ap (λ (o : Option End). length (units_before o (u ∷ field_units units))) (is_separator_lem u q))
first_with n X u units false q e =
    let none_set : X * 0x10000 + 0 ≡ X * 0x10000 = omega arith in
    let z = ap (count_trailing_zeros (width (suc n))) none_set ∙ zeros_below 16 (width n) X ∙ plus_sum 16 (count_trailing_zeros (width n) X) in
    let here : length (units_before (separator u) (u ∷ field_units units)) ≡ suc (length (field_units units)) =
    ap (λ (o : Option End). length (units_before o (u ∷ field_units units))) (no_separator u q) in
    omega (arith, z, e, here)

mark_lt : (t : Bool) → pick t 0 0x8000 < 0x10000
mark_lt true = omega arith
mark_lt false = omega arith

-- the zeros below the first unit that is not marked count the units before it
first_unmarked : (n : ℕ) (units : List ℕ) → length units ≡ n → count_trailing_zeros (width n) (bit_xor (marks_of units) (each n 0x8000)) / 16 ≡ length (field_units units)
unfolding each width marks_of field_units
first_unmarked zero [] q = omega (arith, trailing_le 0 0)
first_unmarked zero (u ∷ units) q = absurd (omega arith)
first_unmarked (suc n) [] q = absurd (omega arith)
first_unmarked (suc n) (u ∷ units) q =
    ap (λ (x : ℕ). count_trailing_zeros (width (suc n)) x / 16) (xor_block 16 (marks_of units) (each n 0x8000) (pick (is_separator u) 0 0x8000) 0x8000 (mark_lt (is_separator u)) (omega arith))
    ∙ first_with n (bit_xor (marks_of units) (each n 0x8000)) u units (is_separator u) refl (first_unmarked n units (omega arith))

all_with : (n u : ℕ) (units : List ℕ) (t : Bool) → is_separator u ≡ t → (length (field_units units) ≡ n → marks_of units ≡ each n 0x8000)
    → length (units_before (separator u) (u ∷ field_units units)) ≡ suc n → marks_of units * 0x10000 + pick t 0 0x8000 ≡ each n 0x8000 * 0x10000 + 0x8000
all_with n u units true q later e =
    let here : length (units_before (separator u) (u ∷ field_units units)) ≡ 0 = ap (λ (o : Option End). length (units_before o (u ∷ field_units units))) (is_separator_lem u q) in
    absurd (omega arith)
all_with n u units false q later e =
    let here : length (units_before (separator u) (u ∷ field_units units)) ≡ suc (length (field_units units)) =
    ap (λ (o : Option End). length (units_before o (u ∷ field_units units))) (no_separator u q) in
    ap (λ (x : ℕ). x * 0x10000 + 0x8000) (later (omega arith))

-- units without a separator are all marked
all_marked : (n : ℕ) (units : List ℕ) → length units ≡ n → length (field_units units) ≡ n → marks_of units ≡ each n 0x8000
unfolding each marks_of field_units
all_marked zero [] q e = refl
all_marked zero (u ∷ units) q e = absurd (omega arith)
all_marked (suc n) [] q e = absurd (omega arith)
all_marked (suc n) (u ∷ units) q e = all_with n u units (is_separator u) refl (all_marked n units (omega arith)) e

-- ---- four units
pub four_first : (units : List ℕ) {marks : ℕ} → length units ≡ 4 → marks ≡ marks_of units → count_trailing_zeros 64 (bit_xor marks 0x8000800080008000) / 16 ≡ length (field_units units)
unfolding each width plus
four_first units q e = ap (λ (x : ℕ). count_trailing_zeros 64 (bit_xor x 0x8000800080008000) / 16) e ∙ first_unmarked 4 units q

next_unit : (block : List ℕ) (n i j : ℕ) → i < length block → j ≡ i + 1 → take (suc n) (drop i block) ≡ get_or block i 0 ∷ take n (drop j block)
next_unit block n i j h e = ap (take (suc n)) (drop-cons block i 0 h) ∙ ap (λ (x : ℕ). get_or block i 0 ∷ take n (drop x block)) (sym (e ∙ add-one i))

-- those at a place
module _ (block : List ℕ) (i : ℕ) (within : i + 4 ≤ length block) where
  pub four_length : length (four_at block i) ≡ 4
  unfolding four_at
  four_length = length-take-le 4 (drop i block) (rw length-drop (omega arith))

  four_units : four_at block i ≡ get_or block i 0 ∷ get_or block (i + 1) 0 ∷ get_or block (i + 2) 0 ∷ get_or block (i + 3) 0 ∷ []
  unfolding four_at
  four_units =
      next_unit block 3 i (i + 1) (omega arith) refl
      ∙ ap (λ (l : List ℕ). get_or block i 0 ∷ l) (next_unit block 2 (i + 1) (i + 2) (omega arith) (omega arith)
      ∙ ap (λ (l : List ℕ). get_or block (i + 1) 0 ∷ l) (next_unit block 1 (i + 2) (i + 3) (omega arith) (omega arith)
      ∙ ap (λ (l : List ℕ). get_or block (i + 2) 0 ∷ l) (next_unit block 0 (i + 3) (i + 4) (omega arith) (omega arith))))

  pub four_word : {word : ℕ} → ((k : ℕ) → get_or block k 0 < 0x10000)
      → word ≡ get_or block i 0 + 0x10000 * get_or block (i + 1) 0 + 0x100000000 * get_or block (i + 2) 0 + 0x1000000000000 * get_or block (i + 3) 0 → WordAt block i word
  unfolding word_of AreUnits
  four_word all e =
      record {
        small = subst AreUnits (sym four_units) (all i, (all (i + 1), (all (i + 2), (all (i + 3), tt))));
        value = omega (arith, e, ap word_of four_units);
      }

  pub four_marked : {word a b : ℕ} → WordAt block i word → a ≡ nonzero_marked 0x7FFF7FFF7FFF7FFF (bit_xor word 0x007C007C007C007C) → b ≡ nonzero_marked 0x7FFF7FFF7FFF7FFF (bit_xor word 0x000A000A000A000A)
      → bit_and (bit_and a b) 0x8000800080008000 ≡ marks_of (four_at block i)
  unfolding each
  four_marked w e f =
      ap₂ (λ (x y : ℕ). bit_and (bit_and x y) 0x8000800080008000) e f
      ∙ ap (marked 0x7FFF7FFF7FFF7FFF 0x007C007C007C007C 0x000A000A000A000A 0x8000800080008000) w.value
      ∙ marked_units 4 (four_at block i) four_length w.small

-- ---- the scan, four units on
found_with : (u : ℕ) (units longer : List ℕ) (o : Option End) → (length (field_units units) < length units → length (field_units longer) ≡ length (field_units units))
    → length (units_before o (u ∷ field_units units)) < suc (length units) → length (units_before o (u ∷ field_units longer)) ≡ length (units_before o (u ∷ field_units units))
found_with u units longer none later h = ap suc (later (omega arith))
found_with u units longer (some end) later h = refl

-- a separator in the beginning of a block
found_in : (n : ℕ) (block : List ℕ) → length (field_units (take n block)) < length (take n block) → length (field_units block) ≡ length (field_units (take n block))
unfolding field_units
found_in zero block h = absurd (omega arith)
found_in (suc n) [] h = refl
found_in (suc n) (u ∷ block) h = found_with u (take n block) block (separator u) (found_in n block) h

passed_with : (u n : ℕ) (units longer rest : List ℕ) (o : Option End) → (length (field_units units) ≡ n → length (field_units longer) ≡ n + length (field_units rest))
    → length (units_before o (u ∷ field_units units)) ≡ suc n → length (units_before o (u ∷ field_units longer)) ≡ suc n + length (field_units rest)
passed_with u n units longer rest none later e = omega (arith, later (omega arith))
passed_with u n units longer rest (some end) later e = absurd (omega arith)

-- no separator in it
passed_in : (n : ℕ) (block : List ℕ) → length (field_units (take n block)) ≡ n → length (field_units block) ≡ n + length (field_units (drop n block))
unfolding field_units
passed_in zero block e = omega arith
passed_in (suc n) [] e = absurd (omega arith)
passed_in (suc n) (u ∷ block) e = passed_with u n (take n block) block (drop n block) (separator u) (passed_in n block) e

module _ (block : List ℕ) (i marks : ℕ) (so_far : NoSeparator block i) (within : i + 4 ≤ length block) (e : marks ≡ marks_of (four_at block i)) where
  -- not all are marked: the first that is not is the block's first separator
  pub four_found : (marks ≡ 0x8000800080008000 → ⊥) → i + length (field_units (four_at block i)) ≡ length (field_units block)
  unfolding four_at each
  four_found some_not =
      let q = four_length block i within in
      let most : length (field_units (four_at block i)) ≤ 4 = omega (arith, four_first (four_at block i) q e, trailing_le 64 (bit_xor marks 0x8000800080008000)) in
      let less : length (field_units (four_at block i)) < 4 = by most (leb 4 (length (field_units (four_at block i)))) refl in
      omega (arith, so_far, found_in 4 (drop i block) (omega (arith, less, q)))
    where
      by : length (field_units (four_at block i)) ≤ 4 → (t : Bool) → leb 4 (length (field_units (four_at block i))) ≡ t → length (field_units (four_at block i)) < 4
      by most true h = absurd (some_not (e ∙ all_marked 4 (four_at block i) (four_length block i within) (omega (arith, most, leb-true 4 (length (field_units (four_at block i))) h))))
      by most false h = omega (arith, leb-false 4 (length (field_units (four_at block i))) h)

  -- all are marked: no separator is among them
  pub four_passed : marks ≡ 0x8000800080008000 → NoSeparator block (i + 4)
  unfolding four_at
  four_passed all =
      let q = four_length block i within in
      let none_set : bit_xor marks 0x8000800080008000 ≡ 0 = ap (λ (x : ℕ). bit_xor x 0x8000800080008000) all in
      let four : length (field_units (four_at block i)) ≡ 4 = sym (four_first (four_at block i) q e) ∙ ap (λ (x : ℕ). count_trailing_zeros 64 x / 16) none_set ∙ ap (λ (x : ℕ). x / 16) (trailing_of_zero 64) in
      so_far ∙ ap (λ (x : ℕ). i + x) (passed_in 4 (drop i block) four ∙ ap (λ (l : List ℕ). 4 + length (field_units l)) (drop-drop 4 i block)) ∙ omega arith
