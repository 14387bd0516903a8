-- Laws of the shape test's loops.
use mathlib.Core.Bool.{Bool, true, false, not, ◌&&◌, ◌||◌, true≢false}
use mathlib.Core.List.{List}
use mathlib.Core.Path.{◌≡◌, refl, sym, ap, ◌∙◌, subst}
use Prim.Native.Nat.{ℕ, zero, suc, ◌+◌, ◌*◌, ◌-◌, ◌/◌, ◌%◌, ◌<◌, ◌≤◌}
use native.Mathlib.Nat.{zero-add}
use native.Mathlib.Omega.{arith}
use lib.Bits.{bit_and, bit_or, and_le_l, and_le_r, or_add_and}
use lib.Dec.{leb, ltb, eqb}
use lib.ListN.{length, take}
use borrow.Author.Tests.{ltb-true, ltb-false, lt-ltb, le-ltb, leb-true, le-leb, eq-eqb, eqb-true, eqb-false, not-true, not-false}
use Rattle.codepage.specs.CodePage.{CodePage, GoodShape, pick, entry_at, is_known, is_lead, leads, leads_below, bad_class, first_fault, is_good}
use Rattle.codepage.specs.Marks.{mark_of, Marked, Largest, good_sizes, NoLowLead}
use Rattle.codepage.proofs.ShapeLaws.{and_left, and_right, or_left_false, or_right_false, count_lead, count_other, below_all, shape_exact}

-- ---- counting
pub count_mark : (cs : List ℕ) (i n m : ℕ) → n ≡ leads (take i cs) → i < length cs → m ≡ mark_of (is_lead (entry_at cs i)) → n + m ≡ leads (take (i + 1) cs)
count_mark cs i n m e h q = by_lead (is_lead (entry_at cs i)) refl
  where
    by_lead : (t : Bool) → is_lead (entry_at cs i) ≡ t → n + m ≡ leads (take (i + 1) cs)
    by_lead true w =
        let one : m ≡ 1 = q ∙ ap mark_of w in
        ap (λ (k : ℕ). n + k) one ∙ count_lead cs i n e w h
    by_lead false w =
        let none : m ≡ 0 = q ∙ ap mark_of w in
        let z : n + m ≡ n = omega arith in
        z ∙ count_other cs i n e w h

-- a mark is at most 1
pub mark_le : (t : Bool) (m : ℕ) → m ≡ mark_of t → m ≤ 1
mark_le true m e = omega arith
mark_le false m e = omega arith

-- ---- the leads below a byte
module _ (cs : List ℕ) where
  -- one byte more
  pub below_next : (x : ℕ) → x < length cs → leads_below cs (x + 1) ≡ leads_below cs x + mark_of (is_lead (entry_at cs x))
  unfolding leads_below
  below_next x h = sym (count_mark cs x (leads (take x cs)) _ refl h refl)

  -- one byte more, counted from somewhere
  pub count_more : (x y base n m : ℕ) → y ≡ x + 1 → x < length cs → leads_below cs x ≡ base + n → m ≡ mark_of (is_lead (entry_at cs x)) → leads_below cs y ≡ base + (n + m)
  count_more x y base n m s h e q = ap (leads_below cs) s ∙ omega (arith, below_next x h)

  -- some bytes more: each counts at most once
  pub below_steps : (x n : ℕ) → x + n ≤ length cs → leads_below cs (x + n) ≤ leads_below cs x + n
  below_steps x zero h =
      let z : x + 0 ≡ x = omega arith in
      rw z (omega arith)
  below_steps x (suc n) h =
      let z : x + suc n ≡ x + n + 1 = omega arith in
      let s = below_steps x n (omega arith) in
      let m = below_next (x + n) (omega arith) in
      let o = mark_le (is_lead (entry_at cs (x + n))) _ refl in
      rw z (omega (arith, s, m, o))

  -- some bytes more, of which none is a lead
  pub below_same : (x n : ℕ) → x + n ≤ length cs → ((k : ℕ) → k < n → is_lead (entry_at cs (x + k)) ≡ false) → leads_below cs (x + n) ≡ leads_below cs x
  below_same x zero h f =
      let z : x + 0 ≡ x = omega arith in
      rw z
  below_same x (suc n) h f =
      let z : x + suc n ≡ x + n + 1 = omega arith in
      let m : leads_below cs (x + n + 1) ≡ leads_below cs (x + n) + 0 = below_next (x + n) (omega arith) ∙ ap (λ (t : Bool). leads_below cs (x + n) + mark_of t) (f n (omega arith)) in
      let s = below_same x n (omega arith) (λ k l. f k (omega arith)) in
      rw z (omega (arith, m, s))

  -- where no lead is below 80, none is counted below 80
  pub none_low : length cs ≡ 256 → NoLowLead cs → leads_below cs 0x80 ≡ 0
  unfolding leads_below leads
  none_low h low = below_same 0 0x80 (omega arith) (λ k l. rw (zero-add k) (low k l))

-- ---- classes: a test that is computed at all 256
abbrev pub all_below : (ℕ → Bool) → ℕ → Bool
all_below f zero = true
all_below f (suc n) = f n && all_below f n

last_or_below : (f : ℕ → Bool) (n k : ℕ) → k < suc n → f n ≡ true → (k < n → f k ≡ true) → (t : Bool) → eqb k n ≡ t → f k ≡ true
last_or_below f n k h e b true q = rw (eqb-true k n q) e
last_or_below f n k h e b false q =
    let d : k ≡ n → ⊥ = eqb-false k n q in
    b (omega arith)

-- a test that was computed to hold of all numbers below n holds of each of them
pub all_below_lem : (f : ℕ → Bool) (n : ℕ) → all_below f n ≡ true → (k : ℕ) → k < n → f k ≡ true
all_below_lem f zero e k h = absurd (omega arith)
all_below_lem f (suc n) e k h = last_or_below f n k h (and_left (f n) (all_below f n) e) (all_below_lem f n (and_right (f n) (all_below f n) e) k) (eqb k n) refl

abbrev same : Bool → Bool → Bool
same true b = b
same false b = not b

same_eq : (a b : Bool) → same a b ≡ true → a ≡ b
same_eq true b e = sym e
same_eq false b e = sym (not-true b e)

-- where one of two holds, and the first does not, the second does
pub or_else : (a b : Bool) → a ≡ false → (a || b) ≡ true → b ≡ true
or_else true b n e = absurd (true≢false n)
or_else false b n e = e

low_right : ℕ → Bool
low_right class = same (not (is_known class) || is_lead class) (ltb 0 (bit_and class 0xFA))

low_right_lem : all_below low_right 256 ≡ true
unfolding low_right is_known is_lead
low_right_lem = refl

-- the test of a byte below 80, by bits: its class is bad if it is none of 0, 1, 4, 5
pub low_class : (byte class : ℕ) → class < 256 → byte < 0x80 → bad_class byte class ≡ ltb 0 (bit_and class 0xFA)
unfolding bad_class low_right
low_class byte class c h = rw (lt-ltb byte 0x80 h) (same_eq (not (is_known class) || is_lead class) (ltb 0 (bit_and class 0xFA)) (all_below_lem low_right 256 low_right_lem class c))

high_right : ℕ → Bool
high_right class = same (not (is_known class)) (ltb 0 (bit_and (bit_and class 0xFB + 1) 0xFC))

high_right_lem : all_below high_right 256 ≡ true
unfolding high_right is_known
high_right_lem = refl

or_false : (a : Bool) → (a || false) ≡ a
or_false true = refl
or_false false = refl

-- the test of a byte from 80 on, by bits: its class is bad if it is none of 0, 1, 2, 4, 5, 6
pub high_class : (byte class : ℕ) → class < 256 → 0x80 ≤ byte → bad_class byte class ≡ ltb 0 (bit_and (bit_and class 0xFB + 1) 0xFC)
unfolding bad_class high_right
high_class byte class c h =
    rw (le-ltb byte 0x80 h) (or_false (not (is_known class)))
    ∙ same_eq (not (is_known class)) (ltb 0 (bit_and (bit_and class 0xFB + 1) 0xFC)) (all_below_lem high_right 256 high_right_lem class c)

lead_right : ℕ → Bool
lead_right class = same (is_lead class) (eqb (bit_and class 0xFB) 2)

lead_right_lem : all_below lead_right 256 ≡ true
unfolding lead_right is_lead
lead_right_lem = refl

-- the test of a lead, by bits: the class without its 4 is 2
pub lead_class : (class : ℕ) → class < 256 → is_lead class ≡ eqb (bit_and class 0xFB) 2
unfolding lead_right
lead_class class c = same_eq (is_lead class) (eqb (bit_and class 0xFB) 2) (all_below_lem lead_right 256 lead_right_lem class c)

known_fine : (byte class : ℕ) → is_known class ≡ true → is_lead class ≡ false → bad_class byte class ≡ false
unfolding bad_class
known_fine byte class k n = rw (k, n) (and_false (ltb byte 0x80))
  where
    and_false : (t : Bool) → (t && false) ≡ false
    and_false true = refl
    and_false false = refl

high_fine : (byte class : ℕ) → 0x80 ≤ byte → is_known class ≡ true → bad_class byte class ≡ false
unfolding bad_class
high_fine byte class h k = rw (k, le-ltb byte 0x80 h)

fine_lead : (byte class : ℕ) → byte < 0x80 → bad_class byte class ≡ false → is_lead class ≡ false
unfolding bad_class
fine_lead byte class h e = sym (rw (lt-ltb byte 0x80 h)) ∙ or_right_false (not (is_known class)) _ e

-- ---- marks
-- two marks put together by `or` are 0 only where both are
pub or_none_lem : (a b : ℕ) → bit_or a b ≡ 0 → (a ≡ 0) × (b ≡ 0)
or_none_lem a b e = (omega (arith, or_add_and a b, and_le_r a b), omega (arith, or_add_and a b, and_le_l a b))

-- a mark of 0 adds nothing
or_same : (a b : ℕ) → ltb 0 b ≡ false → bit_or a b ≡ a
or_same a b e = omega (arith, ltb-false 0 b e, or_add_and a b, and_le_r a b)

-- a mark of 0 says that no entry is bad
unmarked : (t : Bool) (m : ℕ) → t ≡ ltb 0 m → m ≡ 0 → t ≡ false
unmarked t m e z = e ∙ le-ltb 0 m (omega arith)

-- a mark over the first entries of both halves of a table
pub record MarkedHalves (bad : ℕ → ℕ → Bool) (xs : List ℕ) (to mark : ℕ) : Type 0 where
  pub none_bad : mark ≡ 0 → (k : ℕ) → k < to → (bad k (entry_at xs k) ≡ false) × (bad (128 + k) (entry_at xs (128 + k)) ≡ false)
  pub one_bad : 0 < mark → (k : ℕ) × (k < 256) × (bad k (entry_at xs k) ≡ true)

module _ (bad : ℕ → ℕ → Bool) (xs : List ℕ) where
  -- over no entries the mark is 0
  pub halves_start : MarkedHalves bad xs 0 0
  halves_start = record { none_bad = λ e k h. absurd (omega arith); one_bad = λ e. absurd (omega arith) }

  -- one entry of each half more: their marks, over 0 exactly if they are bad, are put to the others by `or`
  pub halves_more : (i mark low high : ℕ) → i < 128 → MarkedHalves bad xs i mark
      → bad i (entry_at xs i) ≡ ltb 0 low → bad (128 + i) (entry_at xs (128 + i)) ≡ ltb 0 high → MarkedHalves bad xs (i + 1) (bit_or (bit_or mark low) high)
  halves_more i mark low high h g l u =
      record {
        none_bad = λ z k b. let outer = or_none_lem (bit_or mark low) high z in let inner = or_none_lem mark low outer.0 in at_or_below k b (ltb k i) refl inner.0 inner.1 outer.1;
        one_bad = λ z. by_bad (ltb 0 low) refl (ltb 0 high) refl z;
      }
    where
      at_or_below : (k : ℕ) → k < i + 1 → (t : Bool) → ltb k i ≡ t → mark ≡ 0 → low ≡ 0 → high ≡ 0 → (bad k (entry_at xs k) ≡ false) × (bad (128 + k) (entry_at xs (128 + k)) ≡ false)
      at_or_below k b true e z zl zh = g.none_bad z k (ltb-true k i e)
      at_or_below k b false e z zl zh =
          let s : k ≡ i = omega (arith, ltb-false k i e) in
          rw s (unmarked _ low l zl, unmarked _ high u zh)

      by_bad : (s : Bool) → ltb 0 low ≡ s → (t : Bool) → ltb 0 high ≡ t → 0 < bit_or (bit_or mark low) high → (k : ℕ) × (k < 256) × (bad k (entry_at xs k) ≡ true)
      by_bad true e t f z = (i, omega arith, l ∙ e)
      by_bad false e true f z = (128 + i, omega arith, u ∙ f)
      by_bad false e false f z = g.one_bad (omega (arith, or_same (bit_or mark low) high f, or_same mark low e))

  -- both halves are the whole table
  pub halves_whole : (mark : ℕ) → MarkedHalves bad xs 128 mark → Marked bad xs 0 256 mark
  halves_whole mark g = record { none_bad = λ z k l h. in_half z k h (ltb k 128) refl; one_bad = λ z. let b = g.one_bad z in (b.0, omega arith, b.1, b.2) }
    where
      in_half : mark ≡ 0 → (k : ℕ) → k < 256 → (t : Bool) → ltb k 128 ≡ t → bad k (entry_at xs k) ≡ false
      in_half z k h true e = (g.none_bad z k (ltb-true k 128 e)).0
      in_half z k h false e =
          let least : 128 ≤ k = ltb-false k 128 e in
          let s : 128 + (k - 128) ≡ k = omega arith in
          subst (λ (n : ℕ). bad n (entry_at xs n) ≡ false) s (g.none_bad z (k - 128) (omega arith)).1

-- ---- the largest
pub largest_start : (xs : List ℕ) → Largest xs 0 0
largest_start xs = record { bound = λ k h. absurd (omega arith); reached = λ e. absurd (e refl) }

-- one entry more: the larger of it and the largest before
pub largest_more : (xs : List ℕ) (i most r : ℕ) → Largest xs i most → most ≤ r → entry_at xs i ≤ r → r ≡ pick (ltb most (entry_at xs i)) (entry_at xs i) most → Largest xs (i + 1) r
largest_more xs i most r g h₁ h₂ q = record { bound = λ k h. at_or_below k h (ltb k i) refl; reached = λ z. from_last z (ltb most (entry_at xs i)) refl }
  where
    at_or_below : (k : ℕ) → k < i + 1 → (t : Bool) → ltb k i ≡ t → entry_at xs k ≤ r
    at_or_below k h true e = let b = g.bound k (ltb-true k i e) in omega (arith, b)
    at_or_below k h false e =
        let f : i ≤ k = ltb-false k i e in
        let s : k ≡ i = omega arith in
        rw s h₂

    from_last : (r ≡ 0 → ⊥) → (t : Bool) → ltb most (entry_at xs i) ≡ t → (k : ℕ) × (k < i + 1) × (entry_at xs k ≡ r)
    from_last z true e = (i, omega arith, sym (q ∙ ap (λ (t : Bool). pick t (entry_at xs i) most) e))
    from_last z false e =
        let same : r ≡ most = q ∙ ap (λ (t : Bool). pick t (entry_at xs i) most) e in
        let b = g.reached (λ y. z (same ∙ y)) in
        (b.0, omega (arith, b.1), b.2 ∙ sym same)

-- ---- where no class is marked, no lead is low, and the leads are those from 80 on
pub low_leads : (cs : List ℕ) (mark : ℕ) → Marked bad_class cs 0 256 mark → mark ≡ 0 → NoLowLead cs
low_leads cs mark m z byte h = fine_lead byte (entry_at cs byte) h (m.none_bad z byte (omega arith) (omega arith))

-- where no lead is below 80, the leads from 80 on are all leads
pub leads_high : (cs : List ℕ) (n : ℕ) → length cs ≡ 256 → NoLowLead cs → leads_below cs 256 ≡ leads_below cs 0x80 + n → n ≡ leads cs
leads_high cs n h low e = omega (arith, below_all cs h, none_low cs h low)

-- ---- the test is exact
module _ (p : CodePage) where
  -- true is the right answer of a good shape
  pub good_if : GoodShape p → true ≡ is_good (first_fault p)
  good_if g = sym ((shape_exact p).1 g)

  -- false is the right answer of any other shape
  pub bad_if : (GoodShape p → ⊥) → false ≡ is_good (first_fault p)
  bad_if n = by_good (is_good (first_fault p)) refl
    where
      by_good : (t : Bool) → is_good (first_fault p) ≡ t → false ≡ t
      by_good true e = absurd (n ((shape_exact p).0 e))
      by_good false e = refl

  -- a good shape has the sizes that the test asks for
  pub sizes_needed : GoodShape p → good_sizes (length p.classes) (length p.singles) (length p.index) (length p.blocks) ≡ true
  unfolding good_sizes
  sizes_needed g =
      let size = g.blocks.3 in
      let even : length p.blocks % 256 ≡ 0 = omega (arith, size) in
      let low : 1 ≤ length p.blocks / 256 = omega (arith, size, g.blocks.1) in
      let high : length p.blocks / 256 ≤ 256 = omega (arith, size, g.blocks.2) in
      rw (eq-eqb _ _ g.classes, eq-eqb _ _ g.singles, eq-eqb _ _ g.index, eq-eqb _ _ even, le-leb _ _ low, le-leb _ _ high)

  pub class_needed : GoodShape p → (k : ℕ) → k < 256 → bad_class k (entry_at p.classes k) ≡ false
  class_needed g k h = by_low (ltb k 0x80) refl
    where
      by_low : (t : Bool) → ltb k 0x80 ≡ t → bad_class k (entry_at p.classes k) ≡ false
      by_low true e = known_fine k (entry_at p.classes k) (g.class k h) (g.low k (ltb-true k 0x80 e))
      by_low false e = high_fine k (entry_at p.classes k) (ltb-false k 0x80 e) (g.class k h)

  -- a good shape has no class that is marked
  pub marks_needed : GoodShape p → (mark : ℕ) → Marked bad_class p.classes 0 256 mark → 0 < mark → ⊥
  marks_needed g mark m n =
      let b = m.one_bad n in
      true≢false (sym b.3 ∙ class_needed g b.0 (omega (arith, b.2)))

  -- of a good shape the largest index number names a block
  pub number_needed : GoodShape p → (most : ℕ) → Largest p.index 256 most → most < length p.blocks / 256
  number_needed g most m = by_zero (eqb most 0) refl
    where
      by_zero : (t : Bool) → eqb most 0 ≡ t → most < length p.blocks / 256
      by_zero true e = omega (arith, eqb-true most 0 e, g.blocks.3, g.blocks.1)
      by_zero false e =
          let b = m.reached (eqb-false most 0 e) in
          omega (arith, g.number b.0 b.1, b.2)

  -- all that the test asks for, found good, is a good shape
  pub good_by_marks : (p.page ≡ 0 → ⊥) → good_sizes (length p.classes) (length p.singles) (length p.index) (length p.blocks) ≡ true → (mark most : ℕ)
      → Marked bad_class p.classes 0 256 mark → mark ≡ 0 → Largest p.index 256 most → most < length p.blocks / 256 → length p.pairs ≡ 256 * leads p.classes → GoodShape p
  unfolding good_sizes bad_class
  good_by_marks page sizes mark most k z m lt pairs =
      let s₅ : (eqb (length p.classes) 256 && eqb (length p.singles) 256 && eqb (length p.index) 256 && eqb (length p.blocks % 256) 0 && leb 1 (length p.blocks / 256)) ≡ true =
      and_left _ (leb (length p.blocks / 256) 256) sizes in
      let s₄ : (eqb (length p.classes) 256 && eqb (length p.singles) 256 && eqb (length p.index) 256 && eqb (length p.blocks % 256) 0) ≡ true = and_left _ (leb 1 (length p.blocks / 256)) s₅ in
      let s₃ : (eqb (length p.classes) 256 && eqb (length p.singles) 256 && eqb (length p.index) 256) ≡ true = and_left _ (eqb (length p.blocks % 256) 0) s₄ in
      let s₂ : (eqb (length p.classes) 256 && eqb (length p.singles) 256) ≡ true = and_left _ (eqb (length p.index) 256) s₃ in
      let whole : length p.blocks % 256 ≡ 0 = eqb-true _ _ (and_right (eqb (length p.classes) 256 && eqb (length p.singles) 256 && eqb (length p.index) 256) _ s₄) in
      let least : 1 ≤ length p.blocks / 256 = leb-true 1 (length p.blocks / 256) (and_right (eqb (length p.classes) 256 && eqb (length p.singles) 256 && eqb (length p.index) 256 && eqb (length p.blocks % 256) 0) _ s₅) in
      let greatest : length p.blocks / 256 ≤ 256 = leb-true (length p.blocks / 256) 256 (and_right (eqb (length p.classes) 256 && eqb (length p.singles) 256 && eqb (length p.index) 256 && eqb (length p.blocks % 256) 0 && leb 1 (length p.blocks / 256)) _ sizes) in
      record {
        page = page;
        classes = eqb-true _ _ (and_left (eqb (length p.classes) 256) _ s₂);
        singles = eqb-true _ _ (and_right (eqb (length p.classes) 256) _ s₂);
        pairs = pairs;
        index = eqb-true _ _ (and_right (eqb (length p.classes) 256 && eqb (length p.singles) 256) _ s₃);
        blocks = (length p.blocks / 256, least, greatest, omega arith);
        class = λ byte b. not-false _ (or_left_false _ _ (k.none_bad z byte (omega arith) b));
        low = low_leads p.classes mark k z;
        number = λ high b. omega (arith, m.bound high b);
      }

-- what the sizes give
pub classes_size : (classes singles index blocks : ℕ) → good_sizes classes singles index blocks ≡ true → classes ≡ 256
unfolding good_sizes
classes_size classes singles index blocks e =
    eqb-true _ _ (and_left (eqb classes 256) (eqb singles 256) (and_left _ (eqb index 256) (and_left _ (eqb (blocks % 256) 0) (and_left _ (leb 1 (blocks / 256)) (and_left _ (leb (blocks / 256) 256) e)))))

-- index has 256 numbers
pub index_size : (classes singles index blocks : ℕ) → good_sizes classes singles index blocks ≡ true → index ≡ 256
unfolding good_sizes
index_size classes singles index blocks e =
    eqb-true _ _ (and_right (eqb classes 256 && eqb singles 256) (eqb index 256) (and_left _ (eqb (blocks % 256) 0) (and_left _ (leb 1 (blocks / 256)) (and_left _ (leb (blocks / 256) 256) e))))
