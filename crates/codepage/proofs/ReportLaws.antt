-- The report names the first bad place: each case exactly if what it says holds.
use Rattle.std.specs.Prelude.{Ok, Err}
use mathlib.Core.Bool.{Bool, true, false, not, ◌&&◌, ◌||◌, false≢true}
use mathlib.Core.List.{List, [], ◌∷◌}
use mathlib.Core.Logic.{◌↔◌}
use mathlib.Core.Path.{◌≡◌, refl, sym, ◌∙◌, subst}
use Prim.Native.Nat.{ℕ, zero, suc, ◌+◌, ◌/◌, ◌%◌, ◌<◌}
use native.Mathlib.Nat.{zero-add}
use native.Mathlib.Omega.{arith}
use lib.Dec.{leb, ltb, eqb}
use lib.ListN.{length}
use borrow.Author.Tests.{eqb-true, eqb-false, leb-true, leb-false, ltb-true, ltb-false, eq-eqb, ne_eqb, le-leb, lt-leb, lt-ltb, le-ltb, not-true, not-false}
use Rattle.codepage.specs.CodePage.{CodePage, pick, entry_at, is_known, is_lead, GoodShape, first_bad, bad_class, bad_number, class_fault, sizes_fault, entries_fault, first_fault, GoodClass, GoodNumber, GoodBlocks, PageGood, ClassesGood, SinglesGood, PairsGood, IndexGood, SizesGood, Names, Report}
use Rattle.codepage.specs.declared.Fault.TheVariants.{Page, ClassesSize, SinglesSize, PairsSize, IndexSize, BlocksSize, Class, Lead, Number}
use Rattle.codepage.proofs.ShapeLaws.{bad_here, bad_later, and_left, and_right, or_left_false, or_right_false, none_at_all, all_are_good, no_fault}

-- ---- the first bad place, without the search
-- bad there, and at no place below it
pub record FirstAt (bad : ℕ → ℕ → Bool) (from : ℕ) (xs : List ℕ) (k : ℕ) : Type 0 where
  pub inside : k < length xs
  pub is_bad : bad (from + k) (entry_at xs k) ≡ true
  pub none_below : (j : ℕ) → j < k → bad (from + j) (entry_at xs j) ≡ false

module _ (bad : ℕ → ℕ → Bool) where
  first_found : (from : ℕ) (xs : List ℕ) (k : ℕ) → FirstAt bad from xs k → first_bad bad from xs ≡ from + k
  first_found from [] k f = absurd (omega (arith, f.inside))
  first_found from (x ∷ xs) zero f =
      let z : from + 0 ≡ from = omega arith in
      bad_here bad from x xs (rw z at f.is_bad) ∙ sym z
  first_found from (x ∷ xs) (suc k) f =
      let z : from + 0 ≡ from = omega arith in
      let s : from + suc k ≡ suc from + k = omega arith in
      bad_later bad from x xs (rw z at (f.none_below 0 (omega arith)))
      ∙ first_found (suc from) xs k
      (record {
        inside = omega (arith, f.inside);
        is_bad = rw s at f.is_bad;
        none_below = λ j h. let y : suc from + j ≡ from + suc j = omega arith in rw y (f.none_below (suc j) (omega arith));
      })
      ∙ sym s

  found_first : (from : ℕ) (xs : List ℕ) (n : ℕ) → first_bad bad from xs ≡ n → n < from + length xs → (k : ℕ) × (n ≡ from + k) × FirstAt bad from xs k
  unfolding first_bad
  found_first from [] n e h = absurd (omega arith)
  found_first from (x ∷ xs) n e h = by_test (bad from x) refl (λ q. found_first (suc from) xs n (sym (bad_later bad from x xs q) ∙ e) (omega arith))
    where
      by_test : (t : Bool) → bad from x ≡ t → (bad from x ≡ false → (k : ℕ) × (n ≡ suc from + k) × FirstAt bad (suc from) xs k) → (k : ℕ) × (n ≡ from + k) × FirstAt bad from (x ∷ xs) k
      by_test true q rest =
          let z : from + 0 ≡ from = omega arith in (
            0,
            sym e ∙ bad_here bad from x xs q ∙ sym z,
            record { inside = omega arith; is_bad = rw z q; none_below = λ j l. absurd (omega arith) },
          )
      by_test false q rest = let (k, m, f) = rest q in (suc k, omega arith, record { inside = omega (arith, f.inside); is_bad = let s : from + suc k ≡ suc from + k = omega arith in rw s f.is_bad; none_below = below f })
        where
          below : {k : ℕ} → FirstAt bad (suc from) xs k → (j : ℕ) → j < suc k → bad (from + j) (entry_at (x ∷ xs) j) ≡ false
          below f zero l = let z : from + 0 ≡ from = omega arith in rw z q
          below f (suc j) l = let s : from + suc j ≡ suc from + j = omega arith in rw s (f.none_below j (omega arith))

  -- counted from 0
  at_zero : (xs : List ℕ) (k : ℕ) → k < length xs → bad k (entry_at xs k) ≡ true → ((j : ℕ) → j < k → bad j (entry_at xs j) ≡ false) → first_bad bad 0 xs ≡ k
  at_zero xs k h b g =
      first_found 0 xs k (record { inside = h; is_bad = rw (zero-add k) b; none_below = λ j l. rw (zero-add j) (g j l) }) ∙ zero-add k

  pub record Found (xs : List ℕ) (k : ℕ) : Type 0 where
    pub inside : k < length xs
    pub is_bad : bad k (entry_at xs k) ≡ true
    pub none_below : (j : ℕ) → j < k → bad j (entry_at xs j) ≡ false

  zero_found : (xs : List ℕ) → first_bad bad 0 xs < length xs → Found xs (first_bad bad 0 xs)
  zero_found xs h =
      let (k, e, f) = found_first 0 xs (first_bad bad 0 xs) refl (omega arith) in
      let s : first_bad bad 0 xs ≡ k = omega arith in
      rw s (record { inside = f.inside; is_bad = rw (zero-add k) at f.is_bad; none_below = λ j l. rw (zero-add j) at (f.none_below j l) })

-- ---- the entries
known_not : (k class : ℕ) → bad_class k class ≡ true → is_known class ≡ true → (k < 0x80) × (is_lead class ≡ true)
unfolding bad_class
known_not k class b e =
    let both : (ltb k 0x80 && is_lead class) ≡ true = sym (rw e) ∙ b in
    (ltb-true _ _ (and_left _ _ both), and_right (ltb k 0x80) _ both)

-- a lead's class is known
lead_known : (class : ℕ) → is_lead class ≡ true → is_known class ≡ true
unfolding is_lead is_known
lead_known class e = by_two (eqb class 2) refl
  where
    by_two : (t : Bool) → eqb class 2 ≡ t → (leb class 2 || leb 4 class && leb class 6) ≡ true
    by_two true q = rw (eqb-true class 2 q)
    by_two false q = rw (eqb-true class 6 (sym (rw q) ∙ e))

module _ (p : CodePage) where
  abbrev count : ℕ
  count = length p.blocks / 256

  abbrev bad_at : ℕ → Bool
  bad_at k = bad_class k (entry_at p.classes k)

  class_good : (k : ℕ) → bad_at k ≡ false → GoodClass p k
  unfolding bad_class
  class_good k e =
      record {
        known = not-false _ (or_left_false _ _ e);
        not_low_lead = λ h. sym (rw (lt-ltb k 0x80 h)) ∙ or_right_false (not (is_known (entry_at p.classes k))) _ e;
      }

  good_class : (k : ℕ) → GoodClass p k → bad_at k ≡ false
  unfolding bad_class
  good_class k g = by_place (ltb k 0x80) refl
    where
      by_place : (t : Bool) → ltb k 0x80 ≡ t → bad_at k ≡ false
      by_place true e = rw (g.known, e, g.not_low_lead (ltb-true _ _ e))
      by_place false e = rw (g.known, e)

  unknown_bad : (k : ℕ) → is_known (entry_at p.classes k) ≡ false → bad_at k ≡ true
  unfolding bad_class
  unknown_bad k e = rw e

  low_lead_bad : (k : ℕ) → k < 0x80 → is_lead (entry_at p.classes k) ≡ true → bad_at k ≡ true
  unfolding bad_class
  low_lead_bad k h e = rw (lt-ltb k 0x80 h, e) (or_true (not (is_known (entry_at p.classes k))))
    where
      or_true : (b : Bool) → (b || true) ≡ true
      or_true true = refl
      or_true false = refl

  number_good : (k : ℕ) → bad_number count k (entry_at p.index k) ≡ false → GoodNumber p k
  unfolding bad_number
  number_good k e = omega (arith, leb-false count (entry_at p.index k) e)

  good_number : (k : ℕ) → GoodNumber p k → bad_number count k (entry_at p.index k) ≡ false
  unfolding bad_number
  good_number k h = lt-leb count (entry_at p.index k) (omega arith)

  bad_number_lem : (k : ℕ) → (GoodNumber p k → ⊥) → GoodBlocks p → bad_number count k (entry_at p.index k) ≡ true
  unfolding bad_number
  bad_number_lem k h b = by_test (leb count (entry_at p.index k)) refl
    where
      by_test : (t : Bool) → leb count (entry_at p.index k) ≡ t → leb count (entry_at p.index k) ≡ true
      by_test true e = e
      by_test false e = absurd (h (omega (arith, leb-false count (entry_at p.index k) e)))

  number_not : (k : ℕ) → bad_number count k (entry_at p.index k) ≡ true → GoodNumber p k → ⊥
  unfolding bad_number
  number_not k e h = omega (arith, leb-true count (entry_at p.index k) e)

  -- ---- what the report says holds
  pick_names : (t : Bool) (f g : Report) → (t ≡ true → Names p f) → (t ≡ false → Names p g) → Names p (pick t f g)
  pick_names true f g h k = h refl
  pick_names false f g h k = k refl

  uneven : (length p.blocks % 256 ≡ 0 → ⊥) → GoodBlocks p → ⊥
  uneven h (n, l, m, e) = h (omega arith)

  outside : leb 1 count && leb count 256 ≡ false → GoodBlocks p → ⊥
  outside q (n, l, m, e) =
      let c : count ≡ n = omega arith in
      false≢true (sym q ∙ rw (le-leb 1 count (omega arith), le-leb count 256 (omega arith)))

  inside_of : length p.blocks % 256 ≡ 0 → (leb 1 count && leb count 256) ≡ true → GoodBlocks p
  inside_of e q = (count, leb-true 1 count (and_left _ _ q), leb-true count 256 (and_right (leb 1 count) _ q), omega arith)

  says_blocks : (then : Report) → IndexGood p → (SizesGood p → Names p then)
      → Names p (pick (not (eqb (length p.blocks % 256) 0)) (Err BlocksSize) (pick (not (leb 1 count && leb count 256)) (Err BlocksSize) then))
  says_blocks then a h =
      pick_names _ (Err BlocksSize) _ (λ e. (a, uneven (eqb-false _ _ (not-true _ e))))
      (λ e. pick_names _ (Err BlocksSize) then (λ q. (a, outside (not-true _ q))) (λ q. h (a, inside_of (eqb-true _ _ (not-false _ e)) (not-false _ q))))

  says_sizes : (then : Report) → (SizesGood p → Names p then) → Names p (sizes_fault p then)
  unfolding sizes_fault
  says_sizes then h =
      pick_names (eqb p.page 0) (Err Page) _ (λ e. eqb-true _ _ e)
      (λ e₁. let a₁ : PageGood p = eqb-false _ _ e₁ in
      pick_names _ (Err ClassesSize) _ (λ e. (a₁, eqb-false _ _ (not-true _ e)))
      (λ e₂. let a₂ : ClassesGood p = (a₁, eqb-true _ _ (not-false _ e₂)) in
      pick_names _ (Err SinglesSize) _ (λ e. (a₂, eqb-false _ _ (not-true _ e)))
      (λ e₃. let a₃ : SinglesGood p = (a₂, eqb-true _ _ (not-false _ e₃)) in
      pick_names _ (Err PairsSize) _ (λ e. (a₃, eqb-false _ _ (not-true _ e)))
      (λ e₄. let a₄ : PairsGood p = (a₃, eqb-true _ _ (not-false _ e₄)) in
      pick_names _ (Err IndexSize) _ (λ e. (a₄, eqb-false _ _ (not-true _ e)))
      (λ e₅. let a₅ : IndexGood p = (a₄, eqb-true _ _ (not-false _ e₅)) in
      says_blocks then a₅ h)))))

  abbrev AllClasses : Type 0
  AllClasses = (k : ℕ) → k < 256 → GoodClass p k

  says_class : SizesGood p → (k : ℕ) → Found bad_class p.classes k → Names p (class_fault p.classes k)
  unfolding class_fault
  says_class s k f =
      let below : (j : ℕ) → j < k → GoodClass p j = λ j l. class_good j (f.none_below j l) in
      let inside : k < 256 = omega (arith, f.inside, s.0.0.0.0.1) in
      pick_names (is_known (entry_at p.classes k)) (Err (Lead k)) (Err (Class k))
      (λ e. let low = known_not k (entry_at p.classes k) f.is_bad e in (s, low.0, low.1, below)) (λ e. (s, inside, e, below))

  abbrev first_class : ℕ
  first_class = first_bad bad_class 0 p.classes

  abbrev first_number : ℕ
  first_number = first_bad (bad_number count) 0 p.index

  says_number : SizesGood p → AllClasses → first_number < 256 → Names p (Err (Number first_number))
  says_number s all h =
      let f = zero_found (bad_number count) p.index (omega (arith, s.0.1)) in
      (s, all, h, number_not first_number f.is_bad, λ j l. number_good j (f.none_below j l))

  says_entries : SizesGood p → Names p (entries_fault p.classes p.index count)
  unfolding entries_fault
  says_entries s =
      let classes : length p.classes ≡ 256 = s.0.0.0.0.1 in
      let index : length p.index ≡ 256 = s.0.1 in
      pick_names (ltb first_class 256) (class_fault p.classes first_class) _
      (λ e. says_class s first_class (zero_found bad_class p.classes (omega (arith, ltb-true first_class 256 e))))
      (λ e. let all : AllClasses = λ k h. class_good k (none_at_all bad_class p.classes (omega (arith, ltb-false first_class 256 e)) k (omega arith)) in
      pick_names (ltb first_number 256) (Err (Number first_number)) (Ok tt) (λ q. says_number s all (ltb-true first_number 256 q))
      (λ q. good_of s all (λ k h. number_good k (none_at_all (bad_number count) p.index (omega (arith, ltb-false first_number 256 q)) k (omega arith)))))
    where
      good_of : SizesGood p → AllClasses → ((k : ℕ) → k < 256 → GoodNumber p k) → GoodShape p
      good_of s c n =
          record {
            page = s.0.0.0.0.0;
            classes = s.0.0.0.0.1;
            singles = s.0.0.0.1;
            pairs = s.0.0.1;
            index = s.0.1;
            blocks = s.1;
            class = λ k h. (c k h).known;
            low = λ k h. (c k (omega arith)).not_low_lead h;
            number = n;
          }

  says : Names p (first_fault p)
  unfolding first_fault
  says = says_sizes (entries_fault p.classes p.index count) says_entries

  -- ---- and what holds is said
  sizes_pass : SizesGood p → (then : Report) → sizes_fault p then ≡ then
  unfolding sizes_fault
  sizes_pass s then =
      let (n, l, m, e) = s.1 in
      let even : length p.blocks % 256 ≡ 0 = omega arith in
      rw (
        ne_eqb _ _ s.0.0.0.0.0,
        eq-eqb _ _ s.0.0.0.0.1,
        eq-eqb _ _ s.0.0.0.1,
        eq-eqb _ _ s.0.0.1,
        eq-eqb _ _ s.0.1,
        eq-eqb _ _ even,
        le-leb 1 count (omega arith),
        le-leb count 256 (omega arith),
      )

  class_is : SizesGood p → (k : ℕ) → k < 256 → bad_at k ≡ true → ((j : ℕ) → j < k → GoodClass p j) → first_fault p ≡ class_fault p.classes k
  unfolding first_fault entries_fault
  class_is s k h b g =
      let at : first_bad bad_class 0 p.classes ≡ k = at_zero bad_class p.classes k (omega (arith, s.0.0.0.0.1)) b (λ j l. good_class j (g j l)) in
      sizes_pass s _ ∙ rw (at, lt-ltb k 256 h)

  blocks_size : IndexGood p → (GoodBlocks p → ⊥) → first_fault p ≡ Err BlocksSize
  unfolding first_fault sizes_fault
  blocks_size a h =
      rw (ne_eqb _ _ a.0.0.0.0, eq-eqb _ _ a.0.0.0.1, eq-eqb _ _ a.0.0.1, eq-eqb _ _ a.0.1, eq-eqb _ _ a.1)
      (by_tests (eqb (length p.blocks % 256) 0) (leb 1 count && leb count 256) refl refl)
    where
      by_tests : (t u : Bool) → eqb (length p.blocks % 256) 0 ≡ t → (leb 1 count && leb count 256) ≡ u
          → pick (not t) (Err BlocksSize) (pick (not u) (Err BlocksSize) (entries_fault p.classes p.index count)) ≡ Err BlocksSize
      by_tests false u e q = refl
      by_tests true false e q = refl
      by_tests true true e q = absurd (h (inside_of (eqb-true _ _ e) q))

  number_is : SizesGood p → (k : ℕ) → k < 256 → AllClasses → (GoodNumber p k → ⊥) → ((j : ℕ) → j < k → GoodNumber p j) → first_fault p ≡ Err (Number k)
  unfolding first_fault entries_fault
  number_is s k l c b g =
      let none : first_class ≡ length p.classes = all_are_good bad_class p.classes (λ j q. good_class j (c j (omega (arith, s.0.0.0.0.1)))) in
      let at : first_number ≡ k = at_zero (bad_number count) p.index k (omega (arith, s.0.1)) (bad_number_lem k b s.1) (λ j q. good_number j (g j q)) in
      sizes_pass s _ ∙ rw (none, le-ltb (length p.classes) 256 (omega (arith, s.0.0.0.0.1)), at, lt-ltb k 256 l)

  named : (f : Report) → Names p f → first_fault p ≡ f
  unfolding first_fault sizes_fault
  named (Ok u) h = no_fault p h
  named (Err Page) h = rw (eq-eqb _ _ h)
  named (Err ClassesSize) h = rw (ne_eqb _ _ h.0, ne_eqb _ _ h.1)
  named (Err SinglesSize) h = rw (ne_eqb _ _ h.0.0, eq-eqb _ _ h.0.1, ne_eqb _ _ h.1)
  named (Err PairsSize) h = rw (ne_eqb _ _ h.0.0.0, eq-eqb _ _ h.0.0.1, eq-eqb _ _ h.0.1, ne_eqb _ _ h.1)
  named (Err IndexSize) h = rw (ne_eqb _ _ h.0.0.0.0, eq-eqb _ _ h.0.0.0.1, eq-eqb _ _ h.0.0.1, eq-eqb _ _ h.0.1, ne_eqb _ _ h.1)
  named (Err BlocksSize) h = blocks_size h.0 h.1
  named (Err (Class byte)) h = class_is h.0 byte h.1 (unknown_bad byte h.2) h.3 ∙ unfold class_fault in rw h.2
  named (Err (Lead byte)) h = class_is h.0 byte (omega (arith, h.1)) (low_lead_bad byte h.1 h.2) h.3 ∙ unfold class_fault in rw (lead_known (entry_at p.classes byte) h.2)
  named (Err (Number place)) h = number_is h.0 place h.2 h.1 h.3 h.4

-- THE REPORT NAMES THE FIRST BAD PLACE: each case exactly if what it says holds.
pub report_exact : (p : CodePage) (f : Report) → (first_fault p ≡ f) ↔ Names p f
report_exact p f = (λ e. subst (Names p) e (says p), named p f)
