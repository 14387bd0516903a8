-- Laws of the shape: the report is exact, and of a good shape every place that a rule looks at is inside its table.
use Rattle.std.specs.Prelude.{Ok, Err, Some, None}
use mathlib.Core.Bool.{Bool, true, false, not, ◌&&◌, ◌||◌, true≢false, false≢true}
use mathlib.Core.List.{List, [], ◌∷◌}
use mathlib.Core.Logic.{◌↔◌}
use mathlib.Core.Path.{◌≡◌, refl, sym, ap, ◌∙◌}
use Prim.Native.Nat.{ℕ, zero, suc, ◌+◌, ◌*◌, ◌/◌, ◌%◌, ◌<◌, ◌≤◌}
use native.Mathlib.Nat.{zero-add, not-suc-le-zero, le_of_suc-le-suc}
use native.Mathlib.Numerals.{add-one}
use native.Mathlib.Omega.{arith}
use lib.Dec.{leb, ltb, eqb}
use lib.ListN.{length, get_or, take, drop, length-take, drop_of_length-le}
use lib.Seq.{drop-cons, take_all}
use borrow.Author.Tests.{eqb-true, eqb-false, leb-true, leb-false, ltb-true, ltb-false, eq-eqb, ne_eqb, le-leb, lt-leb, lt-ltb, le-ltb, not-false}
use Rattle.codepage.specs.CodePage.{CodePage, pick, entry_at, is_known, is_lead, leads, leads_below, GoodShape, first_bad, bad_class, bad_number, class_fault, sizes_fault, entries_fault, first_fault, is_good, Report, place_below}
use Rattle.codepage.specs.declared.Fault.{Fault}
use Rattle.codepage.specs.declared.Fault.TheVariants.{Page, ClassesSize, SinglesSize, PairsSize, IndexSize, BlocksSize, Number}

-- ---- the first bad place
module _ (bad : ℕ → ℕ → Bool) where
  -- the entry at the place that is looked at is bad: that is the place
  pub bad_here : (i x : ℕ) (xs : List ℕ) → bad i x ≡ true → first_bad bad i (x ∷ xs) ≡ i
  unfolding first_bad
  bad_here i x xs e = rw (e, first_bad)

  -- the entry is good: the search goes on behind it
  pub bad_later : (i x : ℕ) (xs : List ℕ) → bad i x ≡ false → first_bad bad i (x ∷ xs) ≡ first_bad bad (suc i) xs
  unfolding first_bad
  bad_later i x xs e = rw (e, first_bad)

  -- a turn of the search, and its two ends
  pub bad_turn : (i : ℕ) (xs : List ℕ) (n : ℕ) → n ≡ first_bad bad i (drop i xs) → i < length xs → bad i (get_or xs i 0) ≡ false → n ≡ first_bad bad (i + 1) (drop (i + 1) xs)
  bad_turn i xs n e h b = e ∙ ap (first_bad bad i) (drop-cons xs i 0 h) ∙ bad_later i (get_or xs i 0) (drop (suc i) xs) b ∙ rw (add-one i)

  -- the search ends at a bad entry
  pub bad_found : (i : ℕ) (xs : List ℕ) (n : ℕ) → n ≡ first_bad bad i (drop i xs) → i < length xs → bad i (get_or xs i 0) ≡ true → n ≡ i
  bad_found i xs n e h b = e ∙ ap (first_bad bad i) (drop-cons xs i 0 h) ∙ bad_here i (get_or xs i 0) (drop (suc i) xs) b

  -- or behind the last entry
  pub bad_none : (i : ℕ) (xs : List ℕ) (n : ℕ) → n ≡ first_bad bad i (drop i xs) → length xs ≤ i → n ≡ i
  unfolding first_bad
  bad_none i xs n e h = e ∙ ap (first_bad bad i) (drop_of_length-le xs h)

  -- the same of a place below an end, or none
  pub place_found : (i : ℕ) (xs : List ℕ) (end : ℕ) → length xs ≡ end → first_bad bad 0 xs ≡ first_bad bad i (drop i xs) → i < end → bad i (get_or xs i 0) ≡ true → Some i ≡ place_below end (first_bad bad 0 xs)
  place_found i xs end l e h b = rw (bad_found i xs _ e (omega arith) b, lt-ltb i end h)

  pub place_none : (i : ℕ) (xs : List ℕ) (end : ℕ) → length xs ≡ end → first_bad bad 0 xs ≡ first_bad bad i (drop i xs) → end ≤ i → None ≡ place_below end (first_bad bad 0 xs)
  place_none i xs end l e h = rw (bad_none i xs _ e (omega arith), le-ltb i end h)

  -- where none is found, none is bad; where none is bad, none is found
  none_step : (i x : ℕ) (xs : List ℕ) (t : Bool) → bad i x ≡ t → i + length (x ∷ xs) ≤ first_bad bad i (x ∷ xs) → (bad i x ≡ false) × (suc i + length xs ≤ first_bad bad (suc i) xs)
  none_step i x xs true e h = absurd (omega (arith, bad_here i x xs e))
  none_step i x xs false e h = (e, omega (arith, bad_later i x xs e))

  none_bad : (i : ℕ) (xs : List ℕ) → i + length xs ≤ first_bad bad i xs → (k : ℕ) → k < length xs → bad (i + k) (get_or xs k 0) ≡ false
  none_bad i [] h k q = absurd (not-suc-le-zero q)
  none_bad i (x ∷ xs) h zero q =
      let z : i + 0 ≡ i = omega arith in
      rw z (none_step i x xs (bad i x) refl h).0
  none_bad i (x ∷ xs) h (suc k) q =
      let z : i + suc k ≡ suc i + k = omega arith in
      rw z (none_bad (suc i) xs (none_step i x xs (bad i x) refl h).1 k (le_of_suc-le-suc q))

  all_good : (i : ℕ) (xs : List ℕ) → ((k : ℕ) → k < length xs → bad (i + k) (get_or xs k 0) ≡ false) → first_bad bad i xs ≡ i + length xs
  unfolding first_bad
  all_good i [] h = omega arith
  all_good i (x ∷ xs) h =
      let z : i + 0 ≡ i = omega arith in
      let here : bad i x ≡ false = rw z at (h 0 (omega arith)) in
      bad_later i x xs here
      ∙ all_good (suc i) xs (λ k q. let y : suc i + k ≡ i + suc k = omega arith in rw y (h (suc k) (omega arith)))
      ∙ omega arith

  -- counted from 0
  pub none_at_all : (xs : List ℕ) → length xs ≤ first_bad bad 0 xs → (k : ℕ) → k < length xs → bad k (get_or xs k 0) ≡ false
  none_at_all xs h k q = rw (zero-add k) at (none_bad 0 xs (omega arith) k q)

  -- where no entry is bad, the search ends behind the last one
  pub all_are_good : (xs : List ℕ) → ((k : ℕ) → k < length xs → bad k (get_or xs k 0) ≡ false) → first_bad bad 0 xs ≡ length xs
  all_are_good xs h = all_good 0 xs (λ k q. rw (zero-add k) (h k q)) ∙ omega arith

-- ---- Bools
pub and_left : (a b : Bool) → (a && b) ≡ true → a ≡ true
and_left true b e = refl
and_left false b e = absurd (false≢true e)

-- where both hold, the second does
pub and_right : (a b : Bool) → (a && b) ≡ true → b ≡ true
and_right true b e = e
and_right false b e = absurd (false≢true e)

-- where neither holds, the first does not
pub or_left_false : (a b : Bool) → (a || b) ≡ false → a ≡ false
or_left_false true b e = absurd (true≢false e)
or_left_false false b e = refl

-- where neither holds, the second does not
pub or_right_false : (a b : Bool) → (a || b) ≡ false → b ≡ false
or_right_false true b e = absurd (true≢false e)
or_right_false false b e = e

-- ---- counting leads
one_more : (a b : Bool) (n : ℕ) → pick a (suc (pick b (suc n) n)) (pick b (suc n) n) ≡ pick b (suc (pick a (suc n) n)) (pick a (suc n) n)
one_more true true n = refl
one_more true false n = refl
one_more false true n = refl
one_more false false n = refl

-- one class more
leads_more : (cs : List ℕ) (i : ℕ) → i < length cs → leads (take (suc i) cs) ≡ pick (is_lead (get_or cs i 0)) (suc (leads (take i cs))) (leads (take i cs))
unfolding leads
leads_more [] i h = absurd (not-suc-le-zero h)
leads_more (c ∷ cs) zero h = refl
leads_more (c ∷ cs) (suc i) h =
    ap (λ (n : ℕ). pick (is_lead c) (suc n) n) (leads_more cs i (le_of_suc-le-suc h)) ∙ one_more (is_lead c) (is_lead (get_or cs i 0)) (leads (take i cs))

-- a byte more that is a lead counts one more
pub count_lead : (cs : List ℕ) (i n : ℕ) → n ≡ leads (take i cs) → is_lead (get_or cs i 0) ≡ true → i < length cs → n + 1 ≡ leads (take (i + 1) cs)
count_lead cs i n e q h =
    let m : leads (take (suc i) cs) ≡ suc (leads (take i cs)) = leads_more cs i h ∙ rw q in
    rw (add-one, add-one, m, e)

-- a byte more that is no lead counts nothing
pub count_other : (cs : List ℕ) (i n : ℕ) → n ≡ leads (take i cs) → is_lead (get_or cs i 0) ≡ false → i < length cs → n ≡ leads (take (i + 1) cs)
count_other cs i n e q h =
    let m : leads (take (suc i) cs) ≡ leads (take i cs) = leads_more cs i h ∙ rw q in
    rw (add-one, m, e)

pick_le : (t : Bool) (n m : ℕ) → n ≤ m → pick t (suc n) n ≤ pick t (suc m) m
pick_le true n m h = omega arith
pick_le false n m h = h

leads_take_le : (cs : List ℕ) (i : ℕ) → leads (take i cs) ≤ leads cs
unfolding leads
leads_take_le cs zero = omega arith
leads_take_le [] (suc i) = omega arith
leads_take_le (c ∷ cs) (suc i) = pick_le (is_lead c) (leads (take i cs)) (leads cs) (leads_take_le cs i)

pick_le_one : (t : Bool) (n m : ℕ) → n ≤ m → pick t (suc n) n ≤ suc m
pick_le_one true n m h = omega arith
pick_le_one false n m h = omega arith

pub leads_le : (cs : List ℕ) → leads cs ≤ length cs
unfolding leads
leads_le [] = omega arith
leads_le (c ∷ cs) = pick_le_one (is_lead c) (leads cs) (length cs) (leads_le cs)

-- a lead's block is there
pub block_there : (cs : List ℕ) (byte : ℕ) → byte < length cs → is_lead (get_or cs byte 0) ≡ true → leads_below cs byte < leads cs
unfolding leads_below
block_there cs byte h e =
    let q : leads (take (suc byte) cs) ≡ suc (leads (take byte cs)) = leads_more cs byte h ∙ rw e in
    omega (arith, leads_take_le cs (suc byte))

-- the leads below 256 are all the leads of a table of 256 classes
pub below_all : (cs : List ℕ) → length cs ≡ 256 → leads_below cs 256 ≡ leads cs
unfolding leads_below
below_all cs h = ap leads (take_all 256 cs (omega arith))

-- no more leads are below a byte than there are bytes below it
pub below_le : (cs : List ℕ) (byte : ℕ) → leads_below cs byte ≤ byte
unfolding leads_below
below_le cs byte = omega (arith, leads_le (take byte cs), simp length-take at (leads_le (take byte cs)))

-- ---- the report is exact
good_step : (b : Bool) (f g : Report) → is_good f ≡ false → is_good (pick b f g) ≡ true → (b ≡ false) × (is_good g ≡ true)
good_step true f g n e = absurd (false≢true (sym n ∙ e))
good_step false f g n e = (refl, e)

class_fault_lem : (cs : List ℕ) (byte : ℕ) (t : Bool) → is_known (entry_at cs byte) ≡ t → is_good (class_fault cs byte) ≡ false
unfolding class_fault
class_fault_lem cs byte true e = rw e
class_fault_lem cs byte false e = rw e

-- what is told of a place below an end, or none
pub below_some : (end n k : ℕ) → place_below end n ≡ Some k → (ltb n end ≡ true) × (n ≡ k)
below_some end n k = by_test (ltb n end) refl
  where
    by_test : (t : Bool) → ltb n end ≡ t → pick t (Some n) None ≡ Some k → (ltb n end ≡ true) × (n ≡ k)
    by_test true q e = (q, search e)
    by_test false q e = search e

pub below_none : (end n : ℕ) → place_below end n ≡ None → ltb n end ≡ false
below_none end n = by_test (ltb n end) refl
  where
    by_test : (t : Bool) → ltb n end ≡ t → pick t (Some n) None ≡ None → ltb n end ≡ false
    by_test true q e = search e
    by_test false q e = q

-- what comes after the sizes counts exactly where the sizes hold
abbrev chain : (a b c d e f g : Bool) → Report → Report
chain a b c d e f g then = pick a (Err Page) (pick b (Err ClassesSize) (pick c (Err SinglesSize) (pick d (Err PairsSize) (pick e (Err IndexSize) (pick f (Err BlocksSize) (pick g (Err BlocksSize) then))))))

chain_then : (a b c d e f g : Bool) (then : Report) → chain a b c d e f g then ≡ pick (is_good (chain a b c d e f g (Ok tt))) then (chain a b c d e f g (Ok tt))
chain_then true b c d e f g then = refl
chain_then false true c d e f g then = refl
chain_then false false true d e f g then = refl
chain_then false false false true e f g then = refl
chain_then false false false false true f g then = refl
chain_then false false false false false true g then = refl
chain_then false false false false false false true then = refl
chain_then false false false false false false false then = refl

pub sizes_then : (p : CodePage) (then : Report) → sizes_fault p then ≡ pick (is_good (sizes_fault p (Ok tt))) then (sizes_fault p (Ok tt))
unfolding sizes_fault
sizes_then p then =
    chain_then
    (eqb p.page 0)
    (not (eqb (length p.classes) 256))
    (not (eqb (length p.singles) 256))
    (not (eqb (length p.pairs) (256 * leads p.classes)))
    (not (eqb (length p.index) 256))
    (not (eqb (length p.blocks % 256) 0))
    (not (leb 1 (length p.blocks / 256) && leb (length p.blocks / 256) 256))
    then

-- where the sizes hold, classes and index have 256 entries
pub sizes_classes : (p : CodePage) → is_good (sizes_fault p (Ok tt)) ≡ true → (length p.classes ≡ 256) × (length p.index ≡ 256)
unfolding sizes_fault
sizes_classes p e =
    let s₁ = good_step (eqb p.page 0) (Err Page) _ refl e in
    let s₂ = good_step (not (eqb (length p.classes) 256)) (Err ClassesSize) _ refl s₁.1 in
    let s₃ = good_step (not (eqb (length p.singles) 256)) (Err SinglesSize) _ refl s₂.1 in
    let s₄ = good_step (not (eqb (length p.pairs) (256 * leads p.classes))) (Err PairsSize) _ refl s₃.1 in
    let s₅ = good_step (not (eqb (length p.index) 256)) (Err IndexSize) _ refl s₄.1 in
    (eqb-true _ _ (not-false _ s₂.0), eqb-true _ _ (not-false _ s₅.0))

-- the report in two parts: a fault of the page and the sizes is the report
pub report_bad : (p : CodePage) (e : Fault) → sizes_fault p (Ok tt) ≡ Err e → first_fault p ≡ Err e
unfolding first_fault
report_bad p e q = rw (sizes_then, q)

-- where page and sizes are good, the report is what the entries say
pub report_good : (p : CodePage) (u : Unit) → sizes_fault p (Ok tt) ≡ Ok u → first_fault p ≡ entries_fault p.classes p.index (length p.blocks / 256)
unfolding first_fault
report_good p u q = rw (sizes_then, q)

module _ (p : CodePage) where
  good_shape : is_good (first_fault p) ≡ true → GoodShape p
  unfolding first_fault sizes_fault entries_fault bad_class bad_number
  good_shape e =
      let s₁ = good_step (eqb p.page 0) (Err Page) _ refl e in
      let s₂ = good_step (not (eqb (length p.classes) 256)) (Err ClassesSize) _ refl s₁.1 in
      let s₃ = good_step (not (eqb (length p.singles) 256)) (Err SinglesSize) _ refl s₂.1 in
      let s₄ = good_step (not (eqb (length p.pairs) (256 * leads p.classes))) (Err PairsSize) _ refl s₃.1 in
      let s₅ = good_step (not (eqb (length p.index) 256)) (Err IndexSize) _ refl s₄.1 in
      let s₆ = good_step (not (eqb (length p.blocks % 256) 0)) (Err BlocksSize) _ refl s₅.1 in
      let s₇ = good_step (not (leb 1 (length p.blocks / 256) && leb (length p.blocks / 256) 256)) (Err BlocksSize) _ refl s₆.1 in
      let s₈ = good_step (ltb (first_bad bad_class 0 p.classes) 256) (class_fault p.classes (first_bad bad_class 0 p.classes)) _ (class_fault_lem p.classes (first_bad bad_class 0 p.classes) _ refl) s₇.1 in
      let s₉ = good_step (ltb (first_bad (bad_number (length p.blocks / 256)) 0 p.index) 256) (Err (Number (first_bad (bad_number (length p.blocks / 256)) 0 p.index))) _ refl s₈.1 in
      let classes : length p.classes ≡ 256 = eqb-true _ _ (not-false _ s₂.0) in
      let index : length p.index ≡ 256 = eqb-true _ _ (not-false _ s₅.0) in
      let whole : length p.blocks % 256 ≡ 0 = eqb-true _ _ (not-false _ s₆.0) in
      let count = not-false _ s₇.0 in
      let low : 1 ≤ length p.blocks / 256 = leb-true 1 (length p.blocks / 256) (and_left _ _ count) in
      let high : length p.blocks / 256 ≤ 256 = leb-true (length p.blocks / 256) 256 (and_right (leb 1 (length p.blocks / 256)) _ count) in
      let no_class : 256 ≤ first_bad bad_class 0 p.classes = ltb-false _ _ s₈.0 in
      let no_number : 256 ≤ first_bad (bad_number (length p.blocks / 256)) 0 p.index = ltb-false _ _ s₉.0 in
      let class : (k : ℕ) → k < 256 → bad_class k (entry_at p.classes k) ≡ false =
      λ k h. none_at_all bad_class p.classes (omega arith) k (omega arith) in
      let number : (k : ℕ) → k < 256 → leb (length p.blocks / 256) (entry_at p.index k) ≡ false =
      λ k h. none_at_all (bad_number (length p.blocks / 256)) p.index (omega arith) k (omega arith) in
      record {
        page = eqb-false _ _ s₁.0;
        classes = classes;
        singles = eqb-true _ _ (not-false _ s₃.0);
        pairs = eqb-true _ _ (not-false _ s₄.0);
        index = index;
        blocks = (length p.blocks / 256, low, high, omega arith);
        class = λ k h. not-false _ (or_left_false _ _ (class k h));
        low = λ k h. sym (rw (lt-ltb k 0x80 h)) ∙ or_right_false (not (is_known (entry_at p.classes k))) _ (class k (omega arith));
        number = λ k h. omega (arith, leb-false (length p.blocks / 256) (entry_at p.index k) (number k h));
      }

  number_good : (k : ℕ) → 256 * entry_at p.index k + 256 ≤ length p.blocks → bad_number (length p.blocks / 256) k (entry_at p.index k) ≡ false
  unfolding bad_number
  number_good k h = lt-leb (length p.blocks / 256) (entry_at p.index k) (omega arith)

  class_good : (k : ℕ) (t : Bool) → ltb k 0x80 ≡ t → GoodShape p → is_known (entry_at p.classes k) ≡ true → bad_class k (entry_at p.classes k) ≡ false
  unfolding bad_class
  class_good k true e g h = rw (h, e, g.low k (ltb-true _ _ e))
  class_good k false e g h = rw (h, e)

  -- of a good shape the report says good
  pub no_fault : GoodShape p → first_fault p ≡ Ok tt
  unfolding first_fault sizes_fault entries_fault
  no_fault g =
      let count = g.blocks.0 in
      let size : length p.blocks ≡ 256 * count = g.blocks.3 in
      let number : (k : ℕ) → k < length p.index → bad_number (length p.blocks / 256) k (entry_at p.index k) ≡ false =
      λ k h. number_good k (g.number k (omega (arith, g.index))) in
      let class : (k : ℕ) → k < length p.classes → bad_class k (entry_at p.classes k) ≡ false =
      λ k h. class_good k (ltb k 0x80) refl g (g.class k (omega (arith, g.classes))) in
      let no_class : 256 ≤ first_bad bad_class 0 p.classes = omega (arith, all_are_good bad_class p.classes class, g.classes) in
      let no_number : 256 ≤ first_bad (bad_number (length p.blocks / 256)) 0 p.index = omega (arith, all_are_good (bad_number (length p.blocks / 256)) p.index number, g.index) in
      let low : 1 ≤ length p.blocks / 256 = omega (arith, g.blocks.1) in
      let high : length p.blocks / 256 ≤ 256 = omega (arith, g.blocks.2) in
      let even : length p.blocks % 256 ≡ 0 = omega arith in
      rw (
        ne_eqb _ _ g.page,
        eq-eqb _ _ g.classes,
        eq-eqb _ _ g.singles,
        eq-eqb _ _ g.pairs,
        eq-eqb _ _ g.index,
        eq-eqb _ _ even,
        le-leb _ _ low,
        le-leb _ _ high,
        le-ltb _ _ no_class,
        le-ltb _ _ no_number,
      )

  -- THE REPORT IS EXACT: it says good exactly if document 01's conjunction holds.
  pub shape_exact : (is_good (first_fault p) ≡ true) ↔ GoodShape p
  shape_exact = (good_shape, λ g. ap is_good (no_fault g))

-- Every place that a rule looks at is inside its table.
pub record Inside (p : CodePage) : Type 0 where
  pub class : (byte : ℕ) → byte < 256 → byte < length p.classes
  pub single : (byte : ℕ) → byte < 256 → byte < length p.singles
  pub pair : (lead byte : ℕ) → lead < 256 → is_lead (entry_at p.classes lead) ≡ true → byte < 256 → 256 * leads_below p.classes lead + byte < length p.pairs
  pub high : (unit : ℕ) → unit < 65536 → unit / 256 < length p.index
  pub code : (unit : ℕ) → unit < 65536 → 256 * entry_at p.index (unit / 256) + unit % 256 < length p.blocks

-- the tables of a good shape are asked within their sizes
pub inside : (p : CodePage) → GoodShape p → Inside p
inside p g =
    record {
      class = λ byte h. omega (arith, g.classes);
      single = λ byte h. omega (arith, g.singles);
      pair = λ lead byte h e b. omega (arith, g.pairs, block_there p.classes lead (omega (arith, g.classes)) e);
      high = λ unit h. omega (arith, g.index);
      code = λ unit h. omega (arith, g.number (unit / 256) (omega arith));
    }
