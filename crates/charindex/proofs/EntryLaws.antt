-- Laws of entries: what one code more adds, and reading on from a start to a place.
use mathlib.Core.Bool.{Bool, true, false, ◌&&◌}
use mathlib.Core.List.{List, [], ◌∷◌}
use mathlib.Core.Logic.{◌⊎◌, inl, inr}
use mathlib.Core.Path.{◌≡◌, refl, sym, ap, ◌∙◌, subst}
use Prim.Native.Nat.{ℕ, suc, ◌+◌, ◌-◌, ◌*◌, ◌≤◌, ◌<◌}
use native.Mathlib.Omega.{arith}
use lib.Dec.{leb, eqb}
use lib.ListN.{drop}
use borrow.Author.Tests.{lt-ltb, le-ltb, eq-eqb, ne_eqb, leb-true, leb-false}
use Rattle.codepage.specs.Reading.{Reader, Code, size_of, codes}
use Rattle.codepage_walk.specs.Walk.{Placed, placed_from, SizedAs}
use Rattle.codepage_walk.proofs.WalkLaws.{codes_next}
use Rattle.charindex.specs.Index.{entry_of, starts_before, is_second, block_entry, codes_from, code_number}
use Rattle.charindex.specs.Steps.{Reached}

-- codes that begin at a place or behind it do not start before it, and it is no second byte of theirs
pub starts_none : (b place : ℕ) (ks : List Code) → b ≤ place → starts_before b (placed_from place ks) ≡ 0
unfolding starts_before placed_from
starts_none b place [] h = refl
starts_none b place (k ∷ ks) h = rw (le-ltb place b h) (omega (arith, starts_none b (place + size_of k) ks (omega arith)))

-- nor is the place a second byte of theirs
pub second_none : (b place : ℕ) (ks : List Code) → b ≤ place → is_second b (placed_from place ks) ≡ false
unfolding is_second placed_from
second_none b place [] h = refl
second_none b place (k ∷ ks) h = rw (ne_eqb (place + 1) b (λ e. omega arith)) (second_none b (place + size_of k) ks (omega arith))

-- the entry of a place that no code starts before
pub entry_none : (count b place : ℕ) (ks : List Code) → b ≤ place → block_entry count (placed_from place ks) b ≡ 2 * count
unfolding block_entry entry_of
entry_none count b place ks h = rw (starts_none b place ks h, second_none b place ks h) (omega arith)

-- a code that starts before a place, which is not its second byte
module _ (count place : ℕ) (k : Code) (ks : List Code) (b : ℕ) (h : place < b) where
  -- it is counted
  pub entry_next : (eqb (place + 1) b && eqb (size_of k) 2) ≡ false → block_entry count (placed_from place (k ∷ ks)) b ≡ block_entry (count + 1) (placed_from (place + size_of k) ks) b
  unfolding block_entry starts_before is_second placed_from
  entry_next e =
      let more : count + (1 + starts_before b (placed_from (place + size_of k) ks)) ≡ count + 1 + starts_before b (placed_from (place + size_of k) ks) = omega arith in
      rw (lt-ltb place b h, e) (ap (λ (n : ℕ). entry_of n (is_second b (placed_from (place + size_of k) ks))) more)

  -- one whose second byte it is
  pub entry_second : place + 1 ≡ b → size_of k ≡ 2 → block_entry count (placed_from place (k ∷ ks)) b ≡ 2 * (count + 1) + 1
  unfolding block_entry entry_of starts_before is_second placed_from
  entry_second e two = rw (lt-ltb place b h, eq-eqb (place + 1) b e, eq-eqb (size_of k) 2 two, starts_none b (place + size_of k) ks (omega arith)) (omega arith)

not_second_one : (t : Bool) (n : ℕ) → n ≡ 1 → (t && eqb n 2) ≡ false
not_second_one true n e = ne_eqb n 2 (λ q. omega arith)
not_second_one false n e = refl

-- ---- reading on from a start: at a place and a count on the way
-- the entry of the place to reach: still to be read, or told by its second byte's code
abbrev pub Here : Reader → (text : List ℕ) → (from counted to place count : ℕ) → Type 0
Here r text from counted to place count =
    ((place ≤ to) × (block_entry counted (codes_from r text from) to ≡ block_entry count (codes_from r text place) to))
    ⊎ ((place ≡ to + 1) × (block_entry counted (codes_from r text from) to ≡ 2 * count + 1))

-- reading from one start to a place, at another place and count: what is still to be read is the same
pub record Reading (r : Reader) (text : List ℕ) (from counted to place count : ℕ) : Type 0 where
  pub later : (b : ℕ) → to < b → block_entry counted (codes_from r text from) b ≡ block_entry count (codes_from r text place) b
  pub here : Here r text from counted to place count
  pub numbers : (n : ℕ) → count ≤ n → code_number (n - counted) (codes_from r text from) ≡ code_number (n - count) (codes_from r text place)

-- at the start itself
pub reading_start : (r : Reader) (text : List ℕ) (from counted to : ℕ) → from ≤ to → Reading r text from counted to from counted
reading_start r text from counted to h = record { later = λ b l. refl; here = inl (h, refl); numbers = λ n l. refl }

module _ (r : Reader) (text : List ℕ) (from counted to place count : ℕ) (s : Reading r text from counted to place count) where
  -- one code on
  pub reading_turn : (size : ℕ) → counted ≤ count → place < to → SizedAs r text place size → Reading r text from counted to (place + size) (count + 1)
  unfolding code_number placed_from
  reading_turn size c h k = subst (λ (n : ℕ). Reading r text from counted to (place + n) (count + 1)) (sym k.sized) next
    where
      codes_here : codes_from r text place ≡ placed_from place (k.code ∷ codes r (drop (place + size_of k.code) text))
      codes_here = ap (placed_from place) k.at.here

      small : (size_of k.code ≡ 1) ⊎ (size_of k.code ≡ 2)
      small = (codes_next r text place k.code (codes r (drop (place + size_of k.code) text)) k.at.here).size

      goes : (b : ℕ) → place < b → (eqb (place + 1) b && eqb (size_of k.code) 2) ≡ false
          → block_entry count (codes_from r text place) b ≡ block_entry (count + 1) (codes_from r text (place + size_of k.code)) b
      goes b l e = ap (λ (ps : List Placed). block_entry count ps b) codes_here ∙ entry_next count place k.code (codes r (drop (place + size_of k.code) text)) b l e

      far : (b : ℕ) → place + 1 < b → (eqb (place + 1) b && eqb (size_of k.code) 2) ≡ false
      far b l = rw (ne_eqb (place + 1) b (λ e. omega arith))

      before : block_entry counted (codes_from r text from) to ≡ block_entry count (codes_from r text place) to
      before = by s.here
        where
          by : Here r text from counted to place count
              → block_entry counted (codes_from r text from) to ≡ block_entry count (codes_from r text place) to
          by (inl (l, e)) = e
          by (inr (l, e)) = absurd (omega arith)

      at_two : size_of k.code ≡ 2 → (t : Bool) → leb (place + 2) to ≡ t → Here r text from counted to (place + size_of k.code) (count + 1)
      at_two two true q = let l = leb-true (place + 2) to q in inl (omega arith, before ∙ goes to h (far to (omega arith)))
      at_two two false q =
          let l = leb-false (place + 2) to q in
          inr (omega arith, before ∙ ap (λ (ps : List Placed). block_entry count ps to) codes_here ∙ entry_second count place k.code (codes r (drop (place + size_of k.code) text)) to h (omega arith) two)

      at_size : (size_of k.code ≡ 1) ⊎ (size_of k.code ≡ 2) → Here r text from counted to (place + size_of k.code) (count + 1)
      at_size (inl one) = inl (omega arith, before ∙ goes to h (not_second_one (eqb (place + 1) to) (size_of k.code) one))
      at_size (inr two) = at_two two (leb (place + 2) to) refl

      passes : (n m : ℕ) → n ≡ suc m → code_number n (codes_from r text place) ≡ code_number m (codes_from r text (place + size_of k.code))
      passes n m e = ap (λ (i : ℕ). code_number i (codes_from r text place)) e ∙ ap (code_number (suc m)) codes_here

      next : Reading r text from counted to (place + size_of k.code) (count + 1)
      next =
          record {
            later = λ b l. s.later b l ∙ goes b (omega arith) (far b (omega arith));
            here = at_size small;
            numbers = λ n l. s.numbers n (omega arith) ∙ passes (n - count) (n - (count + 1)) (omega arith);
          }

  -- the place is reached
  pub reading_end : to ≤ place → Reached r text (record { place = from; count = counted }) to (record { place = place; count = count })
  reading_end h = by s.here
    where
      by : Here r text from counted to place count
          → Reached r text (record { place = from; count = counted }) to (record { place = place; count = count })
      by (inl (l, e)) =
          record {
            from_on = h;
            within = omega arith;
            here = let none = entry_none count to place (codes r (drop place text)) h in omega arith;
            later = s.later;
          }
      by (inr (l, e)) = record { from_on = h; within = omega arith; here = omega arith; later = s.later }
