-- Laws of places: where codes begin, and the last place that is not behind another.
use mathlib.Core.Bool.{Bool, true, false, ◌||◌}
use mathlib.Core.List.{List, [], ◌∷◌, ◌++◌}
use mathlib.Core.Path.{◌≡◌, refl, sym, ap, ◌∙◌, subst}
use Prim.Native.Nat.{ℕ, ◌+◌, ◌≤◌, ◌<◌}
use native.Mathlib.Omega.{arith}
use lib.Dec.{leb, eqb}
use lib.ListN.{length, drop, length-drop}
use borrow.Author.Tests.{le-leb, lt-leb, eq-eqb, ne_eqb, leb-true, leb-false}
use Rattle.codepage.specs.Reading.{Reader, Code, size_of, codes}
use Rattle.codepage.proofs.ReadingLaws.{sizes_of}
use Rattle.codepage.proofs.ShapeLaws.{or_left_false, or_right_false}
use Rattle.codepage_walk.specs.Walk.{Placed, placed_from, placed, SizedAs}
use Rattle.codepage_walk.proofs.WalkLaws.{Uncut, Next, codes_next, codes_cover, uncut_next, placed_from_lem}
use Rattle.linebreak.specs.Breaks.{is_place}
use Rattle.linebreak.specs.Steps.{last_code_place}

-- ---- the last place
module _ (to place : ℕ) (k : Code) (ks : List Code) where
  -- the first code ends behind `to`: the last place is where it begins
  pub last_stops : to < place + size_of k → last_code_place to place (k ∷ ks) ≡ place
  unfolding last_code_place
  last_stops h = rw (lt-leb (place + size_of k) to h, last_code_place)

  -- the first code ends at `to` or before it: the last place is that of the codes behind it
  pub last_goes : place + size_of k ≤ to → last_code_place to place (k ∷ ks) ≡ last_code_place to (place + size_of k) ks
  unfolding last_code_place
  last_goes h = rw (le-leb (place + size_of k) to h, last_code_place)

-- one turn of the walk
module _ (r : Reader) (text : List ℕ) (to place size : ℕ) (s : SizedAs r text place size) where
  -- the code at the place ends behind `to`: the last place is where it begins
  pub last_stop : to < place + size → last_code_place to place (codes r (drop place text)) ≡ place
  last_stop h = ap (last_code_place to place) s.at.here ∙ last_stops to place s.code _ (omega (arith, s.sized))

  -- the code at the place ends at `to` or before it: the last place is that of the codes from its end on
  pub last_next : place + size ≤ to → last_code_place to place (codes r (drop place text)) ≡ last_code_place to (place + size) (codes r (drop (place + size) text))
  last_next h =
      ap (last_code_place to place) s.at.here ∙ last_goes to place s.code _ (omega (arith, s.sized))
      ∙ ap (λ (n : ℕ). last_code_place to (place + n) (codes r (drop (place + n) text))) (sym s.sized)

-- the codes begin at `to` or behind it: the last place is where they begin
pub last_here : (to place : ℕ) (ks : List Code) → to ≤ place → last_code_place to place ks ≡ place
unfolding last_code_place
last_here to place [] h = refl
last_here to place (k ∷ ks) h = last_stops to place k ks (omega arith)

-- ---- where codes begin
-- none begins before the place that the codes follow from
pub place_below : (place : ℕ) (ks : List Code) (b : ℕ) → b < place → is_place (placed_from place ks) b ≡ false
unfolding is_place placed_from
place_below place [] b h = refl
place_below place (k ∷ ks) b h = rw (ne_eqb place b (λ e. omega arith)) (place_below (place + size_of k) ks b (omega arith))

pub place_behind : (place : ℕ) (ks : List Code) (b : ℕ) → place + sizes_of ks ≤ b → is_place (placed_from place ks) b ≡ false
unfolding is_place placed_from
place_behind place [] b h = refl
place_behind place (k ∷ ks) b h = rw (ne_eqb place b (λ e. omega arith)) (place_behind (place + size_of k) ks b (omega arith))

-- behind the first code's place, the others' places
pub place_next : (place : ℕ) (k : Code) (ks : List Code) (b : ℕ) → place < b → is_place (placed_from place (k ∷ ks)) b ≡ is_place (placed_from (place + size_of k) ks) b
unfolding is_place placed_from
place_next place k ks b h = rw (ne_eqb place b (λ e. omega arith))

-- where there is a code, one begins at the place that the codes follow from
pub place_first : (place : ℕ) (k : Code) (ks : List Code) → is_place (placed_from place (k ∷ ks)) place ≡ true
unfolding is_place placed_from
place_first place k ks = rw (eq-eqb place place refl)

or_false : (t : Bool) → (t || false) ≡ t
or_false true = refl
or_false false = refl

place_only : (place : ℕ) (k : Code) (ks : List Code) (b : ℕ) → b < place + size_of k → is_place (placed_from place (k ∷ ks)) b ≡ eqb place b
unfolding is_place placed_from
place_only place k ks b h = rw (place_below (place + size_of k) ks b h) (or_false (eqb place b))

-- A code begins at a place exactly if it is the last place not behind itself.
pub place_last : (to place : ℕ) (ks : List Code) → place ≤ to → to < place + sizes_of ks → is_place (placed_from place ks) to ≡ eqb (last_code_place to place ks) to
place_last to place [] h l = absurd (omega arith)
place_last to place (k ∷ ks) h l = by (leb (place + size_of k) to) refl (place_last to (place + size_of k) ks)
  where
    by : (t : Bool) → leb (place + size_of k) to ≡ t
        → (place + size_of k ≤ to → to < place + size_of k + sizes_of ks → is_place (placed_from (place + size_of k) ks) to ≡ eqb (last_code_place to (place + size_of k) ks) to)
        → is_place (placed_from place (k ∷ ks)) to ≡ eqb (last_code_place to place (k ∷ ks)) to
    by true e later =
        let fits = leb-true _ _ e in
        place_next place k ks to (omega arith) ∙ later fits (omega arith) ∙ ap (λ (n : ℕ). eqb n to) (sym (last_goes to place k ks fits))
    by false e later =
        let over = leb-false _ _ e in
        place_only place k ks to over ∙ ap (λ (n : ℕ). eqb n to) (sym (last_stops to place k ks over))

place_append : (ps qs : List Placed) (b : ℕ) → is_place ps b ≡ false → is_place (ps ++ qs) b ≡ is_place qs b
unfolding is_place
place_append [] qs b e = refl
place_append (p ∷ ps) qs b e = rw (or_left_false (eqb p.place b) (is_place ps b) e) (place_append ps qs b (or_right_false (eqb p.place b) (is_place ps b) e))

-- ---- of a text
module _ (r : Reader) (text : List ℕ) where
  -- from a place that cuts no code on
  pub places_from : (place : ℕ) → Uncut r text place → (b : ℕ) → place ≤ b → is_place (placed r text) b ≡ is_place (placed_from place (codes r (drop place text))) b
  places_from place u b h =
      ap (λ (ps : List Placed). is_place ps b) (placed_from_lem r text place u) ∙ place_append (placed_from 0 u.before) _ b (place_behind 0 u.before b (omega (arith, u.size)))

  -- the codes from a place on have as many units as are left
  pub sizes_left : (place : ℕ) → place ≤ length text → place + sizes_of (codes r (drop place text)) ≡ length text
  sizes_left place h = omega (arith, codes_cover r (drop place text), length-drop place text)

  -- the last place cuts no code either
  uncut_last : (to place : ℕ) (ks : List Code) → codes r (drop place text) ≡ ks → Uncut r text place → Uncut r text (last_code_place to place ks)
  unfolding last_code_place
  uncut_last to place [] e u = u
  uncut_last to place (k ∷ ks) e u = by (leb (place + size_of k) to) refl (uncut_last to (place + size_of k) ks)
    where
      next : Next r text place k ks
      next = codes_next r text place k ks e

      by : (t : Bool) → leb (place + size_of k) to ≡ t
          → (codes r (drop (place + size_of k) text) ≡ ks → Uncut r text (place + size_of k) → Uncut r text (last_code_place to (place + size_of k) ks))
          → Uncut r text (last_code_place to place (k ∷ ks))
      by true q later = subst (Uncut r text) (sym (last_goes to place k ks (leb-true _ _ q))) (later next.others (uncut_next r text place k u next.at))
      by false q later = subst (Uncut r text) (sym (last_stops to place k ks (leb-false _ _ q))) u

  -- from a place that cuts no code, the last place of the text's codes cuts none either
  pub last_uncut : (to place : ℕ) → Uncut r text place → Uncut r text (last_code_place to place (codes r (drop place text)))
  last_uncut to place u = uncut_last to place (codes r (drop place text)) refl u
