-- Laws of lines: breaks are acceptable exactly if each line is.
use mathlib.Core.Bool.{Bool, true, false, ◌&&◌, false≢true}
use mathlib.Core.List.{List, [], ◌∷◌}
use mathlib.Core.Logic.{◌↔◌}
use mathlib.Core.Path.{◌≡◌, refl, sym, ap, ◌∙◌, subst}
use Prim.Native.Nat.{ℕ, ◌+◌, ◌-◌, ◌≤◌, ◌<◌}
use native.Mathlib.Numerals.{add-one}
use native.Mathlib.Omega.{arith}
use lib.Dec.{leb, ltb, eqb}
use lib.ListN.{length, drop, drop_of_length-le}
use lib.Seq.{drop-cons}
use borrow.Author.Tests.{le-leb, lt-leb, lt-ltb, le-ltb, leb-true, ltb-true, eqb-true}
use Rattle.codepage.specs.CodePage.{entry_at}
use Rattle.codepage.specs.Reading.{Reader, codes}
use Rattle.codepage.proofs.ShapeLaws.{and_left, and_right}
use Rattle.codepage_walk.specs.Walk.{placed}
use Rattle.codepage_walk.proofs.WalkLaws.{Uncut, uncut_start}
use Rattle.linebreak.specs.Breaks.{all_pass, below_next, rising, line_sizes, one_to, is_place, is_inner, acceptable}
use Rattle.linebreak.specs.Steps.{last_code_place, line_good, lines_good}
use Rattle.linebreak.proofs.PlaceLaws.{place_last, places_from, sizes_left, last_uncut}

pub both : (a b : Bool) → a ≡ true → b ≡ true → (a && b) ≡ true
both true b p q = q
both false b p q = p

pub same_truth : (a b : Bool) → (a ≡ true → b ≡ true) → (b ≡ true → a ≡ true) → a ≡ b
same_truth true b f g = sym (f refl)
same_truth false true f g = g refl
same_truth false false f g = refl

-- ---- a line, as it is checked
module _ (r : Reader) (text : List ℕ) (width start b : ℕ) where
  -- not good: the break is at the line's start or before it
  pub not_rising : b ≤ start → line_good r text width start b ≡ false
  unfolding line_good
  not_rising h = rw (le-ltb start b h)

  -- not good: the break is at the text's end or behind it
  pub not_inner : start < b → length text ≤ b → line_good r text width start b ≡ false
  unfolding line_good
  not_inner h i = rw (lt-ltb start b h, le-ltb b (length text) i)

  -- not good: the line is over the width
  pub too_wide : start < b → b < length text → width < b - start → line_good r text width start b ≡ false
  unfolding line_good
  too_wide h i w = rw (lt-ltb start b h, lt-ltb b (length text) i, lt-leb (b - start) width w)

  -- any other line is good exactly if the last place not behind the break is the break
  pub line_cut : start < b → b < length text → b - start ≤ width → line_good r text width start b ≡ eqb (last_code_place b start (codes r (drop start text))) b
  unfolding line_good
  line_cut h i w = rw (lt-ltb start b h, lt-ltb b (length text) i, le-leb (b - start) width w)

  -- the break of a good line is before the text's end
  pub good_inner : line_good r text width start b ≡ true → b < length text
  unfolding line_good
  good_inner e = ltb-true b (length text) (and_left (ltb b (length text)) _ (and_right (ltb start b) _ e))

-- ---- the lines, as they are checked: one turn
module _ (r : Reader) (text : List ℕ) (width start : ℕ) (breaks : List ℕ) (i : ℕ) where
  lines_left : i < length breaks → lines_good r text width start (drop i breaks) ≡ (line_good r text width start (entry_at breaks i) && lines_good r text width (entry_at breaks i) (drop (i + 1) breaks))
  unfolding lines_good
  lines_left h = rw add-one (ap (lines_good r text width start) (drop-cons breaks i 0 h))

  -- if the line to the next break is good, the lines are good exactly if those from that break on are
  pub lines_turn : i < length breaks → line_good r text width start (entry_at breaks i) ≡ true → lines_good r text width start (drop i breaks) ≡ lines_good r text width (entry_at breaks i) (drop (i + 1) breaks)
  lines_turn h e = lines_left h ∙ ap (λ (t : Bool). t && lines_good r text width (entry_at breaks i) (drop (i + 1) breaks)) e

  -- if the line to the next break is not good, the lines are not
  pub lines_stop : i < length breaks → line_good r text width start (entry_at breaks i) ≡ false → lines_good r text width start (drop i breaks) ≡ false
  lines_stop h e = lines_left h ∙ ap (λ (t : Bool). t && lines_good r text width (entry_at breaks i) (drop (i + 1) breaks)) e

  -- with no break left, the lines are good exactly if what is left of the text is within the width
  pub lines_end : length breaks ≤ i → lines_good r text width start (drop i breaks) ≡ leb (length text - start) width
  unfolding lines_good
  lines_end h = ap (lines_good r text width start) (drop_of_length-le breaks h)

-- ---- lines
-- a line that is not the last, from a place to a break
pub record Line (r : Reader) (text : List ℕ) (width start b : ℕ) : Type 0 where
  pub rises : start < b
  pub inner : b < length text
  pub within : b ≤ start + width
  pub place : is_place (placed r text) b ≡ true

-- the lines from a place on
unfoldable pub Lines : Reader → (text : List ℕ) → (width start : ℕ) → (breaks : List ℕ) → Type 0
Lines r text width start [] = length text ≤ start + width
Lines r text width start (b ∷ breaks) = Line r text width start b × Lines r text width b breaks

module _ (r : Reader) (text : List ℕ) (width : ℕ) where
  line_good_lem : (start b : ℕ) → Uncut r text start → Line r text width start b → line_good r text width start b ≡ true
  line_good_lem start b u l =
      let left = sizes_left r text start (omega arith) in
      line_cut r text width start b l.rises l.inner (omega arith)
      ∙ sym (place_last b start (codes r (drop start text)) (omega arith) (omega arith))
      ∙ sym (places_from r text start u b (omega arith))
      ∙ l.place

  good_line : (start b : ℕ) → Uncut r text start → line_good r text width start b ≡ true → Line r text width start b
  unfolding line_good
  good_line start b u e =
      let rises = ltb-true start b (and_left (ltb start b) _ e) in
      let e1 = and_right (ltb start b) _ e in
      let inner = ltb-true b (length text) (and_left (ltb b (length text)) _ e1) in
      let e2 = and_right (ltb b (length text)) _ e1 in
      let within = leb-true (b - start) width (and_left (leb (b - start) width) _ e2) in
      let left = sizes_left r text start (omega arith) in
      record {
        rises = rises;
        inner = inner;
        within = omega arith;
        place = places_from r text start u b (omega arith) ∙ place_last b start (codes r (drop start text)) (omega arith) (omega arith) ∙ and_right (leb (b - start) width) _ e2;
      }

  -- a line's break cuts no code, so the next line begins there
  pub good_uncut : (start b : ℕ) → Uncut r text start → line_good r text width start b ≡ true → Uncut r text b
  unfolding line_good
  good_uncut start b u e =
      let e2 = and_right (leb (b - start) width) _ (and_right (ltb b (length text)) _ (and_right (ltb start b) _ e)) in
      subst (Uncut r text) (eqb-true _ b e2) (last_uncut r text b start u)

  good_lines : (breaks : List ℕ) (start : ℕ) → Uncut r text start → start ≤ length text → lines_good r text width start breaks ≡ true → Lines r text width start breaks
  unfolding lines_good Lines
  good_lines [] start u h e = omega (arith, leb-true (length text - start) width e)
  good_lines (b ∷ breaks) start u h e =
      let first = and_left (line_good r text width start b) _ e in
      let l = good_line start b u first in
      (l, good_lines breaks b (good_uncut start b u first) (omega (arith, l.inner)) (and_right (line_good r text width start b) _ e))

  lines_good_lem : (breaks : List ℕ) (start : ℕ) → Uncut r text start → start ≤ length text → Lines r text width start breaks → lines_good r text width start breaks ≡ true
  unfolding lines_good Lines
  lines_good_lem [] start u h l = le-leb (length text - start) width (omega arith)
  lines_good_lem (b ∷ breaks) start u h l =
      let first = line_good_lem start b u l.0 in
      both _ _ first (lines_good_lem breaks b (good_uncut start b u first) (omega (arith, l.0.inner)) l.1)

  -- ---- the four sentences of document 02
  abbrev Sentences : (start : ℕ) → (breaks : List ℕ) → Type 0
  Sentences start breaks =
      (all_pass (one_to width) (line_sizes start breaks (length text)) ≡ true) × (all_pass (is_place (placed r text)) breaks ≡ true) × (all_pass (is_inner (length text)) breaks ≡ true)

  sentences_lines : (breaks : List ℕ) (start : ℕ) → Sentences start breaks → Lines r text width start breaks
  unfolding all_pass line_sizes Lines
  sentences_lines [] start (sizes, places, inners) =
      omega (arith, leb-true _ width (and_right (leb 1 (length text - start)) _ (and_left (one_to width (length text - start)) _ sizes)))
  sentences_lines (b ∷ breaks) start (sizes, places, inners) =
      let size = and_left (one_to width (b - start)) _ sizes in
      let least = leb-true 1 (b - start) (and_left (leb 1 (b - start)) _ size) in
      let most = leb-true (b - start) width (and_right (leb 1 (b - start)) _ size) in
      let inner = and_left (is_inner (length text) b) _ inners in (
        record {
          rises = omega arith;
          inner = ltb-true b (length text) (and_right (ltb 0 b) _ inner);
          within = omega arith;
          place = and_left (is_place (placed r text) b) _ places;
        },
        sentences_lines breaks b
            (and_right (one_to width (b - start)) _ sizes, and_right (is_place (placed r text) b) _ places, and_right (is_inner (length text) b) _ inners),
      )

  lines_sentences : (breaks : List ℕ) (start : ℕ) → start < length text → Lines r text width start breaks → (rising breaks ≡ true) × (below_next start breaks ≡ true) × Sentences start breaks
  unfolding all_pass line_sizes Lines rising
  lines_sentences [] start h l =
      (refl, refl, (both _ true (both _ _ (le-leb 1 (length text - start) (omega arith)) (le-leb (length text - start) width (omega arith))) refl, refl, refl))
  lines_sentences (b ∷ breaks) start h (first, others) =
      let rises = first.rises in
      let inner = first.inner in
      let within = first.within in
      let (rise, next, (sizes, places, inners)) = lines_sentences breaks b inner others in (
        both _ _ next rise,
        lt-ltb start b rises,
        (
          both _ _ (both _ _ (le-leb 1 (b - start) (omega arith)) (le-leb (b - start) width (omega arith))) sizes,
          both _ _ first.place places,
          both _ _ (both _ _ (lt-ltb 0 b (omega arith)) (lt-ltb b (length text) inner)) inners,
        ),
      )

-- ACCEPTABLE EXACTLY IF EACH LINE IS.
pub acceptable_lines : (r : Reader) (text : List ℕ) (width : ℕ) (breaks : List ℕ) → (acceptable r text width breaks ≡ true) ↔ Lines r text width 0 breaks
unfolding acceptable Lines
acceptable_lines r [] width [] = (λ e. omega arith, λ l. refl)
acceptable_lines r [] width (b ∷ breaks) = (λ e. absurd (false≢true e), λ l. absurd (omega (arith, l.0.inner)))
acceptable_lines r (a ∷ text) width breaks = (
  λ e. let e1 = and_right (rising breaks) _ e in
      let e2 = and_right (all_pass (one_to width) (line_sizes 0 breaks (length (a ∷ text)))) _ e1 in
      sentences_lines r (a ∷ text) width breaks 0
      (and_left (all_pass (one_to width) (line_sizes 0 breaks (length (a ∷ text)))) _ e1, and_left (all_pass (is_place (placed r (a ∷ text))) breaks) _ e2, and_right (all_pass (is_place (placed r (a ∷ text))) breaks) _ e2),
  λ l. let (rise, next, (sizes, places, inners)) = lines_sentences r (a ∷ text) width breaks 0 (omega arith) l in
      both _ _ rise (both _ _ sizes (both _ _ places inners)),
)

-- what is checked line by line is whether the breaks are acceptable
pub lines_acceptable : (r : Reader) (text : List ℕ) (width : ℕ) (breaks : List ℕ) → lines_good r text width 0 breaks ≡ acceptable r text width breaks
lines_acceptable r text width breaks =
    same_truth _ _ (λ e. (acceptable_lines r text width breaks).1 (good_lines r text width breaks 0 (uncut_start r text) (omega arith) e))
    (λ e. lines_good_lem r text width breaks 0 (uncut_start r text) (omega arith) ((acceptable_lines r text width breaks).0 e))
