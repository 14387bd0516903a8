-- Laws of our breaks: how they go on from a place, for the loops that count and write them.
use mathlib.Core.Bool.{Bool, true, false}
use mathlib.Core.List.{List, [], ◌∷◌, ◌++◌, append_assoc, append-nil}
use mathlib.Core.Path.{◌≡◌, refl, sym, ap, ◌∙◌}
use Prim.Native.Nat.{ℕ, ◌+◌, ◌≤◌, ◌<◌}
use native.Mathlib.Omega.{arith}
use lib.Dec.{leb}
use lib.ListN.{length, drop, length-append}
use borrow.Author.Tests.{le-leb, lt-leb, leb-true, leb-false}
use Rattle.codepage.specs.Reading.{Reader, Code, size_of, codes}
use Rattle.codepage.proofs.ReadingLaws.{sizes_of}
use Rattle.codepage.proofs.ShapeLaws.{and_left, and_right}
use Rattle.codepage_walk.specs.Walk.{placed_from, placed}
use Rattle.codepage_walk.proofs.WalkLaws.{codes_next}
use Rattle.linebreak.specs.Breaks.{breaks_from, ours, all_fit, breakable}
use Rattle.linebreak.specs.Steps.{last_code_place}
use Rattle.linebreak.proofs.PlaceLaws.{last_stops, last_goes, sizes_left}

-- ---- the last place lies between
-- the last place is not before the place that the codes follow from
pub last_from : (to place : ℕ) (ks : List Code) → place ≤ last_code_place to place ks
unfolding last_code_place
last_from to place [] = omega arith
last_from to place (k ∷ ks) = by (leb (place + size_of k) to) refl (last_from to (place + size_of k) ks)
  where
    by : (t : Bool) → leb (place + size_of k) to ≡ t → place + size_of k ≤ last_code_place to (place + size_of k) ks → place ≤ last_code_place to place (k ∷ ks)
    by true e later = omega (arith, last_goes to place k ks (leb-true _ _ e))
    by false e later = omega (arith, last_stops to place k ks (leb-false _ _ e))

-- the last place is not behind `to`, if the codes follow from `to` or before it
pub last_within : (to place : ℕ) (ks : List Code) → place ≤ to → last_code_place to place ks ≤ to
unfolding last_code_place
last_within to place [] h = h
last_within to place (k ∷ ks) h = by (leb (place + size_of k) to) refl (last_within to (place + size_of k) ks)
  where
    by : (t : Bool) → leb (place + size_of k) to ≡ t → (place + size_of k ≤ to → last_code_place to (place + size_of k) ks ≤ to) → last_code_place to place (k ∷ ks) ≤ to
    by true e later = omega (arith, last_goes to place k ks (leb-true _ _ e), later (leb-true _ _ e))
    by false e later = omega (arith, last_stops to place k ks (leb-false _ _ e))

-- ---- one code more
module _ (width place : ℕ) (k : Code) (ks : List Code) (start : ℕ) where
  -- it fits the line
  pub goes_on : place + size_of k ≤ start + width → breaks_from width (placed_from place (k ∷ ks)) start ≡ breaks_from width (placed_from (place + size_of k) ks) start
  unfolding breaks_from placed_from
  goes_on h = rw (le-leb (place + size_of k) (start + width) h, breaks_from)

  -- it begins the next line
  pub begins : start + width < place + size_of k → breaks_from width (placed_from place (k ∷ ks)) start ≡ place ∷ breaks_from width (placed_from (place + size_of k) ks) place
  unfolding breaks_from placed_from
  begins h = rw (lt-leb (place + size_of k) (start + width) h, breaks_from)

  -- if the first code is not longer than the width, the others decide whether any is
  pub fit_rest : size_of k ≤ width → all_fit width (k ∷ ks) ≡ all_fit width ks
  unfolding all_fit
  fit_rest h = rw (le-leb (size_of k) width h)

  -- if the first code is longer than the width, not all codes fit
  pub not_fit : width < size_of k → all_fit width (k ∷ ks) ≡ false
  unfolding all_fit
  not_fit h = rw (lt-leb (size_of k) width h)

  -- if no code is longer than the width, the first is not
  pub fit_first : all_fit width (k ∷ ks) ≡ true → size_of k ≤ width
  unfolding all_fit
  fit_first e = leb-true (size_of k) width (and_left _ _ e)

  -- if no code is longer than the width, none of those behind the first is
  pub fit_others : all_fit width (k ∷ ks) ≡ true → all_fit width ks ≡ true
  unfolding all_fit
  fit_others e = and_right (leb (size_of k) width) _ e

-- what is left fits the line
pub rest_fits : (width place : ℕ) (ks : List Code) (start : ℕ) → start ≤ place → place + sizes_of ks ≤ start + width
    → (breaks_from width (placed_from place ks) start ≡ []) × (all_fit width ks ≡ true)
unfolding breaks_from placed_from all_fit
rest_fits width place [] start h l = (refl, refl)
rest_fits width place (k ∷ ks) start h l =
    let later = rest_fits width (place + size_of k) ks start (omega arith) (omega arith) in
    (goes_on width place k ks start (omega arith) ∙ later.0, fit_rest width place k ks start (omega arith) ∙ later.1)

-- a break, and our breaks from there on
abbrev break_at : Reader → (text : List ℕ) → (width place : ℕ) → List ℕ
break_at r text width place = place ∷ breaks_from width (placed_from place (codes r (drop place text))) place

-- ---- a line: to the last place that is not over the width
module _ (r : Reader) (text : List ℕ) (width start : ℕ) where
  -- its codes fit
  line_fits : (ks : List Code) (place : ℕ) → codes r (drop place text) ≡ ks → start ≤ place
      → all_fit width ks ≡ all_fit width (codes r (drop (last_code_place (start + width) place ks) text))
  unfolding last_code_place
  line_fits [] place e h = ap (all_fit width) (sym e)
  line_fits (k ∷ ks) place e h = by (leb (place + size_of k) (start + width)) refl (line_fits ks (place + size_of k))
    where
      by : (t : Bool) → leb (place + size_of k) (start + width) ≡ t
          → (codes r (drop (place + size_of k) text) ≡ ks → start ≤ place + size_of k → all_fit width ks ≡ all_fit width (codes r (drop (last_code_place (start + width) (place + size_of k) ks) text)))
          → all_fit width (k ∷ ks) ≡ all_fit width (codes r (drop (last_code_place (start + width) place (k ∷ ks)) text))
      by true q later =
          let fits = leb-true _ _ q in
          fit_rest width place k ks start (omega arith) ∙ later (codes_next r text place k ks e).others (omega arith)
          ∙ ap (λ (n : ℕ). all_fit width (codes r (drop n text))) (sym (last_goes (start + width) place k ks fits))
      by false q later = ap (all_fit width) (sym e) ∙ ap (λ (n : ℕ). all_fit width (codes r (drop n text))) (sym (last_stops (start + width) place k ks (leb-false _ _ q)))

  -- our breaks: its end, and those of the rest
  line_breaks : (ks : List Code) (place : ℕ) → codes r (drop place text) ≡ ks → place ≤ start + width → start + width < place + sizes_of ks → all_fit width ks ≡ true
      → breaks_from width (placed_from place ks) start
      ≡ break_at r text width (last_code_place (start + width) place ks)
  unfolding last_code_place
  line_breaks [] place e h l f = absurd (omega arith)
  line_breaks (k ∷ ks) place e h l f = by (leb (place + size_of k) (start + width)) refl (line_breaks ks (place + size_of k))
    where
      by : (t : Bool) → leb (place + size_of k) (start + width) ≡ t
          → (codes r (drop (place + size_of k) text) ≡ ks → place + size_of k ≤ start + width → start + width < place + size_of k + sizes_of ks → all_fit width ks ≡ true
          → breaks_from width (placed_from (place + size_of k) ks) start ≡ break_at r text width (last_code_place (start + width) (place + size_of k) ks))
          → breaks_from width (placed_from place (k ∷ ks)) start ≡ break_at r text width (last_code_place (start + width) place (k ∷ ks))
      by true q later =
          let fits = leb-true _ _ q in
          goes_on width place k ks start fits ∙ later (codes_next r text place k ks e).others fits (omega arith) (fit_others width place k ks start f)
          ∙ ap (break_at r text width) (sym (last_goes (start + width) place k ks fits))
      by false q later =
          let over = leb-false _ _ q in
          begins width place k ks start over
          ∙ ap (λ (l : List ℕ). place ∷ l)
          (sym (goes_on width place k ks place (omega (arith, fit_first width place k ks start f))) ∙ ap (λ (l : List Code). breaks_from width (placed_from place l) place) (sym e))
          ∙ ap (break_at r text width) (sym (last_stops (start + width) place k ks over))

  -- a first code that does not fit
  line_stuck : (ks : List Code) → start + width < start + sizes_of ks → last_code_place (start + width) start ks ≡ start → all_fit width ks ≡ false
  line_stuck [] l e = absurd (omega arith)
  line_stuck (k ∷ ks) l e = by (leb (start + size_of k) (start + width)) refl
    where
      by : (t : Bool) → leb (start + size_of k) (start + width) ≡ t → all_fit width (k ∷ ks) ≡ false
      by true q = absurd (omega (arith, last_goes (start + width) start k ks (leb-true _ _ q), last_from (start + width) (start + size_of k) ks))
      by false q = not_fit width start k ks start (omega (arith, leb-false (start + size_of k) (start + width) q))

-- ---- the loops: our breaks are those that are done, and those from a place on
pub record Going (r : Reader) (text : List ℕ) (width start : ℕ) (done : List ℕ) : Type 0 where
  pub fit : breakable r text width ≡ all_fit width (codes r (drop start text))
  pub breaks : breakable r text width ≡ true → ours r text width ≡ done ++ breaks_from width (placed_from start (codes r (drop start text))) start

-- where our line from `start` ends: the last place that is at most the width behind it
abbrev pub line_end : Reader → (text : List ℕ) → (width start : ℕ) → ℕ
line_end r text width start = last_code_place (start + width) start (codes r (drop start text))

-- at the text's beginning none is done
pub going_start : (r : Reader) (text : List ℕ) (width : ℕ) → Going r text width 0 []
unfolding breakable ours placed
going_start r text width = record { fit = refl; breaks = λ e. refl }

module _ (r : Reader) (text : List ℕ) (width start : ℕ) (done : List ℕ) (g : Going r text width start done) where
  -- a line more, where more than a line is left
  module _ (more : start + width < length text) where
    left : start + sizes_of (codes r (drop start text)) ≡ length text
    left = sizes_left r text start (omega arith)

    goes : breakable r text width ≡ true
        → breaks_from width (placed_from start (codes r (drop start text))) start
        ≡ break_at r text width (line_end r text width start)
    goes e = line_breaks r text width start (codes r (drop start text)) start refl (omega arith) (omega (arith, left)) (sym g.fit ∙ e)

    -- the line's end is one break more, and the next line begins there
    pub going_turn : Going r text width (line_end r text width start) (done ++ (line_end r text width start ∷ []))
    going_turn =
        record {
          fit = g.fit ∙ line_fits r text width start (codes r (drop start text)) start refl (omega arith);
          breaks = λ e. g.breaks e ∙ ap (λ (l : List ℕ). done ++ l) (goes e) ∙ sym (append_assoc done (line_end r text width start ∷ []) _);
        }

    -- if no code is longer than the width, ours are more than those that are done
    pub going_room : breakable r text width ≡ true → length done < length (ours r text width)
    going_room e = rw (g.breaks e, goes e, length-append) (omega arith)

    -- if the line would have no byte, a code is longer than the width
    pub going_stuck : line_end r text width start ≡ start → breakable r text width ≡ false
    going_stuck e = g.fit ∙ line_stuck r text width start (codes r (drop start text)) (omega (arith, left)) e

  -- the last line
  module _ (inside : start ≤ length text) (last : length text ≤ start + width) where
    ends : (breaks_from width (placed_from start (codes r (drop start text))) start ≡ []) × (all_fit width (codes r (drop start text)) ≡ true)
    ends = rest_fits width start (codes r (drop start text)) start (omega arith) (omega (arith, sizes_left r text start inside))

    -- where what is left fits the line, no code is longer than the width
    pub going_exists : breakable r text width ≡ true
    going_exists = g.fit ∙ ends.1

    -- where what is left fits the line, ours are those that are done
    pub going_all : ours r text width ≡ done
    going_all = g.breaks going_exists ∙ ap (λ (l : List ℕ). done ++ l) ends.0 ∙ append-nil done
