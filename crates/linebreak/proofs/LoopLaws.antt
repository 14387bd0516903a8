-- Laws of the loops that count and write our breaks: one turn, and the end.
use mathlib.Core.Bool.{Bool, true, false}
use mathlib.Core.List.{List, [], ◌∷◌, ◌++◌}
use mathlib.Core.Path.{◌≡◌, refl, sym, ap, ◌∙◌, subst}
use Prim.Native.Nat.{ℕ, ◌+◌, ◌-◌, ◌/◌, ◌≤◌, ◌<◌}
use native.Mathlib.Numerals.{add-one}
use native.Mathlib.Omega.{arith}
use lib.Dec.{leb, ltb}
use lib.ListN.{length, take, drop, set, length-append, take-append-drop}
use lib.Seq.{take-suc-set, drop-set-lt, drop-drop, length-take-le}
use borrow.Author.Tests.{le-leb, lt-leb, ltb-true, ltb-false}
use Rattle.std.proofs.Common.{Some, None}
use Rattle.codepage.specs.CodePage.{pick}
use Rattle.codepage.specs.Lent.{over}
use Rattle.codepage.specs.Reading.{Reader, codes}
use Rattle.linebreak.specs.Breaks.{ours, breakable}
use Rattle.linebreak.specs.Steps.{our_count, sure_to_fit}
use Rattle.linebreak.proofs.OursLaws.{Going, line_end, last_from, last_within, going_start, going_turn, going_room, going_stuck, going_exists, going_all}

-- a line's end lies at or behind its start, and at most the width behind it
module _ (r : Reader) (text : List ℕ) (width start end : ℕ) (e : end ≡ line_end r text width start) where
  -- a line's end is not before its start
  pub end_from : start ≤ end
  end_from = omega (arith, last_from (start + width) start (codes r (drop start text)))

  -- a line's end is at most the width behind its start
  pub end_within : end ≤ start + width
  end_within = omega (arith, last_within (start + width) start (codes r (drop start text)) (omega arith))

-- ---- counting
-- `count` breaks are done, and the next line begins at `start`
pub record Counting (r : Reader) (text : List ℕ) (width start count : ℕ) : Type 0 where
  pub done : List ℕ
  pub size : length done ≡ count
  pub going : Going r text width start done

-- at the text's beginning none is counted
pub counting_start : (r : Reader) (text : List ℕ) (width : ℕ) → Counting r text width 0 0
counting_start r text width = record { done = []; size = refl; going = going_start r text width }

module _ (r : Reader) (text : List ℕ) (width start count : ℕ) (c : Counting r text width start count) where
  -- where more than a line is left, the line's end is one break more, and the next line begins there
  pub counting_turn : (end : ℕ) → start + width < length text → end ≡ line_end r text width start → Counting r text width end (count + 1)
  counting_turn end more e =
      record {
        done = c.done ++ (end ∷ []);
        size = length-append c.done (end ∷ []) ∙ ap (λ (n : ℕ). n + 1) c.size;
        going = subst (λ (n : ℕ). Going r text width n (c.done ++ (n ∷ []))) (sym e) (going_turn r text width start c.done c.going more);
      }

  -- where more than a line is left and the line would have no byte, no acceptable breaks exist
  pub counting_stuck : (end : ℕ) → start + width < length text → end ≡ line_end r text width start → end ≡ start → None ≡ our_count r text width
  unfolding our_count
  counting_stuck end more e s = rw (going_stuck r text width start c.done c.going more (sym e ∙ s))

  -- where what is left fits the line, acceptable breaks exist and ours are as many as were counted
  pub counting_end : start ≤ length text → length text ≤ start + width → Some count ≡ our_count r text width
  unfolding our_count
  counting_end inside last =
      rw (going_exists r text width start c.done c.going inside last)
      (ap (λ (n : ℕ). Some n) (sym c.size ∙ ap length (sym (going_all r text width start c.done c.going inside last))))

-- what counting tells: whether acceptable breaks exist, and then how many ours are
pub counted_none : (r : Reader) (text : List ℕ) (width : ℕ) → our_count r text width ≡ None → breakable r text width ≡ false
unfolding our_count
counted_none r text width e = by (breakable r text width) refl e
  where
    by : (t : Bool) → breakable r text width ≡ t → pick t (Some (length (ours r text width))) None ≡ None → breakable r text width ≡ false
    by false q e = q
    by true q e = let z : ◌≡◌ {A = ℕ} 0 1 = cc in absurd (omega arith)

pub counted_some : (r : Reader) (text : List ℕ) (width count : ℕ) → our_count r text width ≡ Some count → (breakable r text width ≡ true) × (count ≡ length (ours r text width))
unfolding our_count
counted_some r text width count e = by (breakable r text width) refl e
  where
    by : (t : Bool) → breakable r text width ≡ t → pick t (Some (length (ours r text width))) None ≡ Some count → (breakable r text width ≡ true) × (count ≡ length (ours r text width))
    by true q e = (q, cc)
    by false q e = let z : ◌≡◌ {A = ℕ} 0 1 = cc in absurd (omega arith)

-- ---- writing
module _ (r : Reader) (text : List ℕ) (width start i : ℕ) (out : List ℕ) (g : Going r text width start (take i out)) where
  module _ (more : start + width < length text) (exists : breakable r text width ≡ true) where
    -- where more than a line is left and acceptable breaks exist, ours are more than the `i` that are written
    pub writing_room : i ≤ length out → i < length (ours r text width)
    writing_room h = omega (arith, going_room r text width start (take i out) g more exists, length-take-le i out h)

  -- where ours are no more than those written, what is left fits the line
  pub writing_full : breakable r text width ≡ true → i ≤ length out → length (ours r text width) ≤ i → length text ≤ start + width
  writing_full exists h full = by (ltb (start + width) (length text)) refl
    where
      by : (t : Bool) → ltb (start + width) (length text) ≡ t → length text ≤ start + width
      by true e = absurd (omega (arith, writing_room (ltb-true _ _ e) exists h))
      by false e = ltb-false _ _ e

  -- where more than a line is left, the line's end, written at `i`, is one break more, and the next line begins at that end
  pub writing_turn : (end : ℕ) → start + width < length text → i < length out → end ≡ line_end r text width start → Going r text width end (take (i + 1) (set out i end))
  writing_turn end more h e =
      let written : take (i + 1) (set out i end) ≡ take i out ++ (end ∷ []) = rw (add-one i) (take-suc-set out i end h) in
      subst (Going r text width end) (sym written)
      (subst (λ (n : ℕ). Going r text width n (take i out ++ (n ∷ []))) (sym e) (going_turn r text width start (take i out) g more))

  -- where what is left fits the line, the list has ours at its front, and behind them what was there before
  pub writing_end : (before : List ℕ) → start ≤ length text → length text ≤ start + width → i ≤ length out → drop i out ≡ drop i before → out ≡ over before (ours r text width)
  unfolding over
  writing_end before inside last h same =
      let all = going_all r text width start (take i out) g inside last in
      sym (take-append-drop i out) ∙ ap (λ (l : List ℕ). take i out ++ l) same
      ∙ ap (λ (n : ℕ). take i out ++ drop n before) (sym (length-take-le i out h))
      ∙ ap (λ (l : List ℕ). l ++ drop (length l) before) (sym all)

  -- and it was as many turns as ours are
  pub writing_count : start ≤ length text → length text ≤ start + width → i ≤ length out → i ≡ length (ours r text width)
  writing_count inside last h = sym (ap length (going_all r text width start (take i out) g inside last) ∙ length-take-le i out h)

-- ---- a list that ours are sure to fit
-- not at a width below 2
pub sure_narrow : (size width room : ℕ) → width < 2 → false ≡ sure_to_fit size width room
unfolding sure_to_fit
sure_narrow size width room h = rw (lt-leb 2 width h)

-- at another width by the bytes alone
pub sure_wide : (size width room : ℕ) → 2 ≤ width → leb (size / (width - 1)) room ≡ sure_to_fit size width room
unfolding sure_to_fit
sure_wide size width room h = rw (le-leb 2 width h)

-- the list behind what is written is as before
pub writing_left : (out before : List ℕ) (i end : ℕ) → drop i out ≡ drop i before → drop (i + 1) (set out i end) ≡ drop (i + 1) before
writing_left out before i end same =
    drop-set-lt (i + 1) out i end (omega arith) ∙ sym (drop-drop 1 i out) ∙ ap (drop 1) same ∙ drop-drop 1 i before
