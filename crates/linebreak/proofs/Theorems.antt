-- Of our breaks: they are acceptable, each line is as long as it can be, and no acceptable proposal has fewer lines; and when none
-- exists. (Document 02, CR 12.)
use mathlib.Core.Bool.{Bool, true, false, ◌&&◌, true≢false, false≢true}
use mathlib.Core.List.{List, [], ◌∷◌, ◌++◌}
use mathlib.Core.Logic.{◌↔◌, ◌⊎◌, inl, inr}
use mathlib.Core.Path.{◌≡◌, refl, sym, ap, ◌∙◌, subst}
use Prim.Native.Nat.{ℕ, zero, suc, ◌+◌, ◌-◌, ◌*◌, ◌/◌, ◌≤◌, ◌<◌}
use native.Mathlib.Omega.{arith}
use lib.Dec.{leb, ltb}
use lib.ListN.{length, get_or, length-append}
use lib.Ieee.Nearest.{div_mono}
use lib.Seq.{get_or-append_seam}
use borrow.Author.Tests.{leb-true, leb-false, ltb-true, ltb-false}
use Rattle.codepage.specs.CodePage.{entry_at}
use Rattle.codepage.specs.Reading.{Reader, Code, size_of, codes}
use Rattle.codepage.proofs.ReadingLaws.{sizes_of}
use Rattle.codepage.proofs.ShapeLaws.{and_left, and_right}
use Rattle.codepage_walk.specs.Walk.{placed_from, placed}
use Rattle.codepage_walk.proofs.WalkLaws.{codes_cover, Small, codes_small}
use Rattle.linebreak.specs.Breaks.{is_place, acceptable, breaks_from, ours, all_fit, breakable}
use Rattle.linebreak.specs.Steps.{sure_to_fit}
use Rattle.linebreak.specs.Claims.{Longest, NoneCut, NoBreaks, LongCode}
use Rattle.linebreak.proofs.PlaceLaws.{place_below, place_next, place_first}
use Rattle.linebreak.proofs.LineLaws.{Line, Lines, acceptable_lines}
use Rattle.linebreak.proofs.OursLaws.{goes_on, begins, fit_rest, not_fit, fit_first, fit_others}

and_false : (t : Bool) → (t && false) ≡ false
and_false true = refl
and_false false = refl

module _ (r : Reader) (text : List ℕ) where
  -- the places of a text from one on are those of some codes
  abbrev PlacesFrom : (place : ℕ) → List Code → Type 0
  PlacesFrom place ks = (b : ℕ) → place ≤ b → is_place (placed r text) b ≡ is_place (placed_from place ks) b

  all_places : PlacesFrom 0 (codes r text)
  unfolding placed
  all_places b h = refl

  places_next : (place : ℕ) (k : Code) (ks : List Code) → PlacesFrom place (k ∷ ks) → PlacesFrom (place + size_of k) ks
  places_next place k ks at b h = at b (omega arith) ∙ place_next place k ks b (omega arith)

  -- the next place lies behind the whole code
  places_apart : (place : ℕ) (k : Code) (ks : List Code) → PlacesFrom place (k ∷ ks) → (b : ℕ) → place < b → is_place (placed r text) b ≡ true → place + size_of k ≤ b
  places_apart place k ks at b h e = by (leb (place + size_of k) b) refl
    where
      by : (t : Bool) → leb (place + size_of k) b ≡ t → place + size_of k ≤ b
      by true q = leb-true _ _ q
      by false q =
          let none : is_place (placed r text) b ≡ false = at b (omega arith) ∙ place_next place k ks b h ∙ place_below (place + size_of k) ks b (leb-false _ _ q) in
          absurd (true≢false (sym e ∙ none))

  -- ---- a code begins at a break exactly if none is cut
  none_cut_below : (ks : List Code) (place b : ℕ) → b ≤ place → NoneCut b (placed_from place ks)
  unfolding NoneCut placed_from
  none_cut_below [] place b h = tt
  none_cut_below (k ∷ ks) place b h = (λ l. absurd (omega arith), none_cut_below ks (place + size_of k) b (omega arith))

  place_cuts_none : (ks : List Code) (place b : ℕ) → is_place (placed_from place ks) b ≡ true → NoneCut b (placed_from place ks)
  unfolding NoneCut placed_from is_place
  place_cuts_none [] place b e = tt
  place_cuts_none (k ∷ ks) place b e = by (ltb place b) refl (place_cuts_none ks (place + size_of k) b)
    where
      by : (t : Bool) → ltb place b ≡ t → (is_place (placed_from (place + size_of k) ks) b ≡ true → NoneCut b (placed_from (place + size_of k) ks)) → NoneCut b (placed_from place (k ∷ ks))
      by true q later =
          let next : is_place (placed_from (place + size_of k) ks) b ≡ true = sym (place_next place k ks b (ltb-true place b q)) ∙ e in
          (λ l. behind (leb (place + size_of k) b) refl next, later next)
        where
          behind : (t : Bool) → leb (place + size_of k) b ≡ t → is_place (placed_from (place + size_of k) ks) b ≡ true → place + size_of k ≤ b
          behind true q next = leb-true _ _ q
          behind false q next = absurd (true≢false (sym next ∙ place_below (place + size_of k) ks b (leb-false _ _ q)))
      by false q later = (λ l. absurd (omega (arith, ltb-false place b q)), none_cut_below ks (place + size_of k) b (omega (arith, ltb-false place b q)))

  none_cut_place : (ks : List Code) (place b : ℕ) → place ≤ b → b < place + sizes_of ks → NoneCut b (placed_from place ks) → is_place (placed_from place ks) b ≡ true
  unfolding NoneCut placed_from is_place
  none_cut_place [] place b h l n = absurd (omega arith)
  none_cut_place (k ∷ ks) place b h l (first, others) = by (ltb place b) refl (none_cut_place ks (place + size_of k) b)
    where
      by : (t : Bool) → ltb place b ≡ t
          → (place + size_of k ≤ b → b < place + size_of k + sizes_of ks → NoneCut b (placed_from (place + size_of k) ks) → is_place (placed_from (place + size_of k) ks) b ≡ true)
          → is_place (placed_from place (k ∷ ks)) b ≡ true
      by true q later =
          let before = ltb-true place b q in
          place_next place k ks b before ∙ later (first before) (omega arith) others
      by false q later =
          let same : place ≡ b = omega (arith, ltb-false place b q) in
          subst (λ (n : ℕ). is_place (placed_from place (k ∷ ks)) n ≡ true) same (place_first place k ks)

  -- A CODE BEGINS AT A PLACE OF THE TEXT EXACTLY IF NO CODE IS CUT THERE.
  pub no_code_cut : (b : ℕ) → b < length text → (is_place (placed r text) b ≡ true) ↔ NoneCut b (placed r text)
  unfolding placed
  no_code_cut b h = (place_cuts_none (codes r text) 0 b, none_cut_place (codes r text) 0 b (omega arith) (omega (arith, codes_cover r text)))

  module _ (width : ℕ) where
    -- ---- our lines
    lines_from : (ks : List Code) (place start : ℕ) → PlacesFrom place ks → start ≤ place → place ≤ start + width → place + sizes_of ks ≡ length text → all_fit width ks ≡ true
        → Lines r text width start (breaks_from width (placed_from place ks) start)
    unfolding Lines breaks_from placed_from
    lines_from [] place start at h l n f = omega arith
    lines_from (k ∷ ks) place start at h l n f =
        by (leb (place + size_of k) (start + width)) refl (λ (s : ℕ). lines_from ks (place + size_of k) s (places_next place k ks at))
      where
        first : size_of k ≤ width
        first = fit_first width place k ks start f

        by : (t : Bool) → leb (place + size_of k) (start + width) ≡ t
            → ((s : ℕ) → s ≤ place + size_of k → place + size_of k ≤ s + width → place + size_of k + sizes_of ks ≡ length text → all_fit width ks ≡ true
            → Lines r text width s (breaks_from width (placed_from (place + size_of k) ks) s))
            → Lines r text width start (breaks_from width (placed_from place (k ∷ ks)) start)
        by true q later =
            let fits = leb-true _ _ q in
            subst (Lines r text width start) (sym (goes_on width place k ks start fits)) (later start (omega arith) fits (omega arith) (fit_others width place k ks start f))
        by false q later =
            let over : start + width < place + size_of k = leb-false _ _ q in
            let line : Line r text width start place =
            record { rises = omega (arith, first); inner = omega arith; within = l; place = at place (omega arith) ∙ place_first place k ks } in
            subst (Lines r text width start) (sym (begins width place k ks start over))
            (line, later place (omega arith) (omega (arith, first)) (omega arith) (fit_others width place k ks start f))

    -- OUR BREAKS ARE ACCEPTABLE, if acceptable breaks exist.
    pub ours_acceptable : breakable r text width ≡ true → acceptable r text width (ours r text width) ≡ true
    unfolding breakable ours placed
    ours_acceptable f =
        (acceptable_lines r text width (ours r text width)).1 (lines_from (codes r text) 0 0 all_places (omega arith) (omega arith) (omega (arith, codes_cover r text)) f)

    longest_from : (ks : List Code) (place start : ℕ) → PlacesFrom place ks → place + sizes_of ks ≡ length text → Longest r text width start (breaks_from width (placed_from place ks) start)
    unfolding Longest breaks_from placed_from
    longest_from [] place start at n = tt
    longest_from (k ∷ ks) place start at n =
        by (leb (place + size_of k) (start + width)) refl (λ (s : ℕ). longest_from ks (place + size_of k) s (places_next place k ks at) (omega arith))
      where
        by : (t : Bool) → leb (place + size_of k) (start + width) ≡ t → ((s : ℕ) → Longest r text width s (breaks_from width (placed_from (place + size_of k) ks) s))
            → Longest r text width start (breaks_from width (placed_from place (k ∷ ks)) start)
        by true q later = subst (Longest r text width start) (sym (goes_on width place k ks start (leb-true _ _ q))) (later start)
        by false q later =
            let over = leb-false _ _ q in
            subst (Longest r text width start) (sym (begins width place k ks start over)) (omega arith, λ b e h. by_place b e h (leb b place) refl over, later place)
          where
            by_place : (b : ℕ) → is_place (placed r text) b ≡ true → b ≤ start + width → (t : Bool) → leb b place ≡ t → start + width < place + size_of k → b ≤ place
            by_place b e h true q over = leb-true _ _ q
            by_place b e h false q over = absurd (omega (arith, places_apart place k ks at b (leb-false _ _ q) e))

    -- EACH LINE FROM THE FIRST ON IS AS LONG AS IT CAN BE.
    pub ours_longest : Longest r text width 0 (ours r text width)
    unfolding ours placed
    ours_longest = longest_from (codes r text) 0 0 all_places (omega (arith, codes_cover r text))

    -- ---- any acceptable breaks beside breaks whose lines are as long as they can be
    further : (mine others : List ℕ) (mine_start other_start : ℕ) → other_start ≤ mine_start → Longest r text width mine_start mine → Lines r text width other_start others
        → (k : ℕ) → k < length mine → (k < length others) × (entry_at others k ≤ entry_at mine k)
    unfolding Longest Lines
    further [] others s t h m o k i = absurd (omega arith)
    further (b ∷ mine) [] s t h (over, most, m) o k i = absurd (omega arith)
    further (b ∷ mine) (c ∷ others) s t h (over, most, m) (line, o) zero i = (omega arith, most c line.place (omega (arith, line.within)))
    further (b ∷ mine) (c ∷ others) s t h (over, most, m) (line, o) (suc k) i =
        let (there, before) = further mine others b c (most c line.place (omega (arith, line.within))) m o k (omega arith) in
        (omega arith, before)

    -- OF ANY ACCEPTABLE BREAKS, none comes after ours of the same number, and there are as many or more.
    pub ours_furthest : (breaks : List ℕ) → acceptable r text width breaks ≡ true → (k : ℕ) → k < length (ours r text width)
        → (k < length breaks) × (entry_at breaks k ≤ entry_at (ours r text width) k)
    ours_furthest breaks e = further (ours r text width) breaks 0 0 (omega arith) ours_longest ((acceptable_lines r text width breaks).0 e)

    -- NO ACCEPTABLE PROPOSAL HAS FEWER LINES.
    pub fewest_lines : (breaks : List ℕ) → acceptable r text width breaks ≡ true → length (ours r text width) ≤ length breaks
    fewest_lines breaks e = by (length (ours r text width)) refl
      where
        by : (n : ℕ) → length (ours r text width) ≡ n → length (ours r text width) ≤ length breaks
        by zero q = omega arith
        by (suc n) q = omega (arith, (ours_furthest breaks e n (omega arith)).0)

    -- AMONG ACCEPTABLE PROPOSALS WITH THE SAME LINES BEFORE IT, no line is longer than ours, and none ends the text where ours goes on.
    pub as_long_as_can_be : (before rest others : List ℕ) (b c : ℕ) → ours r text width ≡ before ++ (b ∷ rest) → acceptable r text width (before ++ (c ∷ others)) ≡ true → c ≤ b
    as_long_as_can_be before rest others b c e a =
        let more = (ours_furthest (before ++ (c ∷ others)) a (length before) (rw (e, length-append) (omega arith))).1 in
        subst (λ (n : ℕ). n ≤ b) (get_or-append_seam before c others 0)
        (subst (λ (n : ℕ). get_or (before ++ (c ∷ others)) (length before) 0 ≤ n) (ap (λ (l : List ℕ). get_or l (length before) 0) e ∙ get_or-append_seam before b rest 0) more)

    pub ends_no_earlier : (before rest : List ℕ) (b : ℕ) → ours r text width ≡ before ++ (b ∷ rest) → acceptable r text width before ≡ false
    ends_no_earlier before rest b e = by (acceptable r text width before) refl
      where
        by : (t : Bool) → acceptable r text width before ≡ t → acceptable r text width before ≡ false
        by true q = absurd (omega (arith, fewest_lines before q, ap length e, length-append before (b ∷ rest)))
        by false q = q

    -- ---- when none exists
    -- a code lies in one line of any acceptable breaks
    in_line : (breaks : List ℕ) (start place : ℕ) (k : Code) (ks : List Code) → PlacesFrom place (k ∷ ks) → place + size_of k ≤ length text → start ≤ place
        → Lines r text width start breaks → size_of k ≤ width
    unfolding Lines
    in_line [] start place k ks at n h l = omega arith
    in_line (b ∷ breaks) start place k ks at n h (line, lines) = by (leb b place) refl (in_line breaks b place k ks at n)
      where
        by : (t : Bool) → leb b place ≡ t → (b ≤ place → Lines r text width b breaks → size_of k ≤ width) → size_of k ≤ width
        by true q later = later (leb-true _ _ q) lines
        by false q later = omega (arith, places_apart place k ks at b (leb-false _ _ q) line.place, line.within)

    fits_from : (breaks : List ℕ) → Lines r text width 0 breaks → (ks : List Code) (place : ℕ) → PlacesFrom place ks → place + sizes_of ks ≡ length text → all_fit width ks ≡ true
    unfolding all_fit
    fits_from breaks l [] place at n = refl
    fits_from breaks l (k ∷ ks) place at n =
        fit_rest width place k ks 0 (in_line breaks 0 place k ks at (omega arith) (omega arith) l) ∙ fits_from breaks l ks (place + size_of k) (places_next place k ks at) (omega arith)

    -- if any breaks are acceptable, no code is longer than the width
    pub exist_breakable : (breaks : List ℕ) → acceptable r text width breaks ≡ true → breakable r text width ≡ true
    unfolding breakable
    exist_breakable breaks e = fits_from breaks ((acceptable_lines r text width breaks).0 e) (codes r text) 0 all_places (omega (arith, codes_cover r text))

    -- 31 EXACTLY IF NO ACCEPTABLE BREAKS EXIST.
    pub none_exists : (breakable r text width ≡ false) ↔ NoBreaks r text width
    none_exists = (λ e breaks. by breaks (acceptable r text width breaks) refl e, λ none. by_ours (breakable r text width) refl none)
      where
        by : (breaks : List ℕ) (t : Bool) → acceptable r text width breaks ≡ t → breakable r text width ≡ false → acceptable r text width breaks ≡ false
        by breaks true q e = absurd (false≢true (sym e ∙ exist_breakable breaks q))
        by breaks false q e = q

        by_ours : (t : Bool) → breakable r text width ≡ t → NoBreaks r text width → breakable r text width ≡ false
        by_ours true q none = absurd (true≢false (sym (ours_acceptable q) ∙ none (ours r text width)))
        by_ours false q none = q

    long_among : (ks : List Code) → all_fit width ks ≡ false → (before : List Code) × (k : Code) × (after : List Code) × (ks ≡ before ++ (k ∷ after)) × (width < size_of k)
    unfolding all_fit
    long_among [] e = absurd (true≢false e)
    long_among (k ∷ ks) e = by (leb (size_of k) width) refl (long_among ks)
      where
        by : (t : Bool) → leb (size_of k) width ≡ t → (all_fit width ks ≡ false → (before : List Code) × (c : Code) × (after : List Code) × (ks ≡ before ++ (c ∷ after)) × (width < size_of c))
            → (before : List Code) × (c : Code) × (after : List Code) × (k ∷ ks ≡ before ++ (c ∷ after)) × (width < size_of c)
        by true q later =
            let (before, c, after, among, long) = later (sym (fit_rest width 0 k ks 0 (leb-true _ _ q)) ∙ e) in
            (k ∷ before, c, after, ap (λ (l : List Code). k ∷ l) among, long)
        by false q later = ([], k, ks, refl, leb-false _ _ q)

    among_long : (before : List Code) (k : Code) (after : List Code) → width < size_of k → all_fit width (before ++ (k ∷ after)) ≡ false
    unfolding all_fit
    among_long [] k after h = not_fit width 0 k after 0 h
    among_long (c ∷ before) k after h = rw (among_long before k after h) (and_false (leb (size_of c) width))

    -- NONE EXISTS EXACTLY IF A CODE IS LONGER THAN THE WIDTH.
    pub longer_code : NoBreaks r text width ↔ LongCode r text width
    unfolding breakable
    longer_code = (
      λ none. let (before, k, after, among, long) = long_among (codes r text) (none_exists.1 none) in record { before = before; code = k; after = after; among = among; long = long },
      λ c. none_exists.0 (ap (all_fit width) c.among ∙ among_long c.before c.code c.after c.long),
    )

    -- at a width of 2 or more acceptable breaks always exist
    small_fit : (ks : List Code) → Small ks → 2 ≤ width → all_fit width ks ≡ true
    unfolding Small all_fit
    small_fit [] s h = refl
    small_fit (k ∷ ks) (size, s) h = fit_rest width 0 k ks 0 (by size) ∙ small_fit ks s h
      where
        by : (size_of k ≡ 1) ⊎ (size_of k ≡ 2) → size_of k ≤ width
        by (inl e) = omega arith
        by (inr e) = omega arith

    pub two_enough : 2 ≤ width → acceptable r text width (ours r text width) ≡ true
    unfolding breakable
    two_enough h = ours_acceptable (small_fit (codes r text) (codes_small r text) h)

-- ---- how many ours are at most
-- each of our lines but the last has at least width - 1 bytes
spaced : (width place : ℕ) (ks : List Code) (start : ℕ) → Small ks → start ≤ place → length (breaks_from width (placed_from place ks) start) * (width - 1) + start ≤ place + sizes_of ks
unfolding Small placed_from breaks_from
spaced width place [] start small h = omega arith
spaced width place (k ∷ ks) start (size, small) h =
    by (leb (place + size_of k) (start + width)) refl (λ (from : ℕ). spaced width (place + size_of k) ks from small)
  where
    small_size : (size_of k ≡ 1) ⊎ (size_of k ≡ 2) → size_of k ≤ 2
    small_size (inl e) = omega arith
    small_size (inr e) = omega arith

    by : (t : Bool) → leb (place + size_of k) (start + width) ≡ t
        → ((from : ℕ) → from ≤ place + size_of k → length (breaks_from width (placed_from (place + size_of k) ks) from) * (width - 1) + from ≤ place + size_of k + sizes_of ks)
        → length (breaks_from width (placed_from place (k ∷ ks)) start) * (width - 1) + start ≤ place + sizes_of (k ∷ ks)
    by true q later = rw (goes_on width place k ks start (leb-true _ _ q)) (omega (arith, later start (omega arith)))
    by false q later =
        let over = leb-false _ _ q in
        rw (begins width place k ks start over) (omega (arith, later place (omega arith), small_size size))

module _ (r : Reader) (text : List ℕ) (width : ℕ) (h : 2 ≤ width) where
  -- Ours are at most one for each width - 1 bytes of the text.
  pub few_breaks : length (ours r text width) ≤ length text / (width - 1)
  unfolding ours placed
  few_breaks =
      let many = spaced width 0 (codes r text) 0 (codes_small r text) (omega arith) in
      let cover = codes_cover r text in
      let count = length (breaks_from width (placed_from 0 (codes r text)) 0) in
      omega (arith, div_mono count 1 (length text) (width - 1) (omega arith) (omega arith) (omega arith))

-- a list that ours are sure to fit: they exist, and there is room for them
pub sure_fits : (r : Reader) (text : List ℕ) (width room : ℕ) → sure_to_fit (length text) width room ≡ true → (breakable r text width ≡ true) × (length (ours r text width) ≤ room)
unfolding sure_to_fit
sure_fits r text width room e =
    let wide = leb-true 2 width (and_left (leb 2 width) _ e) in
    let fits = leb-true (length text / (width - 1)) room (and_right (leb 2 width) _ e) in
    (exist_breakable r text width (ours r text width) (two_enough r text width wide), omega (arith, few_breaks r text width wide))
