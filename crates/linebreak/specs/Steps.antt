-- Definitions that the private functions' contracts cite, and that no promise does.
use Rattle.std.specs.Prelude.{Option, Some, None, Bool, true, false, ◌&&◌, List, [], ◌∷◌, ◌≡◌, ℕ, ◌+◌, ◌-◌, ◌/◌, ◌≤◌, ◌<◌, leb, ltb, eqb, length, drop}
use Rattle.codepage.specs.CodePage.{pick, entry_at, is_lead}
use Rattle.codepage.specs.Marks.{NoLowLead}
use Rattle.codepage.specs.Reading.{Reader, Code, size_of, codes}
use Rattle.linebreak.specs.Breaks.{ours, breakable}

-- what the walk asks of the classes: one for each byte, and no lead below 80
pub record GoodClasses (classes : List ℕ) : Type 0 where
  pub size : length classes ≡ 256
  pub no_low_lead : NoLowLead classes

-- The last place, not behind `to`, where a code begins or the text ends: codes follow one another from a place.
unfoldable pub last_code_place : (to place : ℕ) → List Code → ℕ
last_code_place to place [] = place
last_code_place to place (k ∷ ks) = elim (leb (place + size_of k) to) [ true ↦ last_code_place to (place + size_of k) ks | false ↦ place ]

-- The lead bytes side by side before a place, back to another: they begin there, and before them is no lead byte or that place.
pub record LeadsBefore (classes text : List ℕ) (from to place : ℕ) : Type 0 where
  pub from_on : from ≤ place
  pub up_to : place ≤ to
  pub leads : (k : ℕ) → place ≤ k → k < to → is_lead (entry_at classes (entry_at text k)) ≡ true
  pub begin : from < place → is_lead (entry_at classes (entry_at text (place - 1))) ≡ false

-- A line that is not the last, from a place that cuts no code to a break: it rises, the break is inner, it is within the width, and
-- no code is cut.
unfoldable pub line_good : Reader → (text : List ℕ) → (width start b : ℕ) → Bool
line_good r text width start b = ltb start b && (ltb b (length text) && (leb (b - start) width && eqb (last_code_place b start (codes r (drop start text))) b))

-- the lines from there on
unfoldable pub lines_good : Reader → (text : List ℕ) → (width start : ℕ) → (breaks : List ℕ) → Bool
lines_good r text width start [] = leb (length text - start) width
lines_good r text width start (b ∷ breaks) = line_good r text width start b && lines_good r text width b breaks

-- Our breaks are sure to fit a list: at a width of 2 or more acceptable breaks exist, and each line but the last has at least
-- width - 1 bytes.
unfoldable pub sure_to_fit : (size width room : ℕ) → Bool
sure_to_fit size width room = leb 2 width && leb (size / (width - 1)) room

-- How many our breaks are, if acceptable breaks exist.
unfoldable pub our_count : Reader → (text : List ℕ) → (width : ℕ) → Option ℕ
our_count r text width = pick (breakable r text width) (Some (length (ours r text width))) None
