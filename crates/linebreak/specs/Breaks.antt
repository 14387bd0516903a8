-- Document 02, CR 12: where a byte text is broken into lines of at most a width. Which breaks are acceptable, and our own.
use Rattle.std.specs.Prelude.{Bool, true, false, ◌&&◌, ◌||◌, List, [], ◌∷◌, ℕ, ◌+◌, ◌-◌, leb, ltb, eqb, length}
use Rattle.codepage.specs.CodePage.{pick}
use Rattle.codepage.specs.Reading.{Reader, Code, size_of, codes}
use Rattle.codepage_walk.specs.Walk.{Placed, placed}

-- whether all numbers of a list pass a test
unfoldable pub all_pass : (ℕ → Bool) → List ℕ → Bool
all_pass holds [] = true
all_pass holds (n ∷ ns) = holds n && all_pass holds ns

-- "the breaks rise strictly"
abbrev pub below_next : ℕ → List ℕ → Bool
below_next b [] = true
below_next b (next ∷ breaks) = ltb b next

-- whether each break is below the next one
unfoldable pub rising : (breaks : List ℕ) → Bool
rising [] = true
rising (b ∷ breaks) = below_next b breaks && rising breaks

-- "each line has 1 to width bytes": the lines go from the text's beginning or a break to the next break or the text's end
unfoldable pub line_sizes : (start : ℕ) → (breaks : List ℕ) → (end : ℕ) → List ℕ
line_sizes start [] end = (end - start) ∷ []
line_sizes start (b ∷ breaks) end = (b - start) ∷ line_sizes b breaks end

-- whether the size of a line is at least 1 and at most the width
abbrev pub one_to : (width : ℕ) → (size : ℕ) → Bool
one_to width size = leb 1 size && leb size width

-- "no code is cut": a code begins at the break
unfoldable pub is_place : List Placed → (b : ℕ) → Bool
is_place [] b = false
is_place (p ∷ ps) b = eqb p.place b || is_place ps b

-- "Breaks are inner places; the text's end is not listed."
abbrev pub is_inner : (end : ℕ) → (b : ℕ) → Bool
is_inner end b = ltb 0 b && ltb b end

abbrev pub is_empty : List ℕ → Bool
is_empty [] = true
is_empty (x ∷ xs) = false

-- ACCEPTABLE BREAKS. "An empty text takes the empty proposal."
unfoldable pub acceptable : Reader → (text : List ℕ) → (width : ℕ) → (breaks : List ℕ) → Bool
acceptable r text width breaks =
    pick (is_empty text) (is_empty breaks)
    (rising breaks
    && (all_pass (one_to width) (line_sizes 0 breaks (length text))
    && (all_pass (is_place (placed r text)) breaks
    && all_pass (is_inner (length text)) breaks)))

-- OUR BREAKS, "each line from the first on as long as it can be": a code that ends more than the width behind the line's start
-- begins the next line.
unfoldable pub breaks_from : (width : ℕ) → List Placed → (start : ℕ) → List ℕ
breaks_from width [] start = []
breaks_from width (p ∷ ps) start =
    elim (leb (p.place + size_of p.code) (start + width)) [ true ↦ breaks_from width ps start | false ↦ p.place ∷ breaks_from width ps p.place ]

-- our breaks of the whole text: its first line begins at 0. Where a code is longer than the width they are not given: 31 comes first.
unfoldable pub ours : Reader → (text : List ℕ) → (width : ℕ) → List ℕ
ours r text width = breaks_from width (placed r text) 0

-- No code is longer than the width. This is exactly when acceptable breaks exist: `none_exists` (proofs/Theorems.antt).
unfoldable pub all_fit : (width : ℕ) → List Code → Bool
all_fit width [] = true
all_fit width (k ∷ ks) = leb (size_of k) width && all_fit width ks

-- whether no code of the text is longer than the width
unfoldable pub breakable : Reader → (text : List ℕ) → (width : ℕ) → Bool
breakable r text width = all_fit width (codes r text)
