-- Laws of lines that are written byte by byte.
use mathlib.Core.List.{List, [], ◌∷◌, ◌++◌}
use mathlib.Core.Path.{◌≡◌, refl, ap, ◌∙◌}
use Prim.Native.Nat.{ℕ, ◌≤◌, ◌<◌, ◌+◌}
use native.Mathlib.Nat.{zero-add}
use native.Mathlib.Omega.{arith}
use lib.ListN.{length, drop, length-append}
use lib.Seq.{sets, sets-eq}
use borrow.Author.Tests.{lt-ltb, le-ltb}
use Rattle.codepage.specs.Lent.{over}
use Rattle.listing.specs.declared.Record.{Record}
use Rattle.listing.specs.declared.Record.TheVariants.{Page, Single}
use Rattle.lister.specs.Lines.{decimal_text, page_text, single_text, line, record_line}

-- bytes stored one after the other from the front are a written front
pub over_sets : (l vs : List ℕ) → length vs ≤ length l → sets l 0 vs ≡ over l vs
unfolding over
over_sets l vs h = sets-eq vs l 0 (omega arith) ∙ ap (λ (n : ℕ). vs ++ drop n l) (zero-add (length vs))

-- the digits of a page by its size
module _ (page : ℕ) where
  -- one digit
  pub page_1 : page < 10 → page_text page ≡ decimal_text 1 page
  unfolding page_text
  page_1 h = rw (lt-ltb page 10 h)

  -- two digits
  pub page_2 : 10 ≤ page → page < 100 → page_text page ≡ decimal_text 2 page
  unfolding page_text
  page_2 h k = rw (le-ltb page 10 h, lt-ltb page 100 k)

  -- three digits
  pub page_3 : 100 ≤ page → page < 1000 → page_text page ≡ decimal_text 3 page
  unfolding page_text
  page_3 h k = rw (le-ltb page 10 (omega arith), le-ltb page 100 h, lt-ltb page 1000 k)

  -- four digits
  pub page_4 : 1000 ≤ page → page < 10000 → page_text page ≡ decimal_text 4 page
  unfolding page_text
  page_4 h k = rw (le-ltb page 10 (omega arith), le-ltb page 100 (omega arith), le-ltb page 1000 h, lt-ltb page 10000 k)

  -- five digits
  pub page_5 : 10000 ≤ page → page_text page ≡ decimal_text 5 page
  unfolding page_text
  page_5 h = rw (le-ltb page 10 (omega arith), le-ltb page 100 (omega arith), le-ltb page 1000 (omega arith), le-ltb page 10000 h)

-- a page's line by its number of digits
pub page_line : (page : ℕ) (text : List ℕ) → page_text page ≡ text → length (line 0x50 (page_text page)) ≡ length (line 0x50 text)
page_line page text e = ap (λ (t : List ℕ). length (line 0x50 t)) e

-- equal records have lines of one length
pub same_line : {r q : Record} → r ≡ q → length (record_line r) ≡ length (record_line q)
same_line e = ap (λ (x : Record). length (record_line x)) e

-- the length of a page's line
pub line_page : {r : Record} {page n : ℕ} → r ≡ Page page → n ≡ length (page_text page) → n + 3 ≡ length (record_line r)
line_page {r} {page} {n} e h = omega (arith, same_line e, h, length-append (page_text page) (10 ∷ []))

-- the length of a single's line
pub line_single : {r : Record} {byte unit n : ℕ} → r ≡ Single byte unit → n ≡ 6 + length (single_text unit) → n ≡ length (record_line r)
line_single {r} {byte} {unit} {n} e h = omega (arith, same_line e, h, length-append (single_text unit) (10 ∷ []))

-- nothing written changes nothing
pub over_none : (l : List ℕ) → l ≡ over l []
unfolding over
over_none l = refl
