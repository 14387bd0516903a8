-- A line that is read as a record is the line of that record.
use mathlib.Core.Bool.{Bool, true, false, not, ◌&&◌, ◌||◌, false≢true, true≢false}
use mathlib.Core.List.{List, [], ◌∷◌, ◌++◌}
use mathlib.Core.Path.{◌≡◌, refl, sym, ap, ap₂, ◌∙◌}
use Prim.Native.Nat.{ℕ, zero, suc, ◌+◌, ◌-◌, ◌*◌, ◌/◌, ◌%◌, ◌≤◌, ◌<◌}
use native.Mathlib.Omega.{arith}
use lib.Dec.{leb, eqb}
use lib.ListN.{length}
use borrow.Author.Tests.{lt-ltb, le-ltb, leb-true, le-leb, lt-leb, eqb-true}
use Rattle.codepage.specs.CodePage.{pick, entry_at}
use Rattle.codepage.proofs.ShapeLaws.{and_left, and_right}
use Rattle.listing.specs.declared.Record.{Record}
use Rattle.listing.specs.declared.Record.TheVariants.{Page, Defaults, Single, Lead, Trail, Pair, Code, NoRecord}
use Rattle.listing.specs.Form.{is_digit, is_capital, digit, hex_byte_at, hex_unit_at, decimal_at, fits_symbol, has_form, digits_form, page_form, code_form, pair_form, single_form, bare_form, trail_form, lead_form, defaults_form, unless_none, small_page, page_of, record_of}
use Rattle.lister.specs.Lines.{hex_byte, byte_text, unit_text, decimal_text, page_text, single_text, line, line₂, record_line}
use Rattle.lister.specs.Lister.{is_record}
use Rattle.lister.proofs.LineLaws.{page_1, page_2, page_3, page_4, page_5}
use Rattle.listing_laws.proofs.BoundLaws.{digit_small, first_digit}

-- ---- a byte that fits a symbol
or_either : (a b : Bool) → (a || b) ≡ true → a ≡ false → b ≡ true
or_either true b e f = absurd (true≢false f)
or_either false b e f = e

hex_back : (byte : ℕ) → (is_digit byte || is_capital byte) ≡ true → hex_byte (digit byte) ≡ byte
unfolding is_digit is_capital digit hex_byte
hex_back byte e = by_digit (is_digit byte) refl
  where
    by_digit : (t : Bool) → is_digit byte ≡ t → hex_byte (digit byte) ≡ byte
    by_digit true q =
        let low : 0x30 ≤ byte = leb-true 0x30 byte (and_left (leb 0x30 byte) (leb byte 0x39) q) in
        let high : byte ≤ 0x39 = leb-true byte 0x39 (and_right (leb 0x30 byte) (leb byte 0x39) q) in
        rw (le-leb 0x30 byte low, le-leb byte 0x39 high, lt-ltb (byte - 0x30) 10 (omega arith)) (omega arith)
    by_digit false q =
        let capital : (leb 0x41 byte && leb byte 0x46) ≡ true = or_either (is_digit byte) (is_capital byte) e q in
        let low : 0x41 ≤ byte = leb-true 0x41 byte (and_left (leb 0x41 byte) (leb byte 0x46) capital) in
        let high : byte ≤ 0x46 = leb-true byte 0x46 (and_right (leb 0x41 byte) (leb byte 0x46) capital) in
        rw (le-leb 0x30 byte (omega arith), lt-leb byte 0x39 (omega arith), le-leb 0x41 byte low, le-leb byte 0x46 high, le-ltb (byte - 0x41 + 10) 10 (omega arith)) (omega arith)

digit_back : (byte : ℕ) → is_digit byte ≡ true → (0x30 + digit byte ≡ byte) × (digit byte < 10)
unfolding is_digit digit
digit_back byte q =
    let low : 0x30 ≤ byte = leb-true 0x30 byte (and_left (leb 0x30 byte) (leb byte 0x39) q) in
    let high : byte ≤ 0x39 = leb-true byte 0x39 (and_right (leb 0x30 byte) (leb byte 0x39) q) in
    (rw (le-leb 0x30 byte low, le-leb byte 0x39 high) (omega arith), rw (le-leb 0x30 byte low, le-leb byte 0x39 high) (omega arith))

-- the byte of a symbol, by its digit
abbrev symbol_byte : (symbol byte : ℕ) → ℕ
symbol_byte symbol byte = pick (eqb symbol 0x23) (hex_byte (digit byte)) (pick (eqb symbol 0x30) (0x30 + digit byte) (pick (eqb symbol 0x31) (0x30 + digit byte) symbol))

symbol_back : (symbol byte : ℕ) → fits_symbol symbol byte ≡ true → byte ≡ symbol_byte symbol byte
unfolding fits_symbol
symbol_back symbol byte e = by_symbol (eqb symbol 0x23) refl (eqb symbol 0x30) refl (eqb symbol 0x31) refl
  where
    by_symbol : (a : Bool) → eqb symbol 0x23 ≡ a → (b : Bool) → eqb symbol 0x30 ≡ b → (c : Bool) → eqb symbol 0x31 ≡ c → byte ≡ symbol_byte symbol byte
    by_symbol true p b q c r = let known : (is_digit byte || is_capital byte) ≡ true = rw p at e in rw p (sym (hex_back byte known))
    by_symbol false p true q c r = let known : is_digit byte ≡ true = rw (p, q) at e in rw (p, q) (sym (digit_back byte known).0)
    by_symbol false p false q true r =
        let known : (is_digit byte && not (eqb byte 0x30)) ≡ true = rw (p, q, r) at e in
        rw (p, q, r) (sym (digit_back byte (and_left (is_digit byte) (not (eqb byte 0x30)) known)).0)
    by_symbol false p false q false r = let known : eqb byte symbol ≡ true = rw (p, q, r) at e in rw (p, q, r) (eqb-true byte symbol known)

-- the bytes of a form, by the bytes at its places
abbrev form_bytes : (form : List ℕ) → (at : ℕ → ℕ) → List ℕ
form_bytes [] at = []
form_bytes (symbol ∷ form) at = symbol_byte symbol (at 0) ∷ form_bytes form (λ i. at (suc i))

form_back : (form line : List ℕ) → has_form form line ≡ true → line ≡ form_bytes form (entry_at line)
unfolding has_form
form_back [] [] e = refl
form_back [] (byte ∷ line) e = absurd (false≢true e)
form_back (symbol ∷ form) [] e = absurd (false≢true e)
form_back (symbol ∷ form) (byte ∷ line) e =
    ap₂ (λ (b : ℕ) (l : List ℕ). b ∷ l) (symbol_back symbol byte (and_left (fits_symbol symbol byte) (has_form form line) e)) (form_back form line (and_right (fits_symbol symbol byte) (has_form form line) e))

fits_at : (form line : List ℕ) (i : ℕ) → has_form form line ≡ true → i < length form → fits_symbol (entry_at form i) (entry_at line i) ≡ true
unfolding has_form
fits_at [] line i e h = absurd (omega arith)
fits_at (symbol ∷ form) [] i e h = absurd (false≢true e)
fits_at (symbol ∷ form) (byte ∷ line) zero e h = and_left (fits_symbol symbol byte) (has_form form line) e
fits_at (symbol ∷ form) (byte ∷ line) (suc i) e h = fits_at form line i (and_right (fits_symbol symbol byte) (has_form form line) e) (omega arith)

-- ---- bytes and units
byte_back : (line : List ℕ) (place : ℕ) → byte_text (hex_byte_at line place) ≡ hex_byte (digit (entry_at line place)) ∷ hex_byte (digit (entry_at line (place + 1))) ∷ []
unfolding hex_byte_at
byte_back line place =
    let a : ℕ = digit (entry_at line place) in
    let high : (16 * digit (entry_at line place) + digit (entry_at line (place + 1))) / 16 ≡ digit (entry_at line place) = omega (arith, digit_small (entry_at line place), digit_small (entry_at line (place + 1))) in
    let low : (16 * digit (entry_at line place) + digit (entry_at line (place + 1))) % 16 ≡ digit (entry_at line (place + 1)) = omega (arith, digit_small (entry_at line place), digit_small (entry_at line (place + 1))) in
    rw (high, low)

byte_under : (line : List ℕ) (place : ℕ) → hex_byte_at line place < 256
unfolding hex_byte_at
byte_under line place = omega (arith, digit_small (entry_at line place), digit_small (entry_at line (place + 1)))

unit_back : (line : List ℕ) (place : ℕ) → unit_text (hex_unit_at line place) ≡ (hex_byte (digit (entry_at line place)) ∷ hex_byte (digit (entry_at line (place + 1))) ∷ []) ++ (hex_byte (digit (entry_at line (place + 2))) ∷ hex_byte (digit (entry_at line (place + 2 + 1))) ∷ [])
unfolding hex_unit_at
unit_back line place =
    let high : (256 * hex_byte_at line place + hex_byte_at line (place + 2)) / 256 ≡ hex_byte_at line place = omega (arith, byte_under line place, byte_under line (place + 2)) in
    let low : (256 * hex_byte_at line place + hex_byte_at line (place + 2)) % 256 ≡ hex_byte_at line (place + 2) = omega (arith, byte_under line place, byte_under line (place + 2)) in
    ap₂ (λ (x y : ℕ). byte_text x ++ byte_text y) high low
    ∙ ap₂ (λ (x y : List ℕ). x ++ y) (byte_back line place) (byte_back line (place + 2))

-- ---- each form
module _ (text : List ℕ) where
  lead_back : (letter : ℕ) → eqb letter 0x23 ≡ false → eqb letter 0x30 ≡ false → eqb letter 0x31 ≡ false → has_form (letter ∷ 9 ∷ 0x23 ∷ 0x23 ∷ 10 ∷ []) text ≡ true → line letter (byte_text (hex_byte_at text 2)) ≡ text
  lead_back letter x y z e = ap (line letter) (byte_back text 2) ∙ sym (form_back (letter ∷ 9 ∷ 0x23 ∷ 0x23 ∷ 10 ∷ []) text e ∙ rw (x, y, z))

  byte_unit_back : (letter : ℕ) → eqb letter 0x23 ≡ false → eqb letter 0x30 ≡ false → eqb letter 0x31 ≡ false → has_form (letter ∷ 9 ∷ 0x23 ∷ 0x23 ∷ 9 ∷ 0x23 ∷ 0x23 ∷ 0x23 ∷ 0x23 ∷ 10 ∷ []) text ≡ true
      → line₂ letter (byte_text (hex_byte_at text 2)) (unit_text (hex_unit_at text 5)) ≡ text
  byte_unit_back letter x y z e =
      ap₂ (line₂ letter) (byte_back text 2) (unit_back text 5)
      ∙ sym (form_back (letter ∷ 9 ∷ 0x23 ∷ 0x23 ∷ 9 ∷ 0x23 ∷ 0x23 ∷ 0x23 ∷ 0x23 ∷ 10 ∷ []) text e ∙ rw (x, y, z))

  units_back : (letter : ℕ) → eqb letter 0x23 ≡ false → eqb letter 0x30 ≡ false → eqb letter 0x31 ≡ false → has_form (letter ∷ 9 ∷ 0x23 ∷ 0x23 ∷ 0x23 ∷ 0x23 ∷ 9 ∷ 0x23 ∷ 0x23 ∷ 0x23 ∷ 0x23 ∷ 10 ∷ []) text ≡ true
      → line₂ letter (unit_text (hex_unit_at text 2)) (unit_text (hex_unit_at text 7)) ≡ text
  units_back letter x y z e =
      ap₂ (line₂ letter) (unit_back text 2) (unit_back text 7)
      ∙ sym (form_back (letter ∷ 9 ∷ 0x23 ∷ 0x23 ∷ 0x23 ∷ 0x23 ∷ 9 ∷ 0x23 ∷ 0x23 ∷ 0x23 ∷ 0x23 ∷ 10 ∷ []) text e ∙ rw (x, y, z))

  bare_back : has_form bare_form text ≡ true → line₂ 0x53 (byte_text (hex_byte_at text 2)) (single_text 0xFFFF) ≡ text
  unfolding single_text
  bare_back e = ap (λ (x : List ℕ). line₂ 0x53 x (0x2D ∷ [])) (byte_back text 2) ∙ sym (form_back bare_form text e)

-- ---- the page
-- the decimal digits of a number at a place
abbrev digits_at : (count : ℕ) → (line : List ℕ) → (place : ℕ) → List ℕ
digits_at zero line place = []
digits_at (suc count) line place = digits_at count line place ++ ((0x30 + digit (entry_at line (place + count))) ∷ [])

decimal_back : (count : ℕ) (line : List ℕ) (place : ℕ) → ((i : ℕ) → i < count → digit (entry_at line (place + i)) < 10) → decimal_text count (decimal_at count line place) ≡ digits_at count line place
unfolding decimal_at
decimal_back zero line place small = refl
decimal_back (suc count) line place small =
    let d : digit (entry_at line (place + count)) < 10 = small count (omega arith) in
    let high : (10 * decimal_at count line place + digit (entry_at line (place + count))) / 10 ≡ decimal_at count line place = omega arith in
    let low : (10 * decimal_at count line place + digit (entry_at line (place + count))) % 10 ≡ digit (entry_at line (place + count)) = omega arith in
    ap₂ (λ (x y : ℕ). decimal_text count x ++ ((0x30 + y) ∷ [])) high low
    ∙ ap (λ (x : List ℕ). x ++ ((0x30 + digit (entry_at line (place + count))) ∷ [])) (decimal_back count line place (λ i h. small i (omega arith)))

module _ (text : List ℕ) where
  -- the digits of a page's line
  first_of : (more : ℕ) → has_form (page_form more) text ≡ true → (1 ≤ digit (entry_at text 2)) × (digit (entry_at text 2) < 10)
  unfolding fits_symbol
  first_of more e =
      let known : fits_symbol 0x31 (entry_at text 2) ≡ true = fits_at (page_form more) text 2 e (omega arith) in
      (first_digit (entry_at text 2) known, (digit_back (entry_at text 2) (and_left (is_digit (entry_at text 2)) (not (eqb (entry_at text 2) 0x30)) known)).1)

  more_digits : (more i : ℕ) → i < more → entry_at (digits_form more) i ≡ 0x30
  more_digits zero i h = absurd (omega arith)
  more_digits (suc more) zero h = refl
  more_digits (suc more) (suc i) h = more_digits more i (omega arith)

  more_length : (more : ℕ) → length (digits_form more) ≡ more + 1
  more_length zero = refl
  more_length (suc more) = let e : length (digits_form more) ≡ more + 1 = more_length more in omega arith

  as_digit : (j k : ℕ) → j ≡ k → fits_symbol 0x30 (entry_at text j) ≡ true → digit (entry_at text k) < 10
  unfolding fits_symbol
  as_digit j k same f = omega (arith, (digit_back (entry_at text j) f).1, ap (λ (n : ℕ). digit (entry_at text n)) same)

  digits_of : (more : ℕ) → has_form (page_form more) text ≡ true → (i : ℕ) → i < suc more → digit (entry_at text (2 + i)) < 10
  digits_of more e zero h = (first_of more e).1
  digits_of more e (suc i) h =
      let here : fits_symbol (entry_at (digits_form more) i) (entry_at text (suc (suc (suc i)))) ≡ true = fits_at (page_form more) text (suc (suc (suc i))) e (omega (arith, more_length more)) in
      let place : suc (suc (suc i)) ≡ 2 + suc i = omega arith in
      as_digit (suc (suc (suc i))) (2 + suc i) place (ap (λ (s : ℕ). fits_symbol s (entry_at text (suc (suc (suc i))))) (sym (more_digits more i (omega arith))) ∙ here)

  page_text_lem : (more : ℕ) → has_form (page_form more) text ≡ true → page_text (decimal_at (suc more) text 2) ≡ decimal_text (suc more) (decimal_at (suc more) text 2) → page_text (decimal_at (suc more) text 2) ≡ digits_at (suc more) text 2
  page_text_lem more e size = size ∙ decimal_back (suc more) text 2 (digits_of more e)

  page_back_1 : has_form (page_form 0) text ≡ true → line 0x50 (page_text (decimal_at 1 text 2)) ≡ text
  unfolding decimal_at
  page_back_1 e =
      ap (line 0x50) (page_text_lem 0 e (page_1 (decimal_at 1 text 2) (omega (arith, (first_of 0 e).0, (first_of 0 e).1))))
      ∙ sym (form_back (page_form 0) text e)

  page_back_2 : has_form (page_form 1) text ≡ true → line 0x50 (page_text (decimal_at 2 text 2)) ≡ text
  unfolding decimal_at
  page_back_2 e =
      ap (line 0x50) (page_text_lem 1 e (page_2 (decimal_at 2 text 2) (omega (arith, (first_of 1 e).0)) (omega (arith, (first_of 1 e).1, digits_of 1 e 1 (omega arith)))))
      ∙ sym (form_back (page_form 1) text e)

  page_back_3 : has_form (page_form 2) text ≡ true → line 0x50 (page_text (decimal_at 3 text 2)) ≡ text
  unfolding decimal_at
  page_back_3 e =
      ap (line 0x50) (page_text_lem 2 e (page_3 (decimal_at 3 text 2) (omega (arith, (first_of 2 e).0)) (omega (arith, (first_of 2 e).1, digits_of 2 e 1 (omega arith), digits_of 2 e 2 (omega arith)))))
      ∙ sym (form_back (page_form 2) text e)

  page_back_4 : has_form (page_form 3) text ≡ true → line 0x50 (page_text (decimal_at 4 text 2)) ≡ text
  unfolding decimal_at
  page_back_4 e =
      ap (line 0x50) (page_text_lem 3 e (page_4 (decimal_at 4 text 2) (omega (arith, (first_of 3 e).0)) (omega (arith, (first_of 3 e).1, digits_of 3 e 1 (omega arith), digits_of 3 e 2 (omega arith), digits_of 3 e 3 (omega arith)))))
      ∙ sym (form_back (page_form 3) text e)

  page_back_5 : has_form (page_form 4) text ≡ true → line 0x50 (page_text (decimal_at 5 text 2)) ≡ text
  unfolding decimal_at
  page_back_5 e =
      ap (line 0x50) (page_text_lem 4 e (page_5 (decimal_at 5 text 2) (omega (arith, (first_of 4 e).0))))
      ∙ sym (form_back (page_form 4) text e)

-- ---- every line
module _ (text : List ℕ) where
  -- the record of the text has it for its line, if it is one
  abbrev Back : Record → Type 0
  Back r = is_record r ≡ true → record_line r ≡ text

  either : (t : Bool) (a b : Record) → (t ≡ true → Back a) → Back b → Back (pick t a b)
  either true a b x y = x refl
  either false a b x y = y

  none_back : Back NoRecord
  none_back e = absurd (false≢true e)

  unless_back : (right : ℕ) (r : Record) → (eqb right 0xFFFF ≡ false → record_line r ≡ text) → Back (unless_none right r)
  unless_back right r e = by_right (eqb right 0xFFFF) refl
    where
      by_right : (t : Bool) → eqb right 0xFFFF ≡ t → Back (unless_none right r)
      by_right true q = rw q none_back
      by_right false q = rw q (λ x. e q)

  single_back : (unit : ℕ) → line₂ 0x53 (byte_text (hex_byte_at text 2)) (unit_text unit) ≡ text → eqb unit 0xFFFF ≡ false → record_line (Single (hex_byte_at text 2) unit) ≡ text
  unfolding single_text
  single_back unit e q = rw q e

  small_back : (page : ℕ) → line 0x50 (page_text page) ≡ text → Back (small_page page)
  small_back page e = either (leb page 65535) (Page page) NoRecord (λ t x. e) none_back

  -- a line that is a record is the line of that record
  pub line_back : is_record (record_of text) ≡ true → record_line (record_of text) ≡ text
  unfolding record_of page_of
  line_back =
      either (has_form code_form text) _ _ (λ e. unless_back (hex_unit_at text 7) (Code (hex_unit_at text 2) (hex_unit_at text 7)) (λ q. units_back text 0x57 refl refl refl e))
      (either (has_form pair_form text) _ _ (λ e. unless_back (hex_unit_at text 7) (Pair (hex_unit_at text 2) (hex_unit_at text 7)) (λ q. units_back text 0x4D refl refl refl e))
      (either (has_form single_form text) _ _ (λ e. unless_back (hex_unit_at text 5) (Single (hex_byte_at text 2) (hex_unit_at text 5)) (single_back (hex_unit_at text 5) (byte_unit_back text 0x53 refl refl refl e)))
      (either (has_form bare_form text) _ _ (λ e x. bare_back text e)
      (either (has_form trail_form text) _ _ (λ e x. lead_back text 0x54 refl refl refl e)
      (either (has_form lead_form text) _ _ (λ e x. lead_back text 0x4C refl refl refl e)
      (either (has_form defaults_form text) _ _ (λ e x. byte_unit_back text 0x44 refl refl refl e)
      (either (has_form (page_form 0) text) _ _ (λ e. small_back (decimal_at 1 text 2) (page_back_1 text e))
      (either (has_form (page_form 1) text) _ _ (λ e. small_back (decimal_at 2 text 2) (page_back_2 text e))
      (either (has_form (page_form 2) text) _ _ (λ e. small_back (decimal_at 3 text 2) (page_back_3 text e))
      (either (has_form (page_form 3) text) _ _ (λ e. small_back (decimal_at 4 text 2) (page_back_4 text e))
      (either (has_form (page_form 4) text) _ _ (λ e. small_back (decimal_at 5 text 2) (page_back_5 text e))
      none_back)))))))))))

-- ---- what a record has on its right
-- no `M` and no `W` has FFFF on the right, and their codes and units have four digits
abbrev pub RightSome : Record → Type 0
RightSome (Page page) = Unit {0}
RightSome (Defaults byte unit) = Unit {0}
RightSome (Single byte unit) = Unit {0}
RightSome (Lead byte) = Unit {0}
RightSome (Trail byte) = Unit {0}
RightSome (Pair code unit) = (code < 65536) × (eqb unit 0xFFFF ≡ false)
RightSome (Code unit code) = eqb code 0xFFFF ≡ false
RightSome NoRecord = Unit {0}

right_either : (t : Bool) (a b : Record) → RightSome a → RightSome b → RightSome (pick t a b)
right_either true a b x y = x
right_either false a b x y = y

right_unless : (right : ℕ) (r : Record) → (eqb right 0xFFFF ≡ false → RightSome r) → RightSome (unless_none right r)
right_unless right r e = by_right (eqb right 0xFFFF) refl
  where
    by_right : (t : Bool) → eqb right 0xFFFF ≡ t → RightSome (unless_none right r)
    by_right true q = rw q tt
    by_right false q = rw q (e q)

unit_under : (line : List ℕ) (place : ℕ) → hex_unit_at line place < 65536
unfolding hex_unit_at
unit_under line place = omega (arith, byte_under line place, byte_under line (place + 2))

right_page : (page : ℕ) → RightSome (small_page page)
right_page page = right_either (leb page 65535) (Page page) NoRecord tt tt

-- what stands on the right of the record of a line
pub right_some : (text : List ℕ) → RightSome (record_of text)
unfolding record_of page_of
right_some text =
    right_either (has_form code_form text) _ _ (right_unless (hex_unit_at text 7) (Code (hex_unit_at text 2) (hex_unit_at text 7)) (λ q. q))
    (right_either (has_form pair_form text) _ _ (right_unless (hex_unit_at text 7) (Pair (hex_unit_at text 2) (hex_unit_at text 7)) (λ q. (unit_under text 2, q)))
    (right_either (has_form single_form text) _ _ (right_unless (hex_unit_at text 5) (Single (hex_byte_at text 2) (hex_unit_at text 5)) (λ q. tt))
    (right_either (has_form bare_form text) _ _ tt
    (right_either (has_form trail_form text) _ _ tt
    (right_either (has_form lead_form text) _ _ tt
    (right_either (has_form defaults_form text) _ _ tt
    (right_either (has_form (page_form 0) text) _ _ (right_page (decimal_at 1 text 2))
    (right_either (has_form (page_form 1) text) _ _ (right_page (decimal_at 2 text 2))
    (right_either (has_form (page_form 2) text) _ _ (right_page (decimal_at 3 text 2))
    (right_either (has_form (page_form 3) text) _ _ (right_page (decimal_at 4 text 2))
    (right_either (has_form (page_form 4) text) _ _ (right_page (decimal_at 5 text 2))
    tt)))))))))))
