-- Each line is read back as its record.
use mathlib.Core.Bool.{Bool, true, false, ◌&&◌}
use mathlib.Core.List.{List, [], ◌∷◌}
use mathlib.Core.Path.{◌≡◌, refl, ap, ◌∙◌}
use Prim.Native.Nat.{ℕ, ◌+◌, ◌-◌, ◌*◌, ◌/◌, ◌%◌, ◌≤◌, ◌<◌}
use native.Mathlib.Omega.{arith}
use lib.Dec.{leb, ltb, eqb}
use borrow.Author.Tests.{ltb-true, ltb-false, le-leb, lt-leb, ne_eqb, eq-eqb, eqb-true}
use Rattle.listing.specs.declared.Record.TheVariants.{Page, Defaults, Single, Lead, Trail, Pair, Code}
use Rattle.listing.specs.Form.{is_digit, is_capital, digit, hex_byte_at, hex_unit_at, decimal_at, fits_symbol, has_form, page_form, code_form, pair_form, single_form, bare_form, trail_form, lead_form, defaults_form, small_page, page_of, record_of}
use Rattle.listing.proofs.FormLaws.{form_other}
use Rattle.lister.proofs.LineLaws.{page_1, page_2, page_3, page_4, page_5}
use Rattle.lister.specs.Lines.{hex_byte, byte_text, unit_text, decimal_text, page_text, single_text, line, line₂, record_line}

-- ---- digits
hex_known : (v : ℕ) → v < 16 → (fits_symbol 0x23 (hex_byte v) ≡ true) × (digit (hex_byte v) ≡ v)
unfolding hex_byte fits_symbol digit is_digit is_capital
hex_known v h = by_size (ltb v 10) refl
  where
    by_size : (t : Bool) → ltb v 10 ≡ t → (fits_symbol 0x23 (hex_byte v) ≡ true) × (digit (hex_byte v) ≡ v)
    by_size true q =
        let low : leb 0x30 (0x30 + v) ≡ true = le-leb 0x30 (0x30 + v) (omega arith) in
        let high : leb (0x30 + v) 0x39 ≡ true = le-leb (0x30 + v) 0x39 (omega (arith, ltb-true v 10 q)) in
        (rw (q, low, high), rw (q, low, high) (omega arith))
    by_size false q =
        let large : 10 ≤ v = ltb-false v 10 q in
        let digit_low : leb 0x30 (0x41 + (v - 10)) ≡ true = le-leb 0x30 (0x41 + (v - 10)) (omega arith) in
        let digit_high : leb (0x41 + (v - 10)) 0x39 ≡ false = lt-leb (0x41 + (v - 10)) 0x39 (omega arith) in
        let low : leb 0x41 (0x41 + (v - 10)) ≡ true = le-leb 0x41 (0x41 + (v - 10)) (omega arith) in
        let high : leb (0x41 + (v - 10)) 0x46 ≡ true = le-leb (0x41 + (v - 10)) 0x46 (omega arith) in
        (rw (q, digit_low, digit_high, low, high), rw (q, digit_low, digit_high, low, high) (omega arith))

hex_fits : (v : ℕ) → v < 16 → fits_symbol 0x23 (hex_byte v) ≡ true
hex_fits v h = (hex_known v h).0

hex_digit : (v : ℕ) → v < 16 → digit (hex_byte v) ≡ v
hex_digit v h = (hex_known v h).1

-- ---- forms
both : {a b : Bool} → a ≡ true → b ≡ true → (a && b) ≡ true
both {a} {b} x y = rw (x, y)

starts : (a b : ℕ) (form rest : List ℕ) → fits_symbol a b ≡ false → has_form (a ∷ form) (b ∷ rest) ≡ false
unfolding has_form
starts a b form rest e = rw e

itself : (b : ℕ) → eqb b 0x23 ≡ false → eqb b 0x30 ≡ false → eqb b 0x31 ≡ false → fits_symbol b b ≡ true
unfolding fits_symbol
itself b x y z = rw (x, y, z) (eq-eqb b b refl)

fits_tab : fits_symbol 9 9 ≡ true
fits_tab = itself 9 refl refl refl

fits_feed : fits_symbol 10 10 ≡ true
fits_feed = itself 10 refl refl refl

-- the digits of a byte and of a unit, and what stands behind them
byte_form : (form rest : List ℕ) (byte : ℕ) → byte < 256 → has_form form rest ≡ true → has_form (0x23 ∷ 0x23 ∷ form) (hex_byte (byte / 16) ∷ hex_byte (byte % 16) ∷ rest) ≡ true
unfolding has_form
byte_form form rest byte h e = both (hex_fits (byte / 16) (omega arith)) (both (hex_fits (byte % 16) (omega arith)) e)

unit_form : (form rest : List ℕ) (unit : ℕ) → unit < 65536 → has_form form rest ≡ true
    → has_form (0x23 ∷ 0x23 ∷ 0x23 ∷ 0x23 ∷ form) (hex_byte (unit / 256 / 16) ∷ hex_byte (unit / 256 % 16) ∷ hex_byte (unit % 256 / 16) ∷ hex_byte (unit % 256 % 16) ∷ rest) ≡ true
unit_form form rest unit h e = byte_form (0x23 ∷ 0x23 ∷ form) (hex_byte (unit % 256 / 16) ∷ hex_byte (unit % 256 % 16) ∷ rest) (unit / 256) (omega arith) (byte_form form rest (unit % 256) (omega arith) e)

with_letter : (letter : ℕ) (form rest : List ℕ) → fits_symbol letter letter ≡ true → has_form form rest ≡ true → has_form (letter ∷ 9 ∷ form) (letter ∷ 9 ∷ rest) ≡ true
unfolding has_form
with_letter letter form rest a e = both a (both fits_tab e)

with_tab : (form rest : List ℕ) → has_form form rest ≡ true → has_form (9 ∷ form) (9 ∷ rest) ≡ true
unfolding has_form
with_tab form rest e = both fits_tab e

closed : has_form (10 ∷ []) (10 ∷ []) ≡ true
unfolding has_form
closed = both fits_feed refl

dash_form : has_form (0x2D ∷ 10 ∷ []) (0x2D ∷ 10 ∷ []) ≡ true
unfolding has_form
dash_form = both (itself 0x2D refl refl refl) (both fits_feed refl)

-- ---- values
byte_value : (byte : ℕ) → byte < 256 → 16 * digit (hex_byte (byte / 16)) + digit (hex_byte (byte % 16)) ≡ byte
byte_value byte h = omega (arith, hex_digit (byte / 16) (omega arith), hex_digit (byte % 16) (omega arith))

unit_value : (unit : ℕ) → unit < 65536
    → 256 * (16 * digit (hex_byte (unit / 256 / 16)) + digit (hex_byte (unit / 256 % 16))) + (16 * digit (hex_byte (unit % 256 / 16)) + digit (hex_byte (unit % 256 % 16))) ≡ unit
unit_value unit h = omega (arith, byte_value (unit / 256) (omega arith), byte_value (unit % 256) (omega arith))

-- ---- a form that begins with another letter
other : (a b : ℕ) (form rest : List ℕ) → eqb a 0x23 ≡ false → eqb a 0x30 ≡ false → eqb a 0x31 ≡ false → eqb b a ≡ false → has_form (a ∷ form) (b ∷ rest) ≡ false
unfolding fits_symbol
other a b form rest x y z e = starts a b form rest (rw (x, y, z) e)

-- ---- each record
pub read_code : (unit code : ℕ) → unit < 65536 → code < 65536 → (code ≡ 0xFFFF → ⊥) → record_of (record_line (Code unit code)) ≡ Code unit code
unfolding record_of hex_unit_at hex_byte_at
read_code unit code h k ne =
    let form : has_form code_form (record_line (Code unit code)) ≡ true = with_letter 0x57 _ _ (itself 0x57 refl refl refl) (unit_form _ _ unit h (with_tab _ _ (unit_form _ _ code k closed))) in
    rw (form, unit_value code k, unit_value unit h, ne_eqb code 0xFFFF ne)

-- `M` is read back
pub read_pair : (code unit : ℕ) → code < 65536 → unit < 65536 → (unit ≡ 0xFFFF → ⊥) → record_of (record_line (Pair code unit)) ≡ Pair code unit
unfolding record_of hex_unit_at hex_byte_at
read_pair code unit h k ne =
    let form : has_form pair_form (record_line (Pair code unit)) ≡ true = with_letter 0x4D _ _ (itself 0x4D refl refl refl) (unit_form _ _ code h (with_tab _ _ (unit_form _ _ unit k closed))) in
    let a : has_form code_form (record_line (Pair code unit)) ≡ false = other 0x57 0x4D _ _ refl refl refl refl in
    rw (a, form, unit_value unit k, unit_value code h, ne_eqb unit 0xFFFF ne)

-- `S` is read back
pub read_single : (byte unit : ℕ) → byte < 256 → unit < 65536 → record_of (record_line (Single byte unit)) ≡ Single byte unit
unfolding record_of hex_unit_at hex_byte_at single_text
read_single byte unit h k = by_unit (eqb unit 0xFFFF) refl
  where
    by_unit : (t : Bool) → eqb unit 0xFFFF ≡ t → record_of (record_line (Single byte unit)) ≡ Single byte unit
    by_unit true q =
        let form : has_form bare_form (line₂ 0x53 (byte_text byte) (0x2D ∷ [])) ≡ true = with_letter 0x53 _ _ (itself 0x53 refl refl refl) (byte_form _ _ byte h (with_tab _ _ dash_form)) in
        let a : has_form code_form (line₂ 0x53 (byte_text byte) (0x2D ∷ [])) ≡ false = other 0x57 0x53 _ _ refl refl refl refl in
        let b : has_form pair_form (line₂ 0x53 (byte_text byte) (0x2D ∷ [])) ≡ false = other 0x4D 0x53 _ _ refl refl refl refl in
        let c : has_form single_form (line₂ 0x53 (byte_text byte) (0x2D ∷ [])) ≡ false = form_other single_form (line₂ 0x53 (byte_text byte) (0x2D ∷ [])) (λ e. omega arith) in
        rw (q, a, b, c, form, byte_value byte h, eqb-true unit 0xFFFF q)
    by_unit false q =
        let form : has_form single_form (line₂ 0x53 (byte_text byte) (unit_text unit)) ≡ true = with_letter 0x53 _ _ (itself 0x53 refl refl refl) (byte_form _ _ byte h (with_tab _ _ (unit_form _ _ unit k closed))) in
        let a : has_form code_form (line₂ 0x53 (byte_text byte) (unit_text unit)) ≡ false = other 0x57 0x53 _ _ refl refl refl refl in
        let b : has_form pair_form (line₂ 0x53 (byte_text byte) (unit_text unit)) ≡ false = other 0x4D 0x53 _ _ refl refl refl refl in
        rw (q, a, b, form, unit_value unit k, byte_value byte h, q)

-- `T` is read back
pub read_trail : (byte : ℕ) → byte < 256 → record_of (record_line (Trail byte)) ≡ Trail byte
unfolding record_of hex_byte_at
read_trail byte h =
    let form : has_form trail_form (record_line (Trail byte)) ≡ true = with_letter 0x54 _ _ (itself 0x54 refl refl refl) (byte_form _ _ byte h closed) in
    let a : has_form code_form (record_line (Trail byte)) ≡ false = other 0x57 0x54 _ _ refl refl refl refl in
    let b : has_form pair_form (record_line (Trail byte)) ≡ false = other 0x4D 0x54 _ _ refl refl refl refl in
    let c : has_form single_form (record_line (Trail byte)) ≡ false = other 0x53 0x54 _ _ refl refl refl refl in
    let d : has_form bare_form (record_line (Trail byte)) ≡ false = other 0x53 0x54 _ _ refl refl refl refl in
    rw (a, b, c, d, form, byte_value byte h)

-- `L` is read back
pub read_lead : (byte : ℕ) → byte < 256 → record_of (record_line (Lead byte)) ≡ Lead byte
unfolding record_of hex_byte_at
read_lead byte h =
    let form : has_form lead_form (record_line (Lead byte)) ≡ true = with_letter 0x4C _ _ (itself 0x4C refl refl refl) (byte_form _ _ byte h closed) in
    let a : has_form code_form (record_line (Lead byte)) ≡ false = other 0x57 0x4C _ _ refl refl refl refl in
    let b : has_form pair_form (record_line (Lead byte)) ≡ false = other 0x4D 0x4C _ _ refl refl refl refl in
    let c : has_form single_form (record_line (Lead byte)) ≡ false = other 0x53 0x4C _ _ refl refl refl refl in
    let d : has_form bare_form (record_line (Lead byte)) ≡ false = other 0x53 0x4C _ _ refl refl refl refl in
    let e : has_form trail_form (record_line (Lead byte)) ≡ false = other 0x54 0x4C _ _ refl refl refl refl in
    rw (a, b, c, d, e, form, byte_value byte h)

-- `D` is read back
pub read_defaults : (byte unit : ℕ) → byte < 256 → unit < 65536 → record_of (record_line (Defaults byte unit)) ≡ Defaults byte unit
unfolding record_of hex_unit_at hex_byte_at
read_defaults byte unit h k =
    let form : has_form defaults_form (record_line (Defaults byte unit)) ≡ true = with_letter 0x44 _ _ (itself 0x44 refl refl refl) (byte_form _ _ byte h (with_tab _ _ (unit_form _ _ unit k closed))) in
    let a : has_form code_form (record_line (Defaults byte unit)) ≡ false = other 0x57 0x44 _ _ refl refl refl refl in
    let b : has_form pair_form (record_line (Defaults byte unit)) ≡ false = other 0x4D 0x44 _ _ refl refl refl refl in
    let c : has_form single_form (record_line (Defaults byte unit)) ≡ false = other 0x53 0x44 _ _ refl refl refl refl in
    let d : has_form bare_form (record_line (Defaults byte unit)) ≡ false = other 0x53 0x44 _ _ refl refl refl refl in
    let e : has_form trail_form (record_line (Defaults byte unit)) ≡ false = other 0x54 0x44 _ _ refl refl refl refl in
    let f : has_form lead_form (record_line (Defaults byte unit)) ≡ false = other 0x4C 0x44 _ _ refl refl refl refl in
    rw (a, b, c, d, e, f, form, unit_value unit k, byte_value byte h)

-- ---- the page
dec_known : (d : ℕ) → d < 10 → (fits_symbol 0x30 (0x30 + d) ≡ true) × (digit (0x30 + d) ≡ d)
unfolding fits_symbol digit is_digit
dec_known d h =
    let low : leb 0x30 (0x30 + d) ≡ true = le-leb 0x30 (0x30 + d) (omega arith) in
    let high : leb (0x30 + d) 0x39 ≡ true = le-leb (0x30 + d) 0x39 (omega arith) in
    (rw (low, high), rw (low, high) (omega arith))

dec_first : (d : ℕ) → 1 ≤ d → d < 10 → fits_symbol 0x31 (0x30 + d) ≡ true
unfolding fits_symbol is_digit
dec_first d l h =
    let low : leb 0x30 (0x30 + d) ≡ true = le-leb 0x30 (0x30 + d) (omega arith) in
    let high : leb (0x30 + d) 0x39 ≡ true = le-leb (0x30 + d) 0x39 (omega arith) in
    let ne : eqb (0x30 + d) 0x30 ≡ false = ne_eqb (0x30 + d) 0x30 (λ e. omega arith) in
    rw (low, high, ne)

dec_fits : (form rest : List ℕ) (d : ℕ) → d < 10 → has_form form rest ≡ true → has_form (0x30 ∷ form) ((0x30 + d) ∷ rest) ≡ true
unfolding has_form
dec_fits form rest d h e = both (dec_known d h).0 e

first_fits : (form rest : List ℕ) (d : ℕ) → 1 ≤ d → d < 10 → has_form form rest ≡ true → has_form (0x31 ∷ form) ((0x30 + d) ∷ rest) ≡ true
unfolding has_form
first_fits form rest d l h e = both (dec_first d l h) e

page_only : (text : List ℕ) → record_of (line 0x50 text) ≡ page_of (line 0x50 text)
unfolding record_of
page_only text =
    let a : has_form code_form (line 0x50 text) ≡ false = other 0x57 0x50 _ _ refl refl refl refl in
    let b : has_form pair_form (line 0x50 text) ≡ false = other 0x4D 0x50 _ _ refl refl refl refl in
    let c : has_form single_form (line 0x50 text) ≡ false = other 0x53 0x50 _ _ refl refl refl refl in
    let d : has_form bare_form (line 0x50 text) ≡ false = other 0x53 0x50 _ _ refl refl refl refl in
    let e : has_form trail_form (line 0x50 text) ≡ false = other 0x54 0x50 _ _ refl refl refl refl in
    let f : has_form lead_form (line 0x50 text) ≡ false = other 0x4C 0x50 _ _ refl refl refl refl in
    let g : has_form defaults_form (line 0x50 text) ≡ false = other 0x44 0x50 _ _ refl refl refl refl in
    rw (a, b, c, d, e, f, g)

-- a page of so many digits
module _ (page : ℕ) (most : page ≤ 65535) where
  small : small_page page ≡ Page page
  small = rw (le-leb page 65535 most)

  read_1 : 1 ≤ page → page < 10 → page_of (line 0x50 (decimal_text 1 page)) ≡ Page page
  unfolding page_of decimal_at
  read_1 l h =
      let form : has_form (page_form 0) (line 0x50 (decimal_text 1 page)) ≡ true = with_letter 0x50 _ _ (itself 0x50 refl refl refl) (first_fits _ _ (page % 10) (omega arith) (omega arith) closed) in
      let value : decimal_at 1 (line 0x50 (decimal_text 1 page)) 2 ≡ page = omega (arith, (dec_known (page % 10) (omega arith)).1) in
      rw (form) (ap small_page value ∙ small)

  read_2 : 10 ≤ page → page < 100 → page_of (line 0x50 (decimal_text 2 page)) ≡ Page page
  unfolding page_of decimal_at
  read_2 l h =
      let a : has_form (page_form 0) (line 0x50 (decimal_text 2 page)) ≡ false = form_other (page_form 0) (line 0x50 (decimal_text 2 page)) (λ e. omega arith) in
      let form : has_form (page_form 1) (line 0x50 (decimal_text 2 page)) ≡ true = with_letter 0x50 _ _ (itself 0x50 refl refl refl) (first_fits _ _ (page / 10 % 10) (omega arith) (omega arith) (dec_fits _ _ (page % 10) (omega arith) closed)) in
      let value : decimal_at 2 (line 0x50 (decimal_text 2 page)) 2 ≡ page = omega (arith, (dec_known (page / 10 % 10) (omega arith)).1, (dec_known (page % 10) (omega arith)).1) in
      rw (a, form) (ap small_page value ∙ small)

  read_3 : 100 ≤ page → page < 1000 → page_of (line 0x50 (decimal_text 3 page)) ≡ Page page
  unfolding page_of decimal_at
  read_3 l h =
      let a : has_form (page_form 0) (line 0x50 (decimal_text 3 page)) ≡ false = form_other (page_form 0) (line 0x50 (decimal_text 3 page)) (λ e. omega arith) in
      let b : has_form (page_form 1) (line 0x50 (decimal_text 3 page)) ≡ false = form_other (page_form 1) (line 0x50 (decimal_text 3 page)) (λ e. omega arith) in
      let form : has_form (page_form 2) (line 0x50 (decimal_text 3 page)) ≡ true = with_letter 0x50 _ _ (itself 0x50 refl refl refl) (first_fits _ _ (page / 10 / 10 % 10) (omega arith) (omega arith) (dec_fits _ _ (page / 10 % 10) (omega arith) (dec_fits _ _ (page % 10) (omega arith) closed))) in
      let value : decimal_at 3 (line 0x50 (decimal_text 3 page)) 2 ≡ page = omega (arith, (dec_known (page / 10 / 10 % 10) (omega arith)).1, (dec_known (page / 10 % 10) (omega arith)).1, (dec_known (page % 10) (omega arith)).1) in
      rw (a, b, form) (ap small_page value ∙ small)

  read_4 : 1000 ≤ page → page < 10000 → page_of (line 0x50 (decimal_text 4 page)) ≡ Page page
  unfolding page_of decimal_at
  read_4 l h =
      let a : has_form (page_form 0) (line 0x50 (decimal_text 4 page)) ≡ false = form_other (page_form 0) (line 0x50 (decimal_text 4 page)) (λ e. omega arith) in
      let b : has_form (page_form 1) (line 0x50 (decimal_text 4 page)) ≡ false = form_other (page_form 1) (line 0x50 (decimal_text 4 page)) (λ e. omega arith) in
      let c : has_form (page_form 2) (line 0x50 (decimal_text 4 page)) ≡ false = form_other (page_form 2) (line 0x50 (decimal_text 4 page)) (λ e. omega arith) in
      let form : has_form (page_form 3) (line 0x50 (decimal_text 4 page)) ≡ true = with_letter 0x50 _ _ (itself 0x50 refl refl refl) (first_fits _ _ (page / 10 / 10 / 10 % 10) (omega arith) (omega arith) (dec_fits _ _ (page / 10 / 10 % 10) (omega arith) (dec_fits _ _ (page / 10 % 10) (omega arith) (dec_fits _ _ (page % 10) (omega arith) closed)))) in
      let value : decimal_at 4 (line 0x50 (decimal_text 4 page)) 2 ≡ page = omega (arith, (dec_known (page / 10 / 10 / 10 % 10) (omega arith)).1, (dec_known (page / 10 / 10 % 10) (omega arith)).1, (dec_known (page / 10 % 10) (omega arith)).1, (dec_known (page % 10) (omega arith)).1) in
      rw (a, b, c, form) (ap small_page value ∙ small)

  read_5 : 10000 ≤ page → page ≤ 65535 → page_of (line 0x50 (decimal_text 5 page)) ≡ Page page
  unfolding page_of decimal_at
  read_5 l h =
      let a : has_form (page_form 0) (line 0x50 (decimal_text 5 page)) ≡ false = form_other (page_form 0) (line 0x50 (decimal_text 5 page)) (λ e. omega arith) in
      let b : has_form (page_form 1) (line 0x50 (decimal_text 5 page)) ≡ false = form_other (page_form 1) (line 0x50 (decimal_text 5 page)) (λ e. omega arith) in
      let c : has_form (page_form 2) (line 0x50 (decimal_text 5 page)) ≡ false = form_other (page_form 2) (line 0x50 (decimal_text 5 page)) (λ e. omega arith) in
      let d : has_form (page_form 3) (line 0x50 (decimal_text 5 page)) ≡ false = form_other (page_form 3) (line 0x50 (decimal_text 5 page)) (λ e. omega arith) in
      let form : has_form (page_form 4) (line 0x50 (decimal_text 5 page)) ≡ true = with_letter 0x50 _ _ (itself 0x50 refl refl refl) (first_fits _ _ (page / 10 / 10 / 10 / 10 % 10) (omega arith) (omega arith) (dec_fits _ _ (page / 10 / 10 / 10 % 10) (omega arith) (dec_fits _ _ (page / 10 / 10 % 10) (omega arith) (dec_fits _ _ (page / 10 % 10) (omega arith) (dec_fits _ _ (page % 10) (omega arith) closed))))) in
      let value : decimal_at 5 (line 0x50 (decimal_text 5 page)) 2 ≡ page = omega (arith, (dec_known (page / 10 / 10 / 10 / 10 % 10) (omega arith)).1, (dec_known (page / 10 / 10 / 10 % 10) (omega arith)).1, (dec_known (page / 10 / 10 % 10) (omega arith)).1, (dec_known (page / 10 % 10) (omega arith)).1, (dec_known (page % 10) (omega arith)).1) in
      rw (a, b, c, d, form) (ap small_page value ∙ small)

-- `P` is read back
pub read_page : (page : ℕ) → 1 ≤ page → page ≤ 65535 → record_of (record_line (Page page)) ≡ Page page
read_page page l h = page_only (page_text page) ∙ by_size (ltb page 10) refl (ltb page 100) refl (ltb page 1000) refl (ltb page 10000) refl
  where
    by_text : (text : List ℕ) → page_text page ≡ text → page_of (line 0x50 text) ≡ Page page → page_of (line 0x50 (page_text page)) ≡ Page page
    by_text text e k = ap (λ (t : List ℕ). page_of (line 0x50 t)) e ∙ k

    by_size : (a : Bool) → ltb page 10 ≡ a → (b : Bool) → ltb page 100 ≡ b → (c : Bool) → ltb page 1000 ≡ c → (d : Bool) → ltb page 10000 ≡ d → page_of (line 0x50 (page_text page)) ≡ Page page
    by_size true p b q c r d t = by_text (decimal_text 1 page) (page_1 page (ltb-true page 10 p)) (read_1 page h l (ltb-true page 10 p))
    by_size false p true q c r d t = by_text (decimal_text 2 page) (page_2 page (ltb-false page 10 p) (ltb-true page 100 q)) (read_2 page h (ltb-false page 10 p) (ltb-true page 100 q))
    by_size false p false q true r d t = by_text (decimal_text 3 page) (page_3 page (ltb-false page 100 q) (ltb-true page 1000 r)) (read_3 page h (ltb-false page 100 q) (ltb-true page 1000 r))
    by_size false p false q false r true t = by_text (decimal_text 4 page) (page_4 page (ltb-false page 1000 r) (ltb-true page 10000 t)) (read_4 page h (ltb-false page 1000 r) (ltb-true page 10000 t))
    by_size false p false q false r false t = by_text (decimal_text 5 page) (page_5 page (ltb-false page 10000 t)) (read_5 page h (ltb-false page 10000 t) h)
