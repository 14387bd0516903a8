-- What is known of the values of every record.
use mathlib.Core.Bool.{Bool, true, false, not, ◌&&◌, false≢true}
use mathlib.Core.List.{List, [], ◌∷◌}
use mathlib.Core.Path.{◌≡◌, refl, sym, ◌∙◌}
use Prim.Native.Nat.{ℕ, zero, suc, ◌+◌, ◌≤◌, ◌<◌}
use native.Mathlib.Omega.{arith}
use lib.Dec.{leb, eqb}
use borrow.Author.Tests.{leb-true, eqb-false, not-true}
use Rattle.codepage.specs.CodePage.{pick, entry_at}
use Rattle.listing.specs.declared.Record.{Record}
use Rattle.listing.specs.declared.Record.TheVariants.{Page, Defaults, Single, Lead, Trail, Pair, Code, NoRecord}
use Rattle.listing.specs.Form.{is_digit, is_capital, digit, hex_byte_at, hex_unit_at, decimal_at, fits_symbol, has_form, digits_form, page_form, code_form, pair_form, single_form, bare_form, trail_form, lead_form, defaults_form, unless_none, small_page, page_of, record_of}
use Rattle.codepage.proofs.ShapeLaws.{and_left, and_right}

-- what the proofs need of a record: a page that is not 0, bytes below 256 and units below 65,536
abbrev pub Bounded : Record → Type 0
Bounded (Page page) = page ≡ 0 → ⊥
Bounded (Defaults byte unit) = Unit {0}
Bounded (Single byte unit) = byte < 256
Bounded (Lead byte) = byte < 256
Bounded (Trail byte) = byte < 256
Bounded (Pair code unit) = Unit {0}
Bounded (Code unit code) = unit < 65536
Bounded NoRecord = Unit {0}

either : (t : Bool) (a b : Record) → (t ≡ true → Bounded a) → Bounded b → Bounded (pick t a b)
either true a b x y = x refl
either false a b x y = y

-- a digit is below 16
pub digit_small : (byte : ℕ) → digit byte < 16
unfolding digit is_digit is_capital
digit_small byte = by_case (leb 0x30 byte) refl (leb byte 0x39) refl (leb 0x41 byte) refl (leb byte 0x46) refl
  where
    by_case : (a : Bool) → leb 0x30 byte ≡ a → (b : Bool) → leb byte 0x39 ≡ b → (c : Bool) → leb 0x41 byte ≡ c → (d : Bool) → leb byte 0x46 ≡ d → digit byte < 16
    by_case true p true q c r d t = rw (p, q) (omega (arith, leb-true 0x30 byte p, leb-true byte 0x39 q))
    by_case true p false q true r true t = rw (p, q, r, t) (omega (arith, leb-true 0x41 byte r, leb-true byte 0x46 t))
    by_case true p false q true r false t = rw (p, q, r, t) (omega arith)
    by_case true p false q false r d t = rw (p, q, r) (omega arith)
    by_case false p b q true r true t = rw (p, r, t) (omega (arith, leb-true 0x41 byte r, leb-true byte 0x46 t))
    by_case false p b q true r false t = rw (p, r, t) (omega arith)
    by_case false p b q false r d t = rw (p, r) (omega arith)

byte_small : (line : List ℕ) (place : ℕ) → hex_byte_at line place < 256
unfolding hex_byte_at
byte_small line place = omega (arith, digit_small (entry_at line place), digit_small (entry_at line (place + 1)))

unit_small : (line : List ℕ) (place : ℕ) → hex_unit_at line place < 65536
unfolding hex_unit_at
unit_small line place = omega (arith, byte_small line place, byte_small line (place + 2))

-- ---- the page
pub first_digit : (byte : ℕ) → fits_symbol 0x31 byte ≡ true → 1 ≤ digit byte
unfolding fits_symbol digit is_digit
first_digit byte e =
    let known : (leb 0x30 byte && leb byte 0x39) ≡ true = and_left (leb 0x30 byte && leb byte 0x39) (not (eqb byte 0x30)) e in
    let low : leb 0x30 byte ≡ true = and_left (leb 0x30 byte) (leb byte 0x39) known in
    let high : leb byte 0x39 ≡ true = and_right (leb 0x30 byte) (leb byte 0x39) known in
    let other : byte ≡ 0x30 → ⊥ = eqb-false byte 0x30 (not-true (eqb byte 0x30) (and_right (leb 0x30 byte && leb byte 0x39) (not (eqb byte 0x30)) e)) in
    rw (low, high) (omega (arith, leb-true 0x30 byte low))

third : (a b c : ℕ) (form line : List ℕ) → has_form (a ∷ b ∷ c ∷ form) line ≡ true → fits_symbol c (entry_at line 2) ≡ true
unfolding has_form
third a b c form [] e = absurd (false≢true e)
third a b c form (x ∷ []) e = absurd (false≢true (sym (and_false (fits_symbol a x)) ∙ e))
  where
    and_false : (t : Bool) → (t && false) ≡ false
    and_false true = refl
    and_false false = refl
third a b c form (x ∷ y ∷ []) e = absurd (false≢true (and_right (fits_symbol b y) false (and_right (fits_symbol a x) (fits_symbol b y && false) e)))
third a b c form (x ∷ y ∷ z ∷ line) e = and_left (fits_symbol c z) (has_form form line) (and_right (fits_symbol b y) (fits_symbol c z && has_form form line) (and_right (fits_symbol a x) (fits_symbol b y && (fits_symbol c z && has_form form line)) e))

decimal_some : (line : List ℕ) (count : ℕ) → 1 ≤ digit (entry_at line 2) → 1 ≤ decimal_at (suc count) line 2
unfolding decimal_at
decimal_some line zero h = let e : 2 + 0 ≡ 2 = omega arith in omega (arith, h)
decimal_some line (suc count) h = omega (arith, decimal_some line count h)

page_bounded : (line : List ℕ) (more : ℕ) → has_form (page_form more) line ≡ true → Bounded (small_page (decimal_at (suc more) line 2))
page_bounded line more e =
    either (leb (decimal_at (suc more) line 2) 65535) (Page (decimal_at (suc more) line 2)) NoRecord
    (λ t z. omega (arith, decimal_some line more (first_digit (entry_at line 2) (third 0x50 9 0x31 (digits_form more) line e))))
    tt

none_bounded : (right : ℕ) (r : Record) → Bounded r → Bounded (unless_none right r)
none_bounded right r b = either (eqb right 0xFFFF) NoRecord r (λ t. tt) b

-- the record of every line is bounded
pub bounded : (line : List ℕ) → Bounded (record_of line)
unfolding record_of page_of
bounded line =
    either (has_form code_form line) _ _ (λ t. none_bounded (hex_unit_at line 7) _ (unit_small line 2))
    (either (has_form pair_form line) _ _ (λ t. none_bounded (hex_unit_at line 7) (Pair (hex_unit_at line 2) (hex_unit_at line 7)) tt)
    (either (has_form single_form line) _ _ (λ t. none_bounded (hex_unit_at line 5) (Single (hex_byte_at line 2) (hex_unit_at line 5)) (byte_small line 2))
    (either (has_form bare_form line) _ _ (λ t. byte_small line 2)
    (either (has_form trail_form line) _ _ (λ t. byte_small line 2)
    (either (has_form lead_form line) _ _ (λ t. byte_small line 2)
    (either (has_form defaults_form line) _ _ (λ t. tt)
    (either (has_form (page_form 0) line) _ _ (page_bounded line 0)
    (either (has_form (page_form 1) line) _ _ (page_bounded line 1)
    (either (has_form (page_form 2) line) _ _ (page_bounded line 2)
    (either (has_form (page_form 3) line) _ _ (page_bounded line 3)
    (either (has_form (page_form 4) line) _ _ (page_bounded line 4)
    tt)))))))))))
