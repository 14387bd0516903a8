-- Laws of the parsers: what a field is read as, and what was written where one is read.
use mathlib.Core.Bool.{Bool, true, false, ◌&&◌, false≢true}
use mathlib.Core.List.{List, [], ◌∷◌, ◌++◌, append_assoc}
use mathlib.Core.Option.{Option, none, some}
use mathlib.Core.Path.{◌≡◌, refl, sym, ap, ◌∙◌, subst}
use Prim.Native.Nat.{ℕ, zero, suc, ◌+◌, ◌-◌, ◌*◌, ◌/◌, ◌%◌, ◌^◌, ◌<◌, ◌≤◌}
use native.Mathlib.Omega.{arith}
use lib.Dec.{ltb, leb, eqb}
use borrow.Author.Tests.{lt-ltb, le-ltb, le-leb, lt-leb, ne_eqb, ltb-true, ltb-false, leb-true, eqb-true}
use Rattle.codepage.specs.CodePage.{pick}
use Rattle.codepage.proofs.ShapeLaws.{and_left, and_right}
use Rattle.engine.specs.declared.Direction.{Direction}
use Rattle.engine.specs.declared.Direction.TheVariants.{Decoding, Encoding}
use Rattle.engine.specs.declared.Policy.{Policy}
use Rattle.convert.specs.declared.Pending.{Pending}
use Rattle.convert.specs.declared.Pending.TheVariants.{Nothing, Byte, High}
use Rattle.checkpoint.specs.Line.{tab, digit_byte, hex_byte, hex_of, decimal, letter_of, digits_of, pending_of, field_of, closing_of, Parsed, Parser, succeed, ◌>>=◌, or_else, one, is_byte, digit_value, hex_value, more_digits, number, letter_value, letter, three_digits, hex_pair, hex_pending, pending_field, field, same_bytes, closing}
use Rattle.checkpoint.proofs.DecimalLaws.{decimal_few, decimal_many, decimal_step}

-- a value and the bytes behind it
abbrev pub got : {A : Type 0} → A → List ℕ → Option (Parsed A)
got a rest = some (record { value = a; rest = rest })

-- ---- Options
-- none is no value
pub none_some : {A : Type 0} {a : A} → ◌≡◌ {A = Option A} none (some a) → ⊥
none_some {A} {a} e = let z : ◌≡◌ {A = ℕ} 0 1 = cc in omega arith

-- two values that are given are equal if the answers are
pub some_eq : {A : Type 0} {a b : A} → ◌≡◌ {A = Option A} (some a) (some b) → a ≡ b
some_eq e = cc

-- ---- one parser, then another
module _ {A B : Type 0} (p : Parser A) (next : A → Parser B) (bytes : List ℕ) where
  -- the first parser gives a value: the next one goes on with it
  pub then_some : (a : A) (rest : List ℕ) → p bytes ≡ got a rest → (p >>= next) bytes ≡ next a rest
  unfolding ◌>>=◌
  then_some a rest e = rw (e, ◌>>=◌)

  -- the first parser gives none: there is none
  pub then_none : p bytes ≡ none → (p >>= next) bytes ≡ none
  unfolding ◌>>=◌
  then_none e = rw (e, ◌>>=◌)

  -- both parsers together gave a value: the first gave one, and the next one went on with it
  pub then_back : (r : Parsed B) → (p >>= next) bytes ≡ some r → (f : Parsed A) × (p bytes ≡ some f) × (next f.value f.rest ≡ some r)
  then_back r e = by_case (p bytes) refl
    where
      by_case : (o : Option (Parsed A)) → p bytes ≡ o → (f : Parsed A) × (p bytes ≡ some f) × (next f.value f.rest ≡ some r)
      by_case none q = absurd (none_some (sym (then_none q) ∙ e))
      by_case (some f) q = (f, q, sym (then_some f.value f.rest q) ∙ e)

module _ {A : Type 0} (p q : Parser A) (bytes : List ℕ) where
  pub else_first : (r : Parsed A) → p bytes ≡ some r → or_else p q bytes ≡ some r
  unfolding or_else
  else_first r e = rw (e, or_else)

  pub else_second : p bytes ≡ none → or_else p q bytes ≡ q bytes
  unfolding or_else
  else_second e = rw (e, or_else)

-- ---- one byte
module _ {A : Type 0} (means : ℕ → Option A) (byte : ℕ) (bytes : List ℕ) where
  -- a first byte that means something is read
  pub one_some : (a : A) → means byte ≡ some a → one means (byte ∷ bytes) ≡ got a bytes
  unfolding one
  one_some a e = rw (e, one)

  -- a first byte that means nothing: none
  pub one_none : means byte ≡ none → one means (byte ∷ bytes) ≡ none
  unfolding one
  one_none e = rw (e, one)

-- no byte is there: none
pub one_empty : {A : Type 0} (means : ℕ → Option A) → one means [] ≡ none
unfolding one
one_empty means = refl

-- a byte that was read is the first, and means the value
pub one_back : {A : Type 0} (means : ℕ → Option A) (bytes : List ℕ) (r : Parsed A) → one means bytes ≡ some r → (byte : ℕ) × (bytes ≡ byte ∷ r.rest) × (means byte ≡ some r.value)
one_back means [] r e = absurd (none_some (sym (one_empty means) ∙ e))
one_back {A} means (byte ∷ bytes) r e = by_case (means byte) refl
  where
    by_case : (o : Option A) → means byte ≡ o → (b : ℕ) × (byte ∷ bytes ≡ b ∷ r.rest) × (means b ≡ some r.value)
    by_case none q = absurd (none_some (sym (one_none means byte bytes q) ∙ e))
    by_case (some a) q =
        let same : got a bytes ≡ some r = sym (one_some means byte bytes a q) ∙ e in
        (byte, ap (λ (f : Parsed A). byte ∷ f.rest) (some_eq same), q ∙ ap (λ (f : Parsed A). some f.value) (some_eq same))

-- ---- digits
pick_some : {A : Type 0} (t : Bool) (a b : A) → pick t (some a) none ≡ some b → (t ≡ true) × (a ≡ b)
pick_some true a b e = (refl, some_eq e)
pick_some false a b e = absurd (none_some e)

-- `0` to `9` have their value
pub digit_value_lem : (byte : ℕ) → 0x30 ≤ byte → byte ≤ 0x39 → digit_value byte ≡ some (byte - 0x30)
digit_value_lem byte l h = rw (le-leb 0x30 byte l, le-leb byte 0x39 h)

-- a byte below `0` is no digit
pub digit_low : (byte : ℕ) → byte < 0x30 → digit_value byte ≡ none
digit_low byte h = rw (lt-leb 0x30 byte h)

-- a byte above `9` is no digit
pub digit_high : (byte : ℕ) → 0x39 < byte → digit_value byte ≡ none
digit_high byte h = rw (lt-leb byte 0x39 h, le-leb 0x30 byte (omega arith))

pub digit_of_lem : (d : ℕ) → d < 10 → digit_value (digit_byte d) ≡ some d
digit_of_lem d h =
    let e : 0x30 + d - 0x30 ≡ d = omega arith in
    digit_value_lem (0x30 + d) (omega arith) (omega arith) ∙ ap some e

-- a byte with a digit's value is that digit's byte, and the value is below 10
pub digit_back : (byte d : ℕ) → digit_value byte ≡ some d → (byte ≡ digit_byte d) × (d < 10)
digit_back byte d e =
    let w = pick_some (leb 0x30 byte && leb byte 0x39) (byte - 0x30) d e in
    let low : 0x30 ≤ byte = leb-true 0x30 byte (and_left (leb 0x30 byte) (leb byte 0x39) w.0) in
    let high : byte ≤ 0x39 = leb-true byte 0x39 (and_right (leb 0x30 byte) (leb byte 0x39) w.0) in
    let v : byte - 0x30 ≡ d = w.1 in
    (omega arith, omega arith)

-- `A` to `F` are 10 to 15
pub hex_letter : (byte : ℕ) → 0x41 ≤ byte → byte ≤ 0x46 → hex_value byte ≡ some (byte - 0x41 + 10)
hex_letter byte l h = rw (le-leb 0x41 byte l, le-leb byte 0x46 h)

-- below `A` a hex digit is a decimal digit or none
pub hex_low : (byte : ℕ) → byte < 0x41 → hex_value byte ≡ digit_value byte
hex_low byte h = rw (lt-leb 0x41 byte h)

-- a byte above `F` is no hex digit
pub hex_high : (byte : ℕ) → 0x46 < byte → hex_value byte ≡ none
hex_high byte h = rw (lt-leb byte 0x46 h, le-leb 0x41 byte (omega arith)) (digit_high byte (omega arith))

pub hex_of_lem : (v : ℕ) → v < 16 → hex_value (hex_byte v) ≡ some v
hex_of_lem v h = by_size (ltb v 10) refl
  where
    by_size : (t : Bool) → ltb v 10 ≡ t → hex_value (hex_byte v) ≡ some v
    by_size true q =
        let small : v < 10 = ltb-true v 10 q in
        rw q (hex_low (0x30 + v) (omega arith) ∙ digit_of_lem v small)
    by_size false q =
        let large : 10 ≤ v = ltb-false v 10 q in
        let e : 0x41 + (v - 10) - 0x41 + 10 ≡ v = omega arith in
        rw q (hex_letter (0x41 + (v - 10)) (omega arith) (omega arith) ∙ ap some e)

-- a byte with a hex digit's value is that digit's byte, and the value is below 16
pub hex_back : (byte v : ℕ) → hex_value byte ≡ some v → (byte ≡ hex_byte v) × (v < 16)
hex_back byte v e = by_letter (leb 0x41 byte && leb byte 0x46) refl
  where
    by_letter : (t : Bool) → (leb 0x41 byte && leb byte 0x46) ≡ t → (byte ≡ hex_byte v) × (v < 16)
    by_letter true q =
        let low : 0x41 ≤ byte = leb-true 0x41 byte (and_left (leb 0x41 byte) (leb byte 0x46) q) in
        let high : byte ≤ 0x46 = leb-true byte 0x46 (and_right (leb 0x41 byte) (leb byte 0x46) q) in
        let w : byte - 0x41 + 10 ≡ v = some_eq (sym (hex_letter byte low high) ∙ e) in
        let large : ltb v 10 ≡ false = le-ltb v 10 (omega arith) in
        (rw large (omega arith), omega arith)
    by_letter false q =
        let d : digit_value byte ≡ some v = rw q at e in
        let w = digit_back byte v d in
        let small : ltb v 10 ≡ true = lt-ltb v 10 w.1 in
        (rw small w.0, omega (arith, w.1))

-- ---- numbers
module _ (value byte : ℕ) (bytes : List ℕ) where
  -- a digit more: ten times the value, and the digit
  pub more_digit : (digit : ℕ) → digit_value byte ≡ some digit → more_digits value (byte ∷ bytes) ≡ more_digits (10 * value + digit) bytes
  unfolding more_digits
  more_digit digit e = rw (e, more_digits)

  -- a byte that is no digit ends the number and stays
  pub more_other : digit_value byte ≡ none → more_digits value (byte ∷ bytes) ≡ got value (byte ∷ bytes)
  unfolding more_digits
  more_other e = rw (e, more_digits)

-- the end of the bytes ends the number
pub more_end : (value : ℕ) → more_digits value [] ≡ got value []
unfolding more_digits
more_end value = refl

-- the first digit of a number that is not 0, and the others, which lead from it to the number
record Led (n : ℕ) : Type 0 where
  first : ℕ
  others : List ℕ
  written : decimal n ≡ digit_byte first ∷ others
  some_first : 1 ≤ first
  small : first < 10
  leads : (bytes : List ℕ) → more_digits first (others ++ bytes) ≡ more_digits n bytes

led_few : (n : ℕ) → 1 ≤ n → n < 10 → Led n
led_few n l h = record { first = n; others = []; written = decimal_few n h; some_first = l; small = h; leads = λ bytes. refl }

led_many : (n : ℕ) → 10 ≤ n → Led (n / 10) → Led n
led_many n h w =
    let last : ℕ = n % 10 in
    let e : 10 * (n / 10) + n % 10 ≡ n = omega arith in
    record {
      first = w.first;
      others = w.others ++ (digit_byte last ∷ []);
      written = decimal_many n h ∙ ap (λ (l : List ℕ). l ++ (digit_byte last ∷ [])) w.written;
      some_first = w.some_first;
      small = w.small;
      leads = λ bytes.
          ap (more_digits w.first) (append_assoc w.others (digit_byte last ∷ []) bytes)
          ∙ w.leads (digit_byte last ∷ bytes)
          ∙ more_digit (n / 10) (digit_byte last) bytes last (digit_of_lem last (omega arith))
          ∙ ap (λ (m : ℕ). more_digits m bytes) e;
    }

led_from : (fuel n : ℕ) → n ≤ fuel → 1 ≤ n → Led n
led_from zero n h l = absurd (omega arith)
led_from (suc fuel) n h l = by_size (ltb n 10) refl (λ k. led_from fuel (n / 10) (omega arith) (omega arith))
  where
    by_size : (t : Bool) → ltb n 10 ≡ t → (10 ≤ n → Led (n / 10)) → Led n
    by_size true q more = led_few n l (ltb-true n 10 q)
    by_size false q more = led_many n (ltb-false n 10 q) (more (ltb-false n 10 q))

-- a number by its first byte
pub number_empty : number [] ≡ none
unfolding number
number_empty = else_second (one (is_byte 0x30 0)) (one digit_value >>= more_digits) [] (one_empty (is_byte 0x30 0)) ∙ then_none (one digit_value) more_digits [] (one_empty digit_value)

-- a number that begins with `0` is 0, and the next byte stays
pub number_zero : (bytes : List ℕ) → number (0x30 ∷ bytes) ≡ got 0 bytes
unfolding number
number_zero bytes = else_first (one (is_byte 0x30 0)) (one digit_value >>= more_digits) (0x30 ∷ bytes) _ (one_some (is_byte 0x30 0) 0x30 bytes 0 refl)

not_zero : (byte : ℕ) (bytes : List ℕ) → (byte ≡ 0x30 → ⊥) → number (byte ∷ bytes) ≡ (one digit_value >>= more_digits) (byte ∷ bytes)
unfolding number
not_zero byte bytes ne = else_second (one (is_byte 0x30 0)) (one digit_value >>= more_digits) (byte ∷ bytes) (one_none (is_byte 0x30 0) byte bytes (rw (ne_eqb byte 0x30 ne)))

-- a number that begins with `1` to `9` goes on with the digits behind it
pub number_first : (byte : ℕ) (bytes : List ℕ) (digit : ℕ) → digit_value byte ≡ some digit → 1 ≤ digit → number (byte ∷ bytes) ≡ more_digits digit bytes
number_first byte bytes digit e h =
    not_zero byte bytes (λ z. omega (arith, (digit_back byte digit e).0))
    ∙ then_some (one digit_value) more_digits (byte ∷ bytes) digit bytes (one_some digit_value byte bytes digit e)

-- bytes that begin with no digit have no number
pub number_none : (byte : ℕ) (bytes : List ℕ) → digit_value byte ≡ none → number (byte ∷ bytes) ≡ none
number_none byte bytes e =
    not_zero byte bytes (λ z. none_some (sym e ∙ ap digit_value z ∙ digit_of_lem 0 (omega arith)))
    ∙ then_none (one digit_value) more_digits (byte ∷ bytes) (one_none digit_value byte bytes e)

-- a number is read back, where no digit follows it
number_led : (n byte : ℕ) (bytes : List ℕ) → digit_value byte ≡ none → Led n → number (decimal n ++ (byte ∷ bytes)) ≡ got n (byte ∷ bytes)
number_led n byte bytes e w =
    ap (λ (l : List ℕ). number (l ++ (byte ∷ bytes))) w.written
    ∙ number_first (digit_byte w.first) (w.others ++ (byte ∷ bytes)) w.first (digit_of_lem w.first w.small) w.some_first
    ∙ w.leads (byte ∷ bytes)
    ∙ more_other n byte bytes e

pub number_of : (n byte : ℕ) (bytes : List ℕ) → digit_value byte ≡ none → number (decimal n ++ (byte ∷ bytes)) ≡ got n (byte ∷ bytes)
number_of zero byte bytes e = ap (λ (l : List ℕ). number (l ++ (byte ∷ bytes))) (decimal_few 0 (omega arith)) ∙ number_zero (byte ∷ bytes)
number_of (suc n) byte bytes e = number_led (suc n) byte bytes e (led_from (suc n) (suc n) (omega arith) (omega arith))

-- what was read as a number is its digits
more_back : (value : ℕ) (bytes : List ℕ) (r : Parsed ℕ) → 1 ≤ value → more_digits value bytes ≡ some r → decimal value ++ bytes ≡ decimal r.value ++ r.rest
more_back value [] r h e = ap (λ (f : Parsed ℕ). decimal f.value ++ f.rest) (some_eq (sym (more_end value) ∙ e))
more_back value (byte ∷ bytes) r h e = by_case (λ digit. more_back (10 * value + digit) bytes r (omega arith)) (digit_value byte) refl
  where
    by_case : ((digit : ℕ) → more_digits (10 * value + digit) bytes ≡ some r → decimal (10 * value + digit) ++ bytes ≡ decimal r.value ++ r.rest)
        → (o : Option ℕ) → digit_value byte ≡ o → decimal value ++ (byte ∷ bytes) ≡ decimal r.value ++ r.rest
    by_case more none q = ap (λ (f : Parsed ℕ). decimal f.value ++ f.rest) (some_eq (sym (more_other value byte bytes q) ∙ e))
    by_case more (some digit) q =
        let w = digit_back byte digit q in
        ap (λ (b : ℕ). decimal value ++ (b ∷ bytes)) w.0
        ∙ sym (append_assoc (decimal value) (digit_byte digit ∷ []) bytes)
        ∙ ap (λ (l : List ℕ). l ++ bytes) (sym (decimal_step value digit h w.1))
        ∙ more digit (sym (more_digit value byte bytes digit q) ∙ e)

pub number_back : (bytes : List ℕ) (r : Parsed ℕ) → number bytes ≡ some r → bytes ≡ decimal r.value ++ r.rest
number_back [] r e = absurd (none_some (sym number_empty ∙ e))
number_back (byte ∷ bytes) r e = by_case (digit_value byte) refl
  where
    by_first : (digit : ℕ) → digit_value byte ≡ some digit → byte ∷ bytes ≡ decimal r.value ++ r.rest
    by_first zero q =
        let w : byte ≡ 0x30 = (digit_back byte 0 q).0 in
        let same : got 0 bytes ≡ some r = sym (number_zero bytes) ∙ ap (λ (b : ℕ). number (b ∷ bytes)) (sym w) ∙ e in
        ap (λ (b : ℕ). b ∷ bytes) w
        ∙ ap (λ (l : List ℕ). l ++ bytes) (sym (decimal_few 0 (omega arith)))
        ∙ ap (λ (f : Parsed ℕ). decimal f.value ++ f.rest) (some_eq same)
    by_first (suc d) q =
        let w = digit_back byte (suc d) q in
        ap (λ (b : ℕ). b ∷ bytes) w.0
        ∙ ap (λ (l : List ℕ). l ++ bytes) (sym (decimal_few (suc d) w.1))
        ∙ more_back (suc d) bytes r (omega arith) (sym (number_first byte bytes (suc d) q (omega arith)) ∙ e)

    by_case : (o : Option ℕ) → digit_value byte ≡ o → byte ∷ bytes ≡ decimal r.value ++ r.rest
    by_case none q = absurd (none_some (sym (number_none byte bytes q) ∙ e))
    by_case (some digit) q = by_first digit q

-- ---- the fields: each is read back, and what was read is what is written for it
-- p reads what `written` writes of a value, and nothing else
pub record Reads {A : Type 0} (p : Parser A) (written : A → List ℕ) (Good : A → Type 0) : Type 0 where
  pub forth : (a : A) (rest : List ℕ) → Good a → p (written a ++ (tab ∷ rest)) ≡ got a (tab ∷ rest)
  pub back : (bytes : List ℕ) (r : Parsed A) → p bytes ≡ some r → (bytes ≡ written r.value ++ r.rest) × Good r.value

-- nothing is asked of a value
abbrev pub Any : {A : Type 0} → A → Type 0
Any a = Unit {0}

-- every number is read back from its decimal digits, and only those are read
pub number_reads : Reads number decimal Any
number_reads =
    record {
      forth = λ n rest g. number_of n tab rest (digit_low tab (omega arith));
      back = λ bytes r e. (number_back bytes r e, tt);
    }

letter_back : (byte : ℕ) (d : Direction) → letter_value byte ≡ some d → byte ∷ [] ≡ letter_of d
letter_back byte d e = by_first (eqb byte 0x44) refl (eqb byte 0x45) refl
  where
    by_first : (t : Bool) → eqb byte 0x44 ≡ t → (u : Bool) → eqb byte 0x45 ≡ u → byte ∷ [] ≡ letter_of d
    by_first true q u w =
        let same : Decoding ≡ d = some_eq (rw q at e) in
        ap (λ (b : ℕ). b ∷ []) (eqb-true byte 0x44 q) ∙ ap letter_of same
    by_first false q true w =
        let same : Encoding ≡ d = some_eq (rw (q, w) at e) in
        ap (λ (b : ℕ). b ∷ []) (eqb-true byte 0x45 w) ∙ ap letter_of same
    by_first false q false w = absurd (none_some (rw (q, w) at e))

-- both directions are read back from their letter, and only those letters are read
pub letter_reads : Reads letter letter_of Any
unfolding letter
letter_reads = record { forth = letter_forth; back = letter_read }
  where
    letter_forth : (d : Direction) (rest : List ℕ) → Any d → one letter_value (letter_of d ++ (tab ∷ rest)) ≡ got d (tab ∷ rest)
    letter_forth Decoding rest g = one_some letter_value 0x44 (tab ∷ rest) Decoding refl
    letter_forth Encoding rest g = one_some letter_value 0x45 (tab ∷ rest) Encoding refl

    letter_read : (bytes : List ℕ) (r : Parsed Direction) → one letter_value bytes ≡ some r → (bytes ≡ letter_of r.value ++ r.rest) × Any r.value
    letter_read bytes r e =
        let w = one_back letter_value bytes r e in
        (w.1 ∙ ap (λ (l : List ℕ). l ++ r.rest) (letter_back w.0 r.value w.2), tt)

-- one byte, then another parser
module _ {A B : Type 0} (means : ℕ → Option A) (next : A → Parser B) where
  one_then : (byte : ℕ) (bytes : List ℕ) (a : A) → means byte ≡ some a → (one means >>= next) (byte ∷ bytes) ≡ next a bytes
  one_then byte bytes a e = then_some (one means) next (byte ∷ bytes) a bytes (one_some means byte bytes a e)

  one_then_back : (bytes : List ℕ) (r : Parsed B) → (one means >>= next) bytes ≡ some r
      → (byte : ℕ) × (f : Parsed A) × (bytes ≡ byte ∷ f.rest) × (means byte ≡ some f.value) × (next f.value f.rest ≡ some r)
  one_then_back bytes r e =
      let w = then_back (one means) next bytes r e in
      let v = one_back means bytes w.0 w.1 in
      (v.0, w.0, v.1, v.2, w.2)

cons_eq : {a b : ℕ} {bytes rest : List ℕ} → a ≡ b → bytes ≡ a ∷ rest → bytes ≡ b ∷ rest
cons_eq {rest} e q = q ∙ ap (λ (x : ℕ). x ∷ rest) e

return_back : {A : Type 0} (a : A) (bytes : List ℕ) (r : Parsed A) → succeed a bytes ≡ some r → got a bytes ≡ some r
unfolding succeed
return_back a bytes r e = e

-- a value that is given without reading leaves all bytes
pub return_some : {A : Type 0} (a : A) (bytes : List ℕ) → succeed a bytes ≡ got a bytes
unfolding succeed
return_some a bytes = refl

-- each digit of the policy is one decimal digit
pub record DecimalDigits (policy : Policy) : Type 0 where
  pub single : policy.single < 10
  pub pair : policy.pair < 10
  pub invalid : policy.invalid < 10

-- three digits below 10 are read back from their bytes, and only those are read
pub digits_read : Reads three_digits digits_of DecimalDigits
unfolding three_digits
digits_read = record { forth = digits_forth; back = digits_back }
  where
    digits_forth : (policy : Policy) (rest : List ℕ) → DecimalDigits policy → three_digits (digits_of policy ++ (tab ∷ rest)) ≡ got policy (tab ∷ rest)
    digits_forth policy rest g =
        one_then digit_value _ (digit_byte policy.single) (digit_byte policy.pair ∷ digit_byte policy.invalid ∷ tab ∷ rest) policy.single (digit_of_lem policy.single g.single)
        ∙ one_then digit_value _ (digit_byte policy.pair) (digit_byte policy.invalid ∷ tab ∷ rest) policy.pair (digit_of_lem policy.pair g.pair)
        ∙ one_then digit_value _ (digit_byte policy.invalid) (tab ∷ rest) policy.invalid (digit_of_lem policy.invalid g.invalid)
        ∙ return_some policy (tab ∷ rest)

    digits_back : (bytes : List ℕ) (r : Parsed Policy) → three_digits bytes ≡ some r → (bytes ≡ digits_of r.value ++ r.rest) × DecimalDigits r.value
    digits_back bytes r e =
        let a = one_then_back digit_value _ bytes r e in
        let b = one_then_back digit_value _ a.1.rest r a.4 in
        let d = one_then_back digit_value _ b.1.rest r b.4 in
        let read : Parsed Policy = record { value = record { single = a.1.value; pair = b.1.value; invalid = d.1.value }; rest = d.1.rest } in
        let same : read ≡ r = some_eq (return_back read.value read.rest r d.4) in
        let x = digit_back a.0 a.1.value a.3 in
        let y = digit_back b.0 b.1.value b.3 in
        let z = digit_back d.0 d.1.value d.3 in
        let spelled : bytes ≡ digits_of read.value ++ read.rest = cons_eq x.0 a.2 ∙ ap (λ (l : List ℕ). digit_byte a.1.value ∷ l) (cons_eq y.0 b.2 ∙ ap (λ (l : List ℕ). digit_byte b.1.value ∷ l) (cons_eq z.0 d.2)) in
        let good : DecimalDigits read.value = record { single = x.1; pair = y.1; invalid = z.1 } in
        subst (λ (f : Parsed Policy). (bytes ≡ digits_of f.value ++ f.rest) × DecimalDigits f.value) same (spelled, good)

-- what is pending
pair_empty : hex_pair [] ≡ none
unfolding hex_pair
pair_empty = then_none (one hex_value) _ [] (one_empty hex_value)

hex_empty : (direction : Direction) → hex_pending direction [] ≡ none
unfolding hex_pending
hex_empty Decoding = then_none hex_pair _ [] pair_empty
hex_empty Encoding = then_none hex_pair _ [] pair_empty

pair_forth : (byte : ℕ) (rest : List ℕ) → byte < 2 ^ 8 → hex_pair (hex_of byte ++ rest) ≡ got byte rest
unfolding hex_pair
pair_forth byte rest h =
    let e : 16 * (byte / 16) + byte % 16 ≡ byte = omega arith in
    one_then hex_value _ (hex_byte (byte / 16)) (hex_byte (byte % 16) ∷ rest) (byte / 16) (hex_of_lem (byte / 16) (omega arith))
    ∙ one_then hex_value _ (hex_byte (byte % 16)) rest (byte % 16) (hex_of_lem (byte % 16) (omega arith))
    ∙ return_some (16 * (byte / 16) + byte % 16) rest
    ∙ ap (λ (b : ℕ). got b rest) e

pair_back : (bytes : List ℕ) (r : Parsed ℕ) → hex_pair bytes ≡ some r → (bytes ≡ hex_of r.value ++ r.rest) × (r.value < 2 ^ 8)
unfolding hex_pair
pair_back bytes r e =
    let a = one_then_back hex_value _ bytes r e in
    let b = one_then_back hex_value _ a.1.rest r a.4 in
    let byte : ℕ = 16 * a.1.value + b.1.value in
    let read : Parsed ℕ = record { value = byte; rest = b.1.rest } in
    let same : read ≡ r = some_eq (return_back read.value read.rest r b.4) in
    let x = hex_back a.0 a.1.value a.3 in
    let y = hex_back b.0 b.1.value b.3 in
    let high : a.1.value ≡ byte / 16 = omega (arith, y.1) in
    let low : b.1.value ≡ byte % 16 = omega (arith, y.1) in
    let spelled : bytes ≡ hex_of read.value ++ read.rest = cons_eq (x.0 ∙ ap hex_byte high) a.2 ∙ ap (λ (l : List ℕ). hex_byte (byte / 16) ∷ l) (cons_eq (y.0 ∙ ap hex_byte low) b.2) in
    subst (λ (f : Parsed ℕ). (bytes ≡ hex_of f.value ++ f.rest) × (f.value < 2 ^ 8)) same (spelled, omega (arith, x.1, y.1))

-- a byte is pending in a `D` line, a unit in an `E` line
abbrev pub PendingOfLine : Direction → Pending → Type 0
PendingOfLine direction Nothing = Unit {0}
PendingOfLine Decoding (Byte byte) = byte < 2 ^ 8
PendingOfLine Encoding (Byte byte) = ⊥
PendingOfLine Decoding (High unit) = ⊥
PendingOfLine Encoding (High unit) = unit < 2 ^ 16

-- no byte is there: nothing is read as what is pending
pub pending_empty : (direction : Direction) → pending_field direction [] ≡ none
unfolding pending_field
pending_empty direction = else_second (one (is_byte 0x2D Nothing)) (hex_pending direction) [] (one_empty (is_byte 0x2D Nothing)) ∙ hex_empty direction

-- `-`: nothing is pending
pub dash_first : (direction : Direction) (bytes : List ℕ) → pending_field direction (0x2D ∷ bytes) ≡ got Nothing bytes
unfolding pending_field
dash_first direction bytes = else_first (one (is_byte 0x2D Nothing)) (hex_pending direction) (0x2D ∷ bytes) _ (one_some (is_byte 0x2D Nothing) 0x2D bytes Nothing refl)

-- any other byte: hex digits have to follow
pub no_dash : (direction : Direction) (byte : ℕ) (bytes : List ℕ) → (byte ≡ 0x2D → ⊥) → pending_field direction (byte ∷ bytes) ≡ hex_pending direction (byte ∷ bytes)
unfolding pending_field
no_dash direction byte bytes ne = else_second (one (is_byte 0x2D Nothing)) (hex_pending direction) (byte ∷ bytes) (one_none (is_byte 0x2D Nothing) byte bytes (rw (ne_eqb byte 0x2D ne)))

-- a hex digit is no dash
hex_no_dash : (value : ℕ) → value < 16 → hex_byte value ≡ 0x2D → ⊥
hex_no_dash value h z = none_some (ap hex_value (sym z) ∙ hex_of_lem value h)

hex_pending_back : (direction : Direction) (bytes : List ℕ) (r : Parsed Pending) → hex_pending direction bytes ≡ some r → (bytes ≡ pending_of r.value ++ r.rest) × PendingOfLine direction r.value
unfolding hex_pending
hex_pending_back Decoding bytes r e =
    let v = then_back hex_pair _ bytes r e in
    let x = pair_back bytes v.0 v.1 in
    let read : Parsed Pending = record { value = Byte v.0.value; rest = v.0.rest } in
    let same : read ≡ r = some_eq (return_back read.value read.rest r v.2) in
    subst (λ (f : Parsed Pending). (bytes ≡ pending_of f.value ++ f.rest) × PendingOfLine Decoding f.value) same x
hex_pending_back Encoding bytes r e =
    let v = then_back hex_pair _ bytes r e in
    let w = then_back hex_pair _ v.0.rest r v.2 in
    let x = pair_back bytes v.0 v.1 in
    let y = pair_back v.0.rest w.0 w.1 in
    let unit : ℕ = 256 * v.0.value + w.0.value in
    let read : Parsed Pending = record { value = High unit; rest = w.0.rest } in
    let same : read ≡ r = some_eq (return_back read.value read.rest r w.2) in
    let high : v.0.value ≡ unit / 256 = omega (arith, y.1) in
    let low : w.0.value ≡ unit % 256 = omega (arith, y.1) in
    let spelled : bytes ≡ hex_of (unit / 256) ++ (hex_of (unit % 256) ++ w.0.rest) =
    x.0 ∙ ap (λ (l : List ℕ). hex_of v.0.value ++ l) (y.0 ∙ ap (λ (n : ℕ). hex_of n ++ w.0.rest) low) ∙ ap (λ (n : ℕ). hex_of n ++ (hex_of (unit % 256) ++ w.0.rest)) high in
    subst (λ (f : Parsed Pending). (bytes ≡ pending_of f.value ++ f.rest) × PendingOfLine Encoding f.value) same (spelled, omega (arith, x.1, y.1))

-- a byte that stands for a value is the given byte, and the value is the given one
pub is_byte_back : {A : Type 0} (byte b : ℕ) (a v : A) → is_byte byte a b ≡ some v → (b ≡ byte) × (a ≡ v)
is_byte_back byte b a v e =
    let w = pick_some (eqb b byte) a v e in
    (eqb-true b byte w.0, w.1)

pending_back : (direction : Direction) (bytes : List ℕ) (r : Parsed Pending) → pending_field direction bytes ≡ some r → (bytes ≡ pending_of r.value ++ r.rest) × PendingOfLine direction r.value
unfolding pending_field
pending_back direction bytes r e = by_dash (one (is_byte 0x2D Nothing) bytes) refl
  where
    by_dash : (o : Option (Parsed Pending)) → one (is_byte 0x2D Nothing) bytes ≡ o → (bytes ≡ pending_of r.value ++ r.rest) × PendingOfLine direction r.value
    by_dash none q = hex_pending_back direction bytes r (sym (else_second (one (is_byte 0x2D Nothing)) (hex_pending direction) bytes q) ∙ e)
    by_dash (some f) q =
        let same : some f ≡ some r = sym (else_first (one (is_byte 0x2D Nothing)) (hex_pending direction) bytes f q) ∙ e in
        let w = one_back (is_byte 0x2D Nothing) bytes r (q ∙ same) in
        let z = is_byte_back 0x2D w.0 Nothing r.value w.2 in
        subst (λ (v : Pending). (bytes ≡ pending_of v ++ r.rest) × PendingOfLine direction v) z.1 (cons_eq z.0 w.1, tt)

pending_forth : (direction : Direction) (pending : Pending) (rest : List ℕ) → PendingOfLine direction pending → pending_field direction (pending_of pending ++ (tab ∷ rest)) ≡ got pending (tab ∷ rest)
unfolding hex_pending
pending_forth direction Nothing rest g = dash_first direction (tab ∷ rest)
pending_forth Decoding (Byte byte) rest g =
    no_dash Decoding (hex_byte (byte / 16)) (hex_byte (byte % 16) ∷ tab ∷ rest) (hex_no_dash (byte / 16) (omega arith))
    ∙ then_some hex_pair _ (hex_of byte ++ (tab ∷ rest)) byte (tab ∷ rest) (pair_forth byte (tab ∷ rest) g)
    ∙ return_some (Byte byte) (tab ∷ rest)
pending_forth Encoding (Byte byte) rest g = absurd g
pending_forth Decoding (High unit) rest g = absurd g
pending_forth Encoding (High unit) rest g =
    let e : 256 * (unit / 256) + unit % 256 ≡ unit = omega arith in
    let behind : List ℕ = hex_of (unit % 256) ++ (tab ∷ rest) in
    no_dash Encoding (hex_byte (unit / 256 / 16)) (hex_byte (unit / 256 % 16) ∷ behind) (hex_no_dash (unit / 256 / 16) (omega arith))
    ∙ then_some hex_pair _ (hex_of (unit / 256) ++ behind) (unit / 256) behind (pair_forth (unit / 256) behind (omega arith))
    ∙ then_some hex_pair _ behind (unit % 256) (tab ∷ rest) (pair_forth (unit % 256) (tab ∷ rest) (omega arith))
    ∙ return_some (High (256 * (unit / 256) + unit % 256)) (tab ∷ rest)
    ∙ ap (λ (u : ℕ). got (High u) (tab ∷ rest)) e

-- what is pending in a line of its direction is read back, and only that form of it is read
pub pending_reads : (direction : Direction) → Reads (pending_field direction) pending_of (PendingOfLine direction)
pending_reads direction = record { forth = pending_forth direction; back = pending_back direction }

-- a field and its tab
module _ {A : Type 0} {p : Parser A} {written : A → List ℕ} {Good : A → Type 0} (w : Reads p written Good) where
  -- a value and its tab are read back
  pub field_forth : (a : A) (rest : List ℕ) → Good a → field p (field_of (written a) ++ rest) ≡ got a rest
  unfolding field field_of
  field_forth a rest g =
      ap (p >>= λ x. one (is_byte tab x)) (append_assoc (written a) (tab ∷ []) rest)
      ∙ then_some p _ (written a ++ (tab ∷ rest)) a (tab ∷ rest) (w.forth a rest g)
      ∙ one_some (is_byte tab a) tab rest a refl

  -- a field that was read is what is written for its value, with a tab
  pub field_back : (bytes : List ℕ) (r : Parsed A) → field p bytes ≡ some r → (bytes ≡ field_of (written r.value) ++ r.rest) × Good r.value
  unfolding field field_of
  field_back bytes r e =
      let v = then_back p _ bytes r e in
      let y = w.back bytes v.0 v.1 in
      let x = one_back _ v.0.rest r v.2 in
      let z = is_byte_back tab x.0 v.0.value r.value x.2 in
      let spelled : bytes ≡ (written v.0.value ++ (tab ∷ [])) ++ r.rest =
      y.0 ∙ ap (λ (l : List ℕ). written v.0.value ++ l) (cons_eq z.0 x.1) ∙ sym (append_assoc (written v.0.value) (tab ∷ []) r.rest) in
      subst (λ (a : A). (bytes ≡ (written a ++ (tab ∷ [])) ++ r.rest) × Good a) z.1 (spelled, y.1)

-- ---- the closing word
same_true : (a b : List ℕ) → same_bytes a b ≡ true → a ≡ b
same_true [] [] e = refl
same_true [] (y ∷ ys) e = absurd (false≢true e)
same_true (x ∷ xs) [] e = absurd (false≢true e)
same_true (x ∷ xs) (y ∷ ys) e =
    ap (λ (n : ℕ). n ∷ xs) (eqb-true x y (and_left (eqb x y) (same_bytes xs ys) e))
    ∙ ap (λ (l : List ℕ). y ∷ l) (same_true xs ys (and_right (eqb x y) (same_bytes xs ys) e))

-- the word and the line feed are read back
pub closing_forth : (ended : Bool) → closing (closing_of ended) ≡ got ended []
unfolding closing closing_of succeed
closing_forth true = refl
closing_forth false = refl

-- an end that was read is that word and a line feed, with nothing behind it
pub closing_back : (bytes : List ℕ) (r : Parsed Bool) → closing bytes ≡ some r → (bytes ≡ closing_of r.value) × (r.rest ≡ [])
unfolding closing succeed
closing_back bytes r e = by_word (same_bytes bytes (closing_of false)) refl (same_bytes bytes (closing_of true)) refl
  where
    is_word : (ended : Bool) → bytes ≡ closing_of ended → got ended [] ≡ some r → (bytes ≡ closing_of r.value) × (r.rest ≡ [])
    is_word ended q same = (q ∙ ap (λ (f : Parsed Bool). closing_of f.value) (some_eq same), ap (λ (f : Parsed Bool). f.rest) (sym (some_eq same)))

    by_word : (t : Bool) → same_bytes bytes (closing_of false) ≡ t → (u : Bool) → same_bytes bytes (closing_of true) ≡ u → (bytes ≡ closing_of r.value) × (r.rest ≡ [])
    by_word true q u v = is_word false (same_true bytes (closing_of false) q) (rw q at e)
    by_word false q true v = is_word true (same_true bytes (closing_of true) v) (rw (q, v) at e)
    by_word false q false v = absurd (none_some (rw (q, v) at e))
