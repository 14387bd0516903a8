-- Laws of the words of a line: how a loop over their bytes goes on and ends.
use mathlib.Core.Bool.{Bool, true, false, not}
use mathlib.Core.List.{List, [], ◌∷◌}
use mathlib.Core.Option
use mathlib.Core.Option.{Option, none, some}
use mathlib.Core.Path.{◌≡◌, refl, sym, ap, ◌∙◌}
use Prim.Native.Nat.{ℕ, suc, ◌+◌, ◌-◌, ◌*◌, ◌<◌, ◌≤◌}
use native.Mathlib.Numerals.{add-one}
use native.Mathlib.Omega.{arith}
use lib.Dec.{eqb}
use lib.ListN.{length, take, drop, get_or, drop_of_length-le, get_or-eq_default}
use lib.Seq.{drop-cons}
use borrow.Author.Tests.{eq-eqb, ne_eqb, le-leb, lt-leb, eqb-true, eqb-false}
use Rattle.codepage.specs.CodePage.{pick}
use Rattle.checkpoint.specs.Line.{digit_value, hex_value}
use Rattle.std.specs.Prelude.{Some, None, is_some}
use Rattle.std.specs.Prelude as answer
use Rattle.console_script.specs.Words.{first_word, next_at, spelled, limited, answered, plain, number_in, number_at, all_hex, digit_at, byte_at, unit_at}

-- ---- The end of a word
module _ (byte : ℕ) (bytes : List ℕ) where
  word_stop : byte ≡ 0x20 → first_word (byte ∷ bytes) ≡ []
  unfolding first_word
  word_stop e = rw (eq-eqb byte 0x20 e, first_word)

  word_cons : (byte ≡ 0x20 → ⊥) → first_word (byte ∷ bytes) ≡ byte ∷ first_word bytes
  unfolding first_word
  word_cons e = rw (ne_eqb byte 0x20 e, first_word)

word_nil : first_word [] ≡ []
unfolding first_word
word_nil = refl

module _ (line : List ℕ) (i : ℕ) where
  -- the word is over at a space
  pub word_space : i < length line → get_or line i 0 ≡ 0x20 → length (first_word (drop i line)) ≡ 0
  word_space h e = ap (λ (l : List ℕ). length (first_word l)) (drop-cons line i 0 h) ∙ ap length (word_stop _ _ e)

  -- any other byte is one more of the word
  pub word_more : i < length line → (get_or line i 0 ≡ 0x20 → ⊥) → length (first_word (drop i line)) ≡ suc (length (first_word (drop (i + 1) line)))
  word_more h e =
      ap (λ (l : List ℕ). length (first_word l)) (drop-cons line i 0 h)
      ∙ ap length (word_cons _ _ e)
      ∙ ap (λ (k : ℕ). suc (length (first_word (drop k line)))) (sym (add-one i))

  -- and it is over at the line's end
  pub word_over : length line ≤ i → length (first_word (drop i line)) ≡ 0
  word_over h = ap (λ (l : List ℕ). length (first_word l)) (drop_of_length-le line h) ∙ ap length word_nil

-- a word is the front of its line
word_front : (bytes : List ℕ) → take (length (first_word bytes)) bytes ≡ first_word bytes
word_front [] = ap (λ (l : List ℕ). take (length l) []) word_nil ∙ sym word_nil
word_front (byte ∷ bytes) = by_case (word_front bytes) (eqb byte 0x20) refl
  where
    by_case : take (length (first_word bytes)) bytes ≡ first_word bytes → (b : Bool) → eqb byte 0x20 ≡ b
        → take (length (first_word (byte ∷ bytes))) (byte ∷ bytes) ≡ first_word (byte ∷ bytes)
    by_case rest true e =
        let w : first_word (byte ∷ bytes) ≡ [] = word_stop byte bytes (eqb-true byte 0x20 e) in
        ap (λ (l : List ℕ). take (length l) (byte ∷ bytes)) w ∙ sym w
    by_case rest false e =
        let w : first_word (byte ∷ bytes) ≡ byte ∷ first_word bytes = word_cons byte bytes (eqb-false byte 0x20 e) in
        ap (λ (l : List ℕ). take (length l) (byte ∷ bytes)) w ∙ ap (λ (l : List ℕ). byte ∷ l) rest ∙ sym w

module _ (line : List ℕ) (at : ℕ) where
  -- the word at a place, cut from the line by its end
  pub the_word : (end : ℕ) → end ≡ at + length (first_word (drop at line)) → take (end - at) (drop at line) ≡ first_word (drop at line)
  the_word end e =
      let n : end - at ≡ length (first_word (drop at line)) = omega arith in
      ap (λ (k : ℕ). take k (drop at line)) n ∙ word_front (drop at line)

  -- the place behind it
  pub next_word : (end : ℕ) → at ≤ length line → end ≡ at + length (first_word (drop at line)) → end + 1 ≡ next_at line at
  unfolding next_at
  next_word end h e = rw (le-leb at (length line) h, e)

  -- there is none behind the line's end
  pub no_next : length line < at → at ≡ next_at line at
  unfolding next_at
  no_next h = rw (lt-leb at (length line) h)

-- ---- Decimal digits
module _ (value byte : ℕ) (bytes : List ℕ) where
  spelled_cons : (digit : ℕ) → digit_value byte ≡ some digit → spelled value (byte ∷ bytes) ≡ spelled (10 * value + digit) bytes
  unfolding spelled
  spelled_cons digit e = rw (e, spelled)

  spelled_other : digit_value byte ≡ none → spelled value (byte ∷ bytes) ≡ none
  unfolding spelled
  spelled_other e = rw (e, spelled)

spelled_nil : (value : ℕ) → spelled value [] ≡ some value
unfolding spelled
spelled_nil value = refl

module _ (word : List ℕ) (value i : ℕ) where
  -- one turn: a digit more of the number
  pub spelled_turn : (digit : ℕ) → i < length word → digit_value (get_or word i 0) ≡ some digit
      → spelled value (drop i word) ≡ spelled (10 * value + digit) (drop (i + 1) word)
  spelled_turn digit h e =
      ap (spelled value) (drop-cons word i 0 h)
      ∙ spelled_cons value _ _ digit e
      ∙ ap (λ (k : ℕ). spelled (10 * value + digit) (drop k word)) (sym (add-one i))

  spelled_none : i < length word → digit_value (get_or word i 0) ≡ none → spelled value (drop i word) ≡ none
  spelled_none h e = ap (spelled value) (drop-cons word i 0 h) ∙ spelled_other value _ _ e

  spelled_end : length word ≤ i → spelled value (drop i word) ≡ some value
  spelled_end h = ap (spelled value) (drop_of_length-le word h) ∙ spelled_nil value

-- ---- What is read, as a function answers it
module _ {A : Type 0} where
  pub answered_none : (o : Option A) → ◌≡◌ {A = answer.Option A} None (answered o) → o ≡ none
  answered_none none e = refl
  answered_none (some x) e = absurd (cc)

  pub answered_some : (o : Option A) (x : A) → ◌≡◌ {A = answer.Option A} (Some x) (answered o) → o ≡ some x
  answered_some none x e = absurd (cc)
  answered_some (some y) x e = cc

module _ (limit : ℕ) where
  at_most : (value : ℕ) → value ≤ limit → limited limit (some value) ≡ some value
  unfolding limited
  at_most value h = rw (le-leb value limit h)

  over_most : (value : ℕ) → limit < value → limited limit (some value) ≡ none
  unfolding limited
  over_most value h = rw (lt-leb value limit h)

  none_most : limited limit none ≡ none
  unfolding limited
  none_most = refl

  -- digits behind a number over the limit do not bring it back
  over_limit : (value : ℕ) (bytes : List ℕ) → limit < value → limited limit (spelled value bytes) ≡ none
  over_limit value [] h = ap (limited limit) (spelled_nil value) ∙ over_most value h
  over_limit value (byte ∷ bytes) h = by_case (λ digit. over_limit (10 * value + digit) bytes (omega arith)) (digit_value byte) refl
    where
      by_case : ((digit : ℕ) → limited limit (spelled (10 * value + digit) bytes) ≡ none) → (o : Option ℕ) → digit_value byte ≡ o
          → limited limit (spelled value (byte ∷ bytes)) ≡ none
      by_case more none q = ap (limited limit) (spelled_other value byte bytes q) ∙ none_most
      by_case more (some digit) q = ap (limited limit) (spelled_cons value byte bytes digit q) ∙ more digit

  -- one turn: a digit that brings the number over the limit
  pub over_turn : (word : List ℕ) (value i digit : ℕ) → i < length word → digit_value (get_or word i 0) ≡ some digit → limit < 10 * value + digit
      → limited limit (spelled value (drop i word)) ≡ none
  over_turn word value i digit h e k = ap (limited limit) (spelled_turn word value i digit h e) ∙ over_limit (10 * value + digit) (drop (i + 1) word) k

  -- one turn: a byte that is no digit
  pub none_turn : (word : List ℕ) (value i : ℕ) → i < length word → digit_value (get_or word i 0) ≡ none → limited limit (spelled value (drop i word)) ≡ none
  none_turn word value i h e = ap (limited limit) (spelled_none word value i h e) ∙ none_most

  -- the end: all digits are read, and the number is within the limit
  pub end_turn : (word : List ℕ) (value i : ℕ) → length word ≤ i → value ≤ limit → limited limit (spelled value (drop i word)) ≡ some value
  end_turn word value i h k = ap (limited limit) (spelled_end word value i h) ∙ at_most value k

  -- ---- A number's word
  number_bad : (word : List ℕ) → limited limit (spelled 0 word) ≡ none → number_in limit word ≡ none
  unfolding number_in
  number_bad word e = by_case (plain word)
    where
      by_case : (b : Bool) → pick b (limited limit (spelled 0 word)) none ≡ none
      by_case true = e
      by_case false = refl

  number_spare : (word : List ℕ) → plain word ≡ false → number_in limit word ≡ none
  unfolding number_in
  number_spare word e = rw e

  number_good : (word : List ℕ) (value : ℕ) → limited limit (spelled 0 word) ≡ some value → plain word ≡ true → number_in limit word ≡ some value
  unfolding number_in
  number_good word value e p = rw (p, e)

  module _ (line : List ℕ) (at : ℕ) where
    -- no word is at a place behind the line's end
    pub no_number : length line < at → ◌≡◌ {A = answer.Option ℕ} None (answered (number_at limit line at))
    unfolding number_at
    no_number h = rw (lt-leb at (length line) h)

    module _ (word : List ℕ) (inside : at ≤ length line) (is : word ≡ first_word (drop at line)) where
      found : (o : Option ℕ) → number_in limit word ≡ o → number_at limit line at ≡ o
      unfolding number_at
      found o e = rw (le-leb at (length line) inside, ← is, e)

      -- a word with a byte that is no digit, or over the limit: no number
      pub not_digits : ◌≡◌ {A = answer.Option ℕ} None (answered (limited limit (spelled 0 word))) → ◌≡◌ {A = answer.Option ℕ} None (answered (number_at limit line at))
      not_digits e = rw (found none (number_bad word (answered_none _ e)))

      -- a word that is empty or has a spare zero: no number
      pub not_plain : false ≡ plain word → ◌≡◌ {A = answer.Option ℕ} None (answered (number_at limit line at))
      not_plain e = rw (found none (number_spare word (sym e)))

      -- a word that is a number within the limit: its value
      pub is_number : (value : ℕ) → ◌≡◌ {A = answer.Option ℕ} (Some value) (answered (limited limit (spelled 0 word))) → true ≡ plain word
          → ◌≡◌ {A = answer.Option ℕ} (Some value) (answered (number_at limit line at))
      is_number value e p = rw (found (some value) (number_good word value (answered_some _ value e) (sym p)))

-- ---- A test whether there is a value
module _ {A : Type 0} {r : answer.Option A} {t : Bool} (o : Option A) where
  pub none_by_test : r ≡ answered o → is_some r ≡ not t → t ≡ true → o ≡ none
  none_by_test e f h = by_case o refl
    where
      by_case : (p : Option A) → o ≡ p → o ≡ none
      by_case none q = q
      by_case (some x) q =
          let one : is_some r ≡ true = ap is_some e ∙ ap (λ (p : Option A). is_some (answered p)) q in
          let other : is_some r ≡ false = f ∙ ap not h in
          absurd (cc)

  pub some_by_test : {P : Type 0} → r ≡ answered o → is_some r ≡ not t → t ≡ false → ((x : A) → o ≡ some x → P) → P
  some_by_test {P} e f h then = by_case o refl
    where
      by_case : (p : Option A) → o ≡ p → P
      by_case none q =
          let one : is_some r ≡ false = ap is_some e ∙ ap (λ (p : Option A). is_some (answered p)) q in
          let other : is_some r ≡ true = f ∙ ap not h in
          absurd (cc)
      by_case (some x) q = then x q

-- ---- Hex digits
module _ (byte : ℕ) (bytes : List ℕ) where
  hex_cons : (value : ℕ) → hex_value byte ≡ some value → all_hex (byte ∷ bytes) ≡ all_hex bytes
  unfolding all_hex
  hex_cons value e = rw (e, all_hex)

  hex_other : hex_value byte ≡ none → all_hex (byte ∷ bytes) ≡ false
  unfolding all_hex
  hex_other e = rw (e, all_hex)

hex_nil : all_hex [] ≡ true
unfolding all_hex
hex_nil = refl

module _ (word : List ℕ) (i : ℕ) where
  -- one turn: a hex digit; the rest decides
  pub hex_turn : (value : ℕ) → i < length word → hex_value (get_or word i 0) ≡ some value → all_hex (drop i word) ≡ all_hex (drop (i + 1) word)
  hex_turn value h e = ap all_hex (drop-cons word i 0 h) ∙ hex_cons _ _ value e ∙ ap (λ (k : ℕ). all_hex (drop k word)) (sym (add-one i))

  -- one turn: a byte that is no hex digit
  pub hex_stop : i < length word → hex_value (get_or word i 0) ≡ none → all_hex (drop i word) ≡ false
  hex_stop h e = ap all_hex (drop-cons word i 0 h) ∙ hex_other _ _ e

  -- the end: all were hex digits
  pub hex_end : length word ≤ i → all_hex (drop i word) ≡ true
  hex_end h = ap all_hex (drop_of_length-le word h) ∙ hex_nil

module _ (digits : List ℕ) (place : ℕ) where
  -- the value of the digit at a place, with 0 for none
  pub digit_read : {r : answer.Option ℕ} {value : ℕ} → r ≡ answered (hex_value (get_or digits place 0)) → value ≡ answer.unwrap_or r 0 → value ≡ digit_at digits place
  unfolding digit_at
  digit_read e f = f ∙ ap (λ (o : answer.Option ℕ). answer.unwrap_or o 0) e ∙ by_case (hex_value (get_or digits place 0))
    where
      by_case : (o : Option ℕ) → answer.unwrap_or (answered o) 0 ≡ Option.get_or o 0
      by_case none = refl
      by_case (some v) = refl

  -- behind the last digit it is 0
  pub digit_out : length digits ≤ place → 0 ≡ digit_at digits place
  unfolding digit_at
  digit_out h = ap (λ (byte : ℕ). Option.get_or (hex_value byte) 0) (sym (get_or-eq_default digits 0 h))

  -- a byte is two digits, the high one first
  pub byte_of : (high low : ℕ) → high ≡ digit_at digits (2 * place) → low ≡ digit_at digits (2 * place + 1) → 16 * high + low ≡ byte_at digits place
  unfolding byte_at
  byte_of high low e f = omega (arith, e, f)

  -- a unit is two bytes, the high one first
  pub unit_of : (high low : ℕ) → high ≡ byte_at digits (2 * place) → low ≡ byte_at digits (2 * place + 1) → 256 * high + low ≡ unit_at digits place
  unfolding unit_at
  unit_of high low e f = omega (arith, e, f)
