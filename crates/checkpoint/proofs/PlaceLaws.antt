-- Laws of reading at a place of a line.
use mathlib.Core.Bool.{Bool, true, false, ◌&&◌}
use mathlib.Core.List.{List, [], ◌∷◌}
use mathlib.Core.Option.{Option, none, some}
use mathlib.Core.Path.{◌≡◌, refl, sym, ap, ◌∙◌}
use Prim.Native.Nat.{ℕ, suc, ◌+◌, ◌*◌, ◌<◌, ◌≤◌}
use native.Mathlib.Numerals.{add-one}
use native.Mathlib.Omega.{arith}
use lib.Dec.{leb, eqb}
use lib.ListN.{length, get_or, drop, drop_of_length-le}
use lib.Seq.{drop-cons, drop-length}
use borrow.Author.Tests.{le-leb, lt-leb, eq-eqb, ne_eqb, leb-true, leb-false}
use Rattle.engine.specs.declared.Direction.{Direction}
use Rattle.convert.specs.declared.Pending.TheVariants.{Nothing}
use Rattle.std.specs.declared.option.Option.{Option as Answer}
use Rattle.std.specs.declared.option.Option.TheVariants.{None}
use Rattle.checkpoint.specs.declared.reader.Found.{Found}
use Rattle.checkpoint.specs.Line.{tab, Parsed, Parser, succeed, ◌>>=◌, one, is_byte, digit_value, more_digits, number, pending_field, hex_pending, field, closing_of, same_bytes, closing}
use Rattle.checkpoint.specs.Places.{from, read_at, found_at, found, at_most, up_to}
use Rattle.checkpoint.proofs.ParserLaws.{got, none_some, then_some, then_none, one_some, one_none, one_empty, digit_back, return_some, pending_empty, dash_first, no_dash, more_digit, more_other, more_end, number_empty, number_zero, number_first, number_none}

-- ---- places
module _ (line : List ℕ) (place : ℕ) where
  pub from_in : place ≤ length line → from line place ≡ some (drop place line)
  unfolding from
  from_in h = rw (le-leb place (length line) h)

  pub from_out : length line < place → from line place ≡ none
  unfolding from
  from_out h = rw (lt-leb place (length line) h)

  pub from_cons : place < length line → from line place ≡ some (get_or line place 0 ∷ drop (place + 1) line)
  from_cons h = from_in (omega arith) ∙ ap some (drop-cons line place 0 h ∙ rw (add-one place))

  module _ {A : Type 0} (p : Parser A) where
    pub read_from : (rest : List ℕ) → from line place ≡ some rest → read_at p line place ≡ p rest
    unfolding read_at
    read_from rest e = rw (e, read_at)

    pub read_nowhere : from line place ≡ none → read_at p line place ≡ none
    unfolding read_at
    read_nowhere e = rw (e, read_at)

    -- a place within the line: the parser reads what is from there on
    pub read_in : place ≤ length line → read_at p line place ≡ p (drop place line)
    read_in h = read_from (drop place line) (from_in h)

    -- a place behind the line: nothing is read
    pub read_out : length line < place → read_at p line place ≡ none
    read_out h = read_nowhere (from_out h)

    pub read_cons : place < length line → read_at p line place ≡ p (get_or line place 0 ∷ drop (place + 1) line)
    read_cons h = read_from (get_or line place 0 ∷ drop (place + 1) line) (from_cons h)

    -- a parser that reads nothing from no bytes finds nothing at the end
    pub read_end : p [] ≡ none → length line ≤ place → read_at p line place ≡ none
    read_end e h = by_end (leb place (length line)) refl
      where
        by_end : (t : Bool) → leb place (length line) ≡ t → read_at p line place ≡ none
        by_end true q = read_in (leb-true _ _ q) ∙ ap p (drop_of_length-le line h) ∙ e
        by_end false q = read_out (leb-false _ _ q)

  -- a value found up to a place in the line: the bytes from that place on are left
  pub found_in : {A : Type 0} (a : A) → place ≤ length line → found_at a line place ≡ got a (drop place line)
  found_in a h = read_in (succeed a) h ∙ return_some a (drop place line)

-- ---- one parser, then another
module _ {A B : Type 0} (p : Parser A) (k : A → Parser B) (line : List ℕ) (at next : ℕ) (a : A) where
  -- where p finds a value, the next parser goes on behind it
  pub read_then : found_at a line next ≡ read_at p line at → read_at (p >>= k) line at ≡ read_at (k a) line next
  read_then e = by_place (from line at) refl (from line next) refl
    where
      by_place : (o : Option (List ℕ)) → from line at ≡ o → (u : Option (List ℕ)) → from line next ≡ u → read_at (p >>= k) line at ≡ read_at (k a) line next
      by_place none q none v = read_nowhere line at (p >>= k) q ∙ sym (read_nowhere line next (k a) v)
      by_place none q (some l) v = absurd (none_some (sym (read_nowhere line at p q) ∙ sym e ∙ read_from line next (succeed a) l v ∙ return_some a l))
      by_place (some r) q none v =
          read_from line at (p >>= k) r q
          ∙ then_none p k r (sym (read_from line at p r q) ∙ sym e ∙ read_nowhere line next (succeed a) v)
          ∙ sym (read_nowhere line next (k a) v)
      by_place (some r) q (some l) v =
          read_from line at (p >>= k) r q
          ∙ then_some p k r a l (sym (read_from line at p r q) ∙ sym e ∙ read_from line next (succeed a) l v ∙ return_some a l)
          ∙ sym (read_from line next (k a) l v)

pub read_then_none : {A B : Type 0} (p : Parser A) (k : A → Parser B) (line : List ℕ) (at : ℕ) → read_at p line at ≡ none → read_at (p >>= k) line at ≡ none
read_then_none p k line at e = by_place (from line at) refl
  where
    by_place : (o : Option (List ℕ)) → from line at ≡ o → read_at (p >>= k) line at ≡ none
    by_place none q = read_nowhere line at (p >>= k) q
    by_place (some r) q = read_from line at (p >>= k) r q ∙ then_none p k r (sym (read_from line at p r q) ∙ e)

-- ---- one byte
module _ {A : Type 0} (means : ℕ → Option A) (line : List ℕ) (at : ℕ) where
  -- no byte at the place, behind the end: none
  pub byte_end : length line ≤ at → read_at (one means) line at ≡ none
  byte_end h = read_end line at (one means) (one_empty means) h

  -- the byte at the place means nothing: none
  pub byte_none : at < length line → means (get_or line at 0) ≡ none → read_at (one means) line at ≡ none
  byte_none h e = read_cons line at (one means) h ∙ one_none means (get_or line at 0) (drop (at + 1) line) e

  -- the byte at the place means a value: it is found, and the place is one on
  pub byte_some : (a : A) → at < length line → means (get_or line at 0) ≡ some a → found_at a line (at + 1) ≡ read_at (one means) line at
  byte_some a h e =
      found_in line (at + 1) a (omega arith)
      ∙ sym (one_some means (get_or line at 0) (drop (at + 1) line) a e)
      ∙ sym (read_cons line at (one means) h)

-- nothing is found
pub nothing : {A : Type 0} (line : List ℕ) (o : Answer (Found A)) (x : Option (Parsed A)) → o ≡ None → x ≡ none → found line o ≡ x
nothing line o x e f = ap (found line) e ∙ sym f

-- ---- a field and its tab
module _ {A : Type 0} (p : Parser A) (line : List ℕ) (at : ℕ) where
  -- a value was found: what is read as the tab behind it is the field
  pub field_found : (a : A) (mid : ℕ) (o : Option (Parsed A)) → found_at a line mid ≡ read_at p line at → o ≡ read_at (one (is_byte tab a)) line mid → o ≡ read_at (field p) line at
  unfolding field
  field_found a mid o e q = q ∙ sym (read_then p (λ x. one (is_byte tab x)) line at mid a e)

  -- no value is there: no field is
  pub field_none : read_at p line at ≡ none → read_at (field p) line at ≡ none
  unfolding field
  field_none e = read_then_none p (λ x. one (is_byte tab x)) line at e

-- ---- what is pending
module _ (direction : Direction) (line : List ℕ) (at : ℕ) where
  -- the line has ended: nothing is read as what is pending
  pub pending_end : length line ≤ at → read_at (pending_field direction) line at ≡ none
  pending_end h = read_end line at (pending_field direction) (pending_empty direction) h

  -- `-` at the place: nothing is pending, and the place is one on
  pub pending_dash : at < length line → get_or line at 0 ≡ 0x2D → found_at Nothing line (at + 1) ≡ read_at (pending_field direction) line at
  pending_dash h e =
      found_in line (at + 1) Nothing (omega arith)
      ∙ sym (dash_first direction (drop (at + 1) line))
      ∙ ap (λ (b : ℕ). pending_field direction (b ∷ drop (at + 1) line)) (sym e)
      ∙ sym (read_cons line at (pending_field direction) h)

  -- another byte at the place: hex digits have to follow
  pub pending_hex : at < length line → (get_or line at 0 ≡ 0x2D → ⊥) → read_at (pending_field direction) line at ≡ read_at (hex_pending direction) line at
  pending_hex h e = read_cons line at (pending_field direction) h ∙ no_dash direction (get_or line at 0) (drop (at + 1) line) e ∙ sym (read_cons line at (hex_pending direction) h)

-- ---- numbers up to a limit
-- two parsers that give the same are followed by the next one alike
pub same_then : {A B : Type 0} (p q : Parser A) (k : A → Parser B) (bytes rest : List ℕ) → p bytes ≡ q rest → (p >>= k) bytes ≡ (q >>= k) rest
same_then {A} p q k bytes rest e = by_case (q rest) refl
  where
    by_case : (o : Option (Parsed A)) → q rest ≡ o → (p >>= k) bytes ≡ (q >>= k) rest
    by_case none u = then_none p k bytes (e ∙ u) ∙ sym (then_none q k rest u)
    by_case (some r) u = then_some p k bytes r.value r.rest (e ∙ u) ∙ sym (then_some q k rest r.value r.rest u)

module _ (limit : ℕ) where
  -- a number within the limit is read
  pub at_most_lem : (n : ℕ) (bytes : List ℕ) → n ≤ limit → at_most limit n bytes ≡ got n bytes
  unfolding at_most
  at_most_lem n bytes h = rw (le-leb n limit h) (return_some n bytes)

  -- a number over the limit is not
  pub over_most : (n : ℕ) (bytes : List ℕ) → limit < n → at_most limit n bytes ≡ none
  unfolding at_most
  over_most n bytes h = rw (lt-leb n limit h)

  -- the parser's own value, if it is at most the limit
  up_to_lem : (p : Parser ℕ) (bytes : List ℕ) (n : ℕ) (rest : List ℕ) → p bytes ≡ got n rest → n ≤ limit → up_to limit p bytes ≡ got n rest
  unfolding up_to
  up_to_lem p bytes n rest e h = then_some p (at_most limit) bytes n rest e ∙ at_most_lem n rest h

  -- digits behind a number over the limit do not bring it back
  over_limit : (value : ℕ) (bytes : List ℕ) → limit < value → up_to limit (more_digits value) bytes ≡ none
  unfolding up_to
  over_limit value [] h = then_some (more_digits value) (at_most limit) [] value [] (more_end value) ∙ over_most value [] h
  over_limit value (byte ∷ bytes) h = by_case (λ digit. over_limit (10 * value + digit) bytes (omega arith)) (digit_value byte) refl
    where
      by_case : ((digit : ℕ) → (more_digits (10 * value + digit) >>= at_most limit) bytes ≡ none) → (o : Option ℕ) → digit_value byte ≡ o
          → (more_digits value >>= at_most limit) (byte ∷ bytes) ≡ none
      by_case more none q = then_some (more_digits value) (at_most limit) (byte ∷ bytes) value (byte ∷ bytes) (more_other value byte bytes q) ∙ over_most value (byte ∷ bytes) h
      by_case more (some digit) q = same_then (more_digits value) (more_digits (10 * value + digit)) (at_most limit) (byte ∷ bytes) bytes (more_digit value byte bytes digit q) ∙ more digit

  module _ (line : List ℕ) where
    -- a turn of the loop over digits, and its ends
    pub digits_turn : (value i digit : ℕ) → i < length line → digit_value (get_or line i 0) ≡ some digit
        → read_at (up_to limit (more_digits value)) line i ≡ read_at (up_to limit (more_digits (10 * value + digit))) line (i + 1)
    unfolding up_to
    digits_turn value i digit h e =
        read_cons line i (up_to limit (more_digits value)) h
        ∙ same_then (more_digits value) (more_digits (10 * value + digit)) (at_most limit) _ (drop (i + 1) line) (more_digit value (get_or line i 0) (drop (i + 1) line) digit e)
        ∙ sym (read_in line (i + 1) (up_to limit (more_digits (10 * value + digit))) (omega arith))

    -- a byte that is no digit ends the number, if it is within the limit
    pub digits_stop : (value i : ℕ) → i < length line → value ≤ limit → digit_value (get_or line i 0) ≡ none
        → found_at value line i ≡ read_at (up_to limit (more_digits value)) line i
    digits_stop value i h k e =
        read_cons line i (succeed value) h ∙ return_some value _
        ∙ sym (up_to_lem (more_digits value) _ value _ (more_other value (get_or line i 0) (drop (i + 1) line) e) k)
        ∙ sym (read_cons line i (up_to limit (more_digits value)) h)

    -- the end of the line ends the number, if it is within the limit
    pub digits_end : (value i : ℕ) → length line ≤ i → i ≤ length line → value ≤ limit
        → found_at value line i ≡ read_at (up_to limit (more_digits value)) line i
    digits_end value i l h k =
        let e : drop i line ≡ [] = drop_of_length-le line l in
        found_in line i value h
        ∙ ap (got value) e
        ∙ sym (up_to_lem (more_digits value) [] value [] (more_end value) k)
        ∙ ap (up_to limit (more_digits value)) (sym e)
        ∙ sym (read_in line i (up_to limit (more_digits value)) h)

    -- a number over the limit is not read, whatever follows
    pub digits_over : (value i : ℕ) → i ≤ length line → limit < value → read_at (up_to limit (more_digits value)) line i ≡ none
    digits_over value i h k = read_in line i (up_to limit (more_digits value)) h ∙ over_limit value (drop i line) k

    -- at the end of the line no number is read
    pub limited_end : (at : ℕ) → length line ≤ at → read_at (up_to limit number) line at ≡ none
    unfolding up_to
    limited_end at h = read_then_none number (at_most limit) line at (read_end line at number number_empty h)

    -- where no digit stands no number is read
    pub limited_none : (at : ℕ) → at < length line → digit_value (get_or line at 0) ≡ none → read_at (up_to limit number) line at ≡ none
    unfolding up_to
    limited_none at h e = read_then_none number (at_most limit) line at (read_cons line at number h ∙ number_none (get_or line at 0) (drop (at + 1) line) e)

    -- a first digit 0 is the whole number
    pub limited_zero : (at : ℕ) → at < length line → digit_value (get_or line at 0) ≡ some 0 → found_at 0 line (at + 1) ≡ read_at (up_to limit number) line at
    limited_zero at h e =
        found_in line (at + 1) 0 (omega arith)
        ∙ sym (up_to_lem number _ 0 _ (number_zero (drop (at + 1) line)) (omega arith))
        ∙ ap (λ (b : ℕ). up_to limit number (b ∷ drop (at + 1) line)) (sym (digit_back (get_or line at 0) 0 e).0)
        ∙ sym (read_cons line at (up_to limit number) h)

    -- another first digit: the digits behind it belong to the number
    pub limited_first : (at digit : ℕ) → at < length line → digit_value (get_or line at 0) ≡ some digit → 1 ≤ digit
        → read_at (up_to limit number) line at ≡ read_at (up_to limit (more_digits digit)) line (at + 1)
    unfolding up_to
    limited_first at digit h e k =
        read_cons line at (up_to limit number) h
        ∙ same_then number (more_digits digit) (at_most limit) _ (drop (at + 1) line) (number_first (get_or line at 0) (drop (at + 1) line) digit e k)
        ∙ sym (read_in line (at + 1) (up_to limit (more_digits digit)) (omega arith))

-- ---- the closing word
-- lists of different lengths are not the same bytes
pub same_false : (a b : List ℕ) → (length a ≡ length b → ⊥) → same_bytes a b ≡ false
same_false [] [] e = absurd (e refl)
same_false [] (y ∷ ys) e = refl
same_false (x ∷ xs) [] e = refl
same_false (x ∷ xs) (y ∷ ys) e = rw (same_false xs ys (λ q. e (ap suc q))) (and_false (eqb x y))
  where
    and_false : (t : Bool) → (t && false) ≡ false
    and_false true = refl
    and_false false = refl

module _ (line word : List ℕ) (at : ℕ) where
  same_cons : (i : ℕ) → at + i < length line → i < length word
      → same_bytes (drop (at + i) line) (drop i word) ≡ (eqb (get_or line (at + i) 0) (get_or word i 0) && same_bytes (drop (at + (i + 1)) line) (drop (i + 1) word))
  same_cons i h k =
      let e : at + (i + 1) ≡ suc (at + i) = omega arith in
      rw (drop-cons line (at + i) 0 h, drop-cons word i 0 k, e, add-one i)

  -- a byte of the line is the word's: what is left of both is compared
  pub word_turn : (i : ℕ) (t : Bool) → t ≡ same_bytes (drop (at + i) line) (drop i word) → at + i < length line → i < length word → get_or line (at + i) 0 ≡ get_or word i 0
      → t ≡ same_bytes (drop (at + (i + 1)) line) (drop (i + 1) word)
  word_turn i t e h k q = e ∙ same_cons i h k ∙ rw (eq-eqb (get_or line (at + i) 0) (get_or word i 0) q)

  -- a byte of the line is not the word's: they are not the same
  pub word_differs : (i : ℕ) (t : Bool) → t ≡ same_bytes (drop (at + i) line) (drop i word) → at + i < length line → i < length word → (get_or line (at + i) 0 ≡ get_or word i 0 → ⊥)
      → t ≡ false
  word_differs i t e h k q = e ∙ same_cons i h k ∙ rw (ne_eqb (get_or line (at + i) 0) (get_or word i 0) q)

  -- line and word end together: they are the same
  pub word_end : (i : ℕ) (t : Bool) → t ≡ same_bytes (drop (at + i) line) (drop i word) → length line ≤ at + i → length word ≤ i → t ≡ true
  word_end i t e h k = e ∙ rw (drop_of_length-le line h, drop_of_length-le word k)

module _ (line : List ℕ) (at : ℕ) where
  -- the place is behind the line: no end is read
  pub closing_out : length line < at → read_at closing line at ≡ none
  closing_out h = read_out line at closing h

  -- the rest of the line is `on` and a line feed: the run goes on
  pub closing_on : at ≤ length line → same_bytes (drop at line) (closing_of false) ≡ true → found_at false line (length line) ≡ read_at closing line at
  unfolding closing
  closing_on h e = found_in line (length line) false (omega arith) ∙ ap (got false) (drop-length line) ∙ sym (read_in line at closing h ∙ rw e (return_some false []))

  -- the rest of the line is `over` and a line feed: the run has ended
  pub closing_over : at ≤ length line → same_bytes (drop at line) (closing_of false) ≡ false → same_bytes (drop at line) (closing_of true) ≡ true → found_at true line (length line) ≡ read_at closing line at
  unfolding closing
  closing_over h e f = found_in line (length line) true (omega arith) ∙ ap (got true) (drop-length line) ∙ sym (read_in line at closing h ∙ rw (e, f) (return_some true []))

  -- the rest of the line is neither: no end is read
  pub closing_none : at ≤ length line → same_bytes (drop at line) (closing_of false) ≡ false → same_bytes (drop at line) (closing_of true) ≡ false → read_at closing line at ≡ none
  unfolding closing
  closing_none h e f = read_in line at closing h ∙ rw (e, f)
