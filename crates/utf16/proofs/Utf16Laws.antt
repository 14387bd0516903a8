-- Laws of units as bytes: lengths, places, and that each undoes the other.
use mathlib.Core.List.{List, [], ◌∷◌, ◌++◌}
use mathlib.Core.Path.{◌≡◌, refl, sym, ap, ◌∙◌}
use Prim.Native.Nat.{ℕ, zero, suc, ◌+◌, ◌*◌, ◌/◌, ◌%◌, ◌≤◌, ◌<◌, min}
use native.Mathlib.Numerals.{add-one}
use native.Mathlib.Omega.{arith}
use lib.ListN.{length, get_or, take, drop, set, length-take}
use lib.Seq.{drop-nil, drop-cons, set_at, append_snoc, take-suc, take-length, length-take-le, get_or-take}
use Rattle.codepage.specs.Lent.{over}
use Rattle.utf16.specs.Utf16.{utf16_bytes, utf16_units, LaidOver}

-- ---- a loop that lays elements over a buffer
module _ (elements before : List ℕ) where
  -- one turn: the next element takes its place
  pub lay_turn : (table : List ℕ) (i value : ℕ) → table ≡ take i elements ++ drop i before → i < length elements → i < length before → value ≡ get_or elements i 0
      → set table i value ≡ take (i + 1) elements ++ drop (i + 1) before
  lay_turn table i value so_far h k e =
      ap (λ (l : List ℕ). set l i value) so_far
      ∙ ap (λ (r : List ℕ). set (take i elements ++ r) i value) (drop-cons before i 0 k)
      ∙ set_at (take i elements) (get_or before i 0) (drop (suc i) before) value i (length-take-le i elements (omega arith))
      ∙ sym (append_snoc (take i elements) value (drop (suc i) before))
      ∙ ap (λ (x : ℕ). (take i elements ++ (x ∷ [])) ++ drop (suc i) before) e
      ∙ ap (λ (r : List ℕ). r ++ drop (suc i) before) (sym (take-suc elements i 0 h))
      ∙ ap (λ (n : ℕ). take n elements ++ drop n before) (sym (add-one i))

  -- the end: all elements are laid over the buffer, and their number is the answer
  pub lay_end : (table : List ℕ) (i r : ℕ) → table ≡ take i elements ++ drop i before → i ≡ length elements → r ≡ length elements → LaidOver elements before table r
  unfolding over
  lay_end table i r so_far e size =
      record {
        lent =
            so_far
            ∙ ap (λ (n : ℕ). take n elements ++ drop n before) e
            ∙ ap (λ (l : List ℕ). l ++ drop (length elements) before) (take-length elements);
        size = size;
      }

-- ---- the bytes of units
pub bytes_length : (units : List ℕ) → length (utf16_bytes units) ≡ 2 * length units
unfolding utf16_bytes
bytes_length [] = refl
bytes_length (unit ∷ units) = let h : length (utf16_bytes units) ≡ 2 * length units = bytes_length units in omega arith

pub low_byte : (units : List ℕ) (i : ℕ) → i < length units → get_or units i 0 % 256 ≡ get_or (utf16_bytes units) (2 * i) 0
unfolding utf16_bytes
low_byte [] i h = omega arith
low_byte (unit ∷ units) zero h = refl
low_byte (unit ∷ units) (suc i) h =
    let e : 2 * suc i ≡ suc (suc (2 * i)) = omega arith in
    low_byte units i (omega arith) ∙ ap (λ (n : ℕ). get_or ((unit % 256) ∷ (unit / 256) ∷ utf16_bytes units) n 0) (sym e)

pub high_byte : (units : List ℕ) (i : ℕ) → i < length units → get_or units i 0 / 256 ≡ get_or (utf16_bytes units) (2 * i + 1) 0
unfolding utf16_bytes
high_byte [] i h = omega arith
high_byte (unit ∷ units) zero h = refl
high_byte (unit ∷ units) (suc i) h =
    let e : 2 * suc i + 1 ≡ suc (suc (2 * i + 1)) = omega arith in
    high_byte units i (omega arith) ∙ ap (λ (n : ℕ). get_or ((unit % 256) ∷ (unit / 256) ∷ utf16_bytes units) n 0) (sym e)

-- as many units as fit a room
module _ (units : List ℕ) (room count : ℕ) (fitting : count ≡ min (length units) (room / 2)) where
  -- they are twice as many bytes
  pub fitting_bytes : length (utf16_bytes (take (room / 2) units)) ≡ 2 * count
  fitting_bytes = bytes_length (take (room / 2) units) ∙ ap (λ (n : ℕ). 2 * n) (length-take (room / 2) units ∙ omega arith)

  -- the low half of a unit is at twice its place
  pub fitting_low : (i : ℕ) → i < count → get_or units i 0 % 256 ≡ get_or (utf16_bytes (take (room / 2) units)) (2 * i) 0
  fitting_low i h =
      ap (λ (n : ℕ). n % 256) (sym (get_or-take (room / 2) units i 0 (omega arith)))
      ∙ low_byte (take (room / 2) units) i (omega (arith, length-take (room / 2) units))

  -- the high half is one place behind it
  pub fitting_high : (i : ℕ) → i < count → get_or units i 0 / 256 ≡ get_or (utf16_bytes (take (room / 2) units)) (2 * i + 1) 0
  fitting_high i h =
      ap (λ (n : ℕ). n / 256) (sym (get_or-take (room / 2) units i 0 (omega arith)))
      ∙ high_byte (take (room / 2) units) i (omega (arith, length-take (room / 2) units))

-- a turn that lays two bytes
pub two_turn : (elements before table : List ℕ) (i count low high : ℕ) → table ≡ take (2 * i) elements ++ drop (2 * i) before
    → i < count → length elements ≡ 2 * count → 2 * count ≤ length before → low ≡ get_or elements (2 * i) 0 → high ≡ get_or elements (2 * i + 1) 0
    → set (set table (2 * i) low) (2 * i + 1) high ≡ take (2 * (i + 1)) elements ++ drop (2 * (i + 1)) before
two_turn elements before table i count low high so_far h size room l r =
    let next : 2 * i + 1 + 1 ≡ 2 * (i + 1) = omega arith in
    lay_turn elements before (set table (2 * i) low) (2 * i + 1) high
    (lay_turn elements before table (2 * i) low so_far (omega arith) (omega arith) l) (omega arith) (omega arith) r
    ∙ ap (λ (n : ℕ). take n elements ++ drop n before) next

-- ---- the units of bytes
pub units_length : (bytes : List ℕ) → length (utf16_units bytes) ≡ length bytes / 2
unfolding utf16_units
units_length [] = refl
units_length (low ∷ []) = refl
units_length (low ∷ high ∷ bytes) = let h : length (utf16_units bytes) ≡ length bytes / 2 = units_length bytes in omega arith

pub unit_at_lem : (bytes : List ℕ) (i : ℕ) → i < length (utf16_units bytes) → get_or bytes (2 * i) 0 + 256 * get_or bytes (2 * i + 1) 0 ≡ get_or (utf16_units bytes) i 0
unfolding utf16_units
unit_at_lem [] i h = omega arith
unit_at_lem (low ∷ []) i h = omega arith
unit_at_lem (low ∷ high ∷ bytes) zero h = refl
unit_at_lem (low ∷ high ∷ bytes) (suc i) h =
    let e : 2 * suc i ≡ suc (suc (2 * i)) = omega arith in
    let f : 2 * suc i + 1 ≡ suc (suc (2 * i + 1)) = omega arith in
    ap (λ (n : ℕ). get_or (low ∷ high ∷ bytes) n 0 + 256 * get_or (low ∷ high ∷ bytes) (2 * suc i + 1) 0) e
    ∙ ap (λ (n : ℕ). get_or bytes (2 * i) 0 + 256 * get_or (low ∷ high ∷ bytes) n 0) f
    ∙ unit_at_lem bytes i (omega arith)

-- the units behind the first n are those of the bytes behind the first 2 n
pub units_drop : (bytes : List ℕ) (n : ℕ) → utf16_units (drop (2 * n) bytes) ≡ drop n (utf16_units bytes)
unfolding utf16_units
units_drop bytes zero = refl
units_drop [] (suc n) = rw (drop-nil)
units_drop (low ∷ []) (suc n) =
    let e : 2 * suc n ≡ suc (suc (2 * n)) = omega arith in
    rw (e, drop-nil)
units_drop (low ∷ high ∷ bytes) (suc n) =
    let e : 2 * suc n ≡ suc (suc (2 * n)) = omega arith in
    ap (λ (m : ℕ). utf16_units (drop m (low ∷ high ∷ bytes))) e ∙ units_drop bytes n

-- as many units as fit a room
module _ (bytes : List ℕ) (room count : ℕ) (fitting : count ≡ min (length bytes / 2) room) where
  -- as many units as fit are laid
  pub fitting_units : length (take room (utf16_units bytes)) ≡ count
  fitting_units = length-take room (utf16_units bytes) ∙ omega (arith, units_length bytes)

  -- the unit at a place, from its two bytes
  pub fitting_unit : (i : ℕ) → i < count → get_or bytes (2 * i) 0 + 256 * get_or bytes (2 * i + 1) 0 ≡ get_or (take room (utf16_units bytes)) i 0
  fitting_unit i h = unit_at_lem bytes i (omega (arith, units_length bytes)) ∙ sym (get_or-take room (utf16_units bytes) i 0 (omega arith))

-- ---- each undoes the other
-- the units of the bytes of units are these units
pub units_return : (units : List ℕ) → utf16_units (utf16_bytes units) ≡ units
unfolding utf16_units utf16_bytes
units_return [] = refl
units_return (unit ∷ units) =
    let e : unit % 256 + 256 * (unit / 256) ≡ unit = omega arith in
    ap (λ (n : ℕ). n ∷ utf16_units (utf16_bytes units)) e ∙ ap (λ (l : List ℕ). unit ∷ l) (units_return units)

-- bytes, each below 256
pub data Bytes : List ℕ → Type 0 where
  none : Bytes []
  two : {low high : ℕ} {bytes : List ℕ} → low < 256 → high < 256 → Bytes bytes → Bytes (low ∷ high ∷ bytes)

-- the bytes of the units of an even number of bytes are these bytes
pub bytes_return : {bytes : List ℕ} → Bytes bytes → utf16_bytes (utf16_units bytes) ≡ bytes
unfolding utf16_units utf16_bytes
bytes_return none = refl
bytes_return (two {low} {high} {bytes} l h rest) =
    let e : (low + 256 * high) % 256 ≡ low = omega arith in
    let f : (low + 256 * high) / 256 ≡ high = omega arith in
    ap (λ (n : ℕ). n ∷ ((low + 256 * high) / 256) ∷ utf16_bytes (utf16_units bytes)) e
    ∙ ap (λ (n : ℕ). low ∷ n ∷ utf16_bytes (utf16_units bytes)) f
    ∙ ap (λ (l : List ℕ). low ∷ high ∷ l) (bytes_return rest)
