-- Laws of what is printed: one part behind another, and hex digits element by element.
use mathlib.Core.List.{List, [], ◌∷◌, ◌++◌, append_assoc, append-nil}
use mathlib.Core.Path.{◌≡◌, refl, sym, ap, ◌∙◌, subst}
use Prim.Native.Nat.{ℕ, suc, ◌+◌, ◌/◌, ◌%◌, ◌<◌, ◌≤◌}
use native.Mathlib.Numerals.{add-one}
use native.Mathlib.Omega.{arith}
use lib.ListN.{length, take, get_or, set, length-append}
use lib.Seq.{sets, take-suc, take_all}
use Rattle.checkpoint.specs.Line.{hex_byte}
use Rattle.console_print.specs.Prints.{Printed, hex_of_byte, hex_of_unit, spread, hex_run}

sets_append : (out : List ℕ) (at : ℕ) (xs ys : List ℕ) → sets out at (xs ++ ys) ≡ sets (sets out at xs) (at + length xs) ys
sets_append out at [] ys = ap (λ (k : ℕ). sets out k ys) (omega arith)
sets_append out at (x ∷ xs) ys = sets_append (set out at x) (suc at) xs ys ∙ ap (λ (k : ℕ). sets (sets out at (x ∷ xs)) k ys) (omega arith)

-- nothing, and one part behind another
pub printed_none : (out : List ℕ) (at : ℕ) → Printed [] out at at out
printed_none out at = record { same = refl; next_is = λ h. omega arith; lent = λ h. refl }

module _ {xs ys first second third : List ℕ} {at mid end : ℕ} where
  pub printed_then : Printed xs first at mid second → Printed ys second mid end third → Printed (xs ++ ys) first at end third
  printed_then p q =
      record {
        same = q.same ∙ p.same;
        next_is = λ h.
            (let l : length (xs ++ ys) ≡ length xs + length ys = length-append xs ys in
            let e : mid ≡ at + length xs = p.next_is (omega arith) in
            let s : length second ≡ length first = p.same in
            let f : end ≡ mid + length ys = q.next_is (omega arith) in
            omega arith);
        lent = λ h.
            (let l : length (xs ++ ys) ≡ length xs + length ys = length-append xs ys in
            let e : mid ≡ at + length xs = p.next_is (omega arith) in
            let s : length second ≡ length first = p.same in
            q.lent (omega arith)
            ∙ ap (λ (k : ℕ). sets second k ys) e
            ∙ ap (λ (l : List ℕ). sets l (at + length xs) ys) (p.lent (omega arith))
            ∙ sym (sets_append first at xs ys));
      }

-- a byte that does not fit
pub printed_full : (byte : ℕ) (out : List ℕ) (at : ℕ) → length out ≤ at → Printed (byte ∷ []) out at at out
printed_full byte out at l = record { same = refl; next_is = λ h. omega arith; lent = λ h. absurd (omega arith) }

-- ---- A loop over what is printed
module _ {first second third : List ℕ} {at mid end : ℕ} (xs : List ℕ) (i : ℕ) where
  -- one turn: the next byte behind the first i
  pub bytes_turn : i < length xs → Printed (take i xs) first at mid second → Printed (get_or xs i 0 ∷ []) second mid end third
      → Printed (take (i + 1) xs) first at end third
  bytes_turn h p q =
      subst (λ (l : List ℕ). Printed l first at end third) (sym (ap (λ (k : ℕ). take k xs) (add-one i) ∙ take-suc xs i 0 h)) (printed_then p q)

module _ {first second : List ℕ} {at end : ℕ} (xs : List ℕ) (i : ℕ) where
  -- the end: all bytes are printed
  pub bytes_end : length xs ≤ i → Printed (take i xs) first at end second → Printed xs first at end second
  bytes_end h p = subst (λ (l : List ℕ). Printed l first at end second) (take_all i xs h) p

spread_last : {A : Type 0} (spell : A → List ℕ) (xs : List A) (x : A) → spread spell (xs ++ (x ∷ [])) ≡ spread spell xs ++ spell x
unfolding spread
spread_last spell [] x = append-nil (spell x)
spread_last spell (y ∷ ys) x = ap (λ (l : List ℕ). spell y ++ l) (spread_last spell ys x) ∙ sym (append_assoc (spell y) (spread spell ys) (spell x))

module _ {A : Type 0} (spell : A → List ℕ) {first second third : List ℕ} {at mid end : ℕ} (xs : List A) (i : ℕ) where
  -- one turn: the next element, spelled, behind the first i
  pub spread_turn : (x : A) → x ≡ get_or xs i x → i < length xs → Printed (spread spell (take i xs)) first at mid second → Printed (spell x) second mid end third
      → Printed (spread spell (take (i + 1) xs)) first at end third
  spread_turn x same h p q =
      let e : take (i + 1) xs ≡ take i xs ++ (x ∷ []) =
      ap (λ (k : ℕ). take k xs) (add-one i) ∙ take-suc xs i x h ∙ ap (λ (y : A). take i xs ++ (y ∷ [])) (sym same) in
      subst (λ (l : List ℕ). Printed l first at end third)
      (sym (ap (spread spell) e ∙ spread_last spell (take i xs) x))
      (printed_then p q)

-- no element, and the last
module _ {A : Type 0} (spell : A → List ℕ) where
  -- for no elements nothing is printed
  pub spread_none : {out : List ℕ} {at : ℕ} → Printed (spread spell []) out at at out
  unfolding spread
  spread_none {out} {at} = printed_none out at

  -- for no elements a space and `-`
  pub run_none : {first second : List ℕ} {at end : ℕ} (xs : List A) → length xs ≡ 0 → Printed (0x20 ∷ 0x2D ∷ []) first at end second
      → Printed (hex_run spell xs) first at end second
  unfolding hex_run
  run_none [] h p = p
  run_none (x ∷ xs) h p = absurd (omega arith)

  run_some : {first second : List ℕ} {at end : ℕ} (xs : List A) → (length xs ≡ 0 → ⊥) → Printed (0x20 ∷ spread spell xs) first at end second
      → Printed (hex_run spell xs) first at end second
  unfolding hex_run
  run_some [] h p = absurd (h refl)
  run_some (x ∷ xs) h p = p

  -- a space, and then all elements, spelled
  pub run_end : {first second third : List ℕ} {at mid end : ℕ} (xs : List A) (i : ℕ) → (length xs ≡ 0 → ⊥) → length xs ≤ i
      → Printed (0x20 ∷ []) first at mid second → Printed (spread spell (take i xs)) second mid end third → Printed (hex_run spell xs) first at end third
  run_end {first} {second} {third} {at} {mid} {end} xs i h l p q =
      run_some xs h
      (printed_then p (subst (λ (k : List A). Printed (spread spell k) second mid end third) (take_all i xs l) q))

-- ---- Hex digits
module _ {first second third : List ℕ} {at mid end : ℕ} where
  -- a byte by its two digits, printed one behind the other
  pub hex_byte_printed : (byte high low : ℕ) → high ≡ hex_byte (byte / 16) → low ≡ hex_byte (byte % 16)
      → Printed (high ∷ []) first at mid second → Printed (low ∷ []) second mid end third → Printed (hex_of_byte byte) first at end third
  unfolding hex_of_byte
  hex_byte_printed byte high low e f p q =
      subst (λ (l : List ℕ). Printed l first at end third) (ap (λ (h : ℕ). h ∷ low ∷ []) e ∙ ap (λ (l : ℕ). hex_byte (byte / 16) ∷ l ∷ []) f) (printed_then p q)

  -- a unit by its two halves, printed one behind the other
  pub hex_unit_printed : (unit : ℕ) → Printed (hex_of_byte (unit / 256)) first at mid second → Printed (hex_of_byte (unit % 256)) second mid end third
      → Printed (hex_of_unit unit) first at end third
  unfolding hex_of_unit
  hex_unit_printed unit p q = printed_then p q
