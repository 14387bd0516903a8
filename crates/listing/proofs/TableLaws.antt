-- Laws of the changes to the tables.
use mathlib.Core.Bool.{true}
use mathlib.Core.List.{List, ◌∷◌, ◌++◌}
use mathlib.Core.Path.{◌≡◌, refl, sym, ap, ◌∙◌}
use Prim.Native.Nat.{ℕ, zero, suc, ◌+◌, ◌-◌, ◌≤◌}
use native.Mathlib.Omega.{arith}
use lib.Dec.{leb}
use lib.ListN.{length, get_or, set, length-set, take, drop, take-append-drop, replicate}
use lib.Seq.{drop-cons, set_at, length-take-le}
use Rattle.std.proofs.lemmas.List.{length-append, length-replicate, length-drop, drop-drop, append_assoc}
use borrow.Author.Tests.{leb-true}
use Rattle.listing.specs.declared.Half.{Half}
use Rattle.listing.specs.Sets.{in_half, below_in_half, count_half}
use Rattle.listing.specs.Order.{is_listed_lead}
use Rattle.listing.specs.Tables.{filled}
use Rattle.listing.proofs.SetLaws.{half_below}
use Rattle.codepage.proofs.ShapeLaws.{and_left, and_right}

-- ---- a part of a table, filled
-- one more of what is repeated, at either end
repeated : (count value : ℕ) (rest : List ℕ) → value ∷ (replicate count value ++ rest) ≡ replicate count value ++ (value ∷ rest)
repeated zero value rest = refl
repeated (suc count) value rest = ap (λ (l : List ℕ). value ∷ l) (repeated count value rest)

-- what is filled from a place on, as the parts before, in and behind it
pub filled_part : (table : List ℕ) (place count value : ℕ) → place + count ≤ length table → take place table ++ (replicate count value ++ drop (place + count) table) ≡ filled table place count value
unfolding filled
filled_part table place zero value h = let e : place + 0 ≡ place = omega arith in rw e (take-append-drop place table)
filled_part table place (suc count) value h =
    let front : length (take place table ++ replicate count value) ≡ place + count = omega (arith, length-append (take place table) (replicate count value), length-take-le place table (omega arith), length-replicate count value) in
    let next : place + suc count ≡ suc (place + count) = omega arith in
    let at : drop (place + count) table ≡ get_or table (place + count) 0 ∷ drop (suc (place + count)) table = drop-cons table (place + count) 0 (omega arith) in
    rw next (ap (λ (l : List ℕ). take place table ++ l) (repeated count value (drop (suc (place + count)) table)))
    ∙ sym (append_assoc (take place table) (replicate count value) (value ∷ drop (suc (place + count)) table))
    ∙ sym (set_at (take place table ++ replicate count value) (get_or table (place + count) 0) (drop (suc (place + count)) table) value (place + count) front)
    ∙ ap (λ (l : List ℕ). set ((take place table ++ replicate count value) ++ l) (place + count) value) (sym at)
    ∙ ap (λ (l : List ℕ). set l (place + count) value) (append_assoc (take place table) (replicate count value) (drop (place + count) table) ∙ filled_part table place count value (omega arith))

-- the parts after std's `fill` of the part between
pub filled_by : (table part : List ℕ) (place count value n : ℕ) → place + count ≤ length table → n ≡ count → part ≡ replicate (length (take n (drop place table))) value → take place table ++ (part ++ drop n (drop place table)) ≡ filled table place count value
filled_by table part place count value n h same e =
    let size : length (take n (drop place table)) ≡ count = length-take-le n (drop place table) (omega (arith, length-drop place table)) ∙ same in
    let behind : drop n (drop place table) ≡ drop (place + count) table = drop-drop n place table ∙ ap (λ (m : ℕ). drop (place + m) table) same in
    rw behind (ap (λ (l : List ℕ). take place table ++ (l ++ drop (place + count) table)) (e ∙ ap (λ (m : ℕ). replicate m value) size) ∙ filled_part table place count value h)

-- filling changes no length
pub filled_length : (table : List ℕ) (place count value : ℕ) → length (filled table place count value) ≡ length table
unfolding filled
filled_length table place zero value = refl
filled_length table place (suc count) value = length-set (filled table place count value) (place + count) value ∙ filled_length table place count value

-- ---- a listed lead
module _ (leads : Half) (byte : ℕ) (listed : is_listed_lead leads byte ≡ true) where
  -- a listed lead is 80 or more
  pub listed_high : 0x80 ≤ byte
  unfolding is_listed_lead
  listed_high = leb-true 0x80 byte (and_left (leb 0x80 byte) (in_half leads (byte - 0x80)) listed)

  -- its block lies inside the pairs needed
  pub listed_below : below_in_half leads (byte - 0x80) + 1 ≤ count_half leads
  unfolding is_listed_lead
  listed_below = half_below leads (byte - 0x80) (and_right (leb 0x80 byte) (in_half leads (byte - 0x80)) listed)
