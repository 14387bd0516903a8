-- Laws of the places of records, and of the answers of a call.
use mathlib.Core.Bool.{Bool, true, false}
use mathlib.Core.List.{List}
use mathlib.Core.Path.{◌≡◌, refl, sym, ap, ◌∙◌}
use Prim.Native.Nat.{ℕ, suc, ◌+◌, ◌-◌, ◌≤◌, ◌<◌, max, ◌*◌}
use native.Mathlib.Numerals.{add-one}
use native.Mathlib.Omega.{arith}
use lib.ListN.{length}
use borrow.Author.Tests.{le-leb, lt-leb, lt-ltb, le-ltb, leb-true, leb-false}
use lib.Dec.{leb}
use Rattle.codepage.specs.CodePage.{CodePage, GoodShape, first_fault, is_good, leads_below, entry_at, is_lead}
use Rattle.codepage.specs.Lent.{over}
use Rattle.codepage.proofs.ShapeLaws.{shape_exact, block_there}
use Rattle.listing.specs.declared.Record.{Record}
use Rattle.lister.specs.declared.Cursor.{Cursor}
use Rattle.std.specs.declared.option.Option.TheVariants.{None, Some}
use Rattle.std.specs.declared.result.Result.TheVariants.{Ok, Err}
use Rattle.lister.specs.declared.Refusal.TheVariants.{BadShape, NoRoom}
use Rattle.lister.specs.Lines.{record_line}
use Rattle.lister.specs.Lister.{places, record_at, is_record, first_of, next_place, list_record, list_of, ListedAs}

module _ (p : CodePage) (place : ℕ) where
  -- behind all places there is none
  pub next_end : places ≤ place → next_place p place ≡ place
  unfolding next_place first_of
  next_end h = let none : places - place ≡ 0 = omega arith in ap (λ (n : ℕ). first_of p n place) none

  module _ (h : place < places) where
    some_left : places - place ≡ suc (places - (place + 1))
    some_left = omega arith

    -- a place with a record is the next itself
    pub next_here : is_record (record_at p place) ≡ true → next_place p place ≡ place
    unfolding next_place first_of
    next_here e = ap (λ (n : ℕ). first_of p n place) some_left ∙ rw (e, first_of)

    -- a place without one is passed over
    pub next_turn : is_record (record_at p place) ≡ false → next_place p place ≡ next_place p (place + 1)
    unfolding next_place first_of
    next_turn e = ap (λ (n : ℕ). first_of p n place) some_left ∙ rw (e, first_of) (ap (first_of p (places - (place + 1))) (sym (add-one place)))

-- where no place has a record, the next place is behind all
pub next_last : (p : CodePage) (from place : ℕ) → next_place p from ≡ next_place p place → places ≤ place → (from ≤ places → place ≤ places) → max from places ≡ next_place p from
next_last p from place same h k = by_end (leb from places) refl
  where
    by_end : (t : Bool) → leb from places ≡ t → max from places ≡ next_place p from
    by_end true q = omega (arith, same, next_end p place h, k (leb-true from places q), leb-true from places q)
    by_end false q = omega (arith, next_end p from (omega (arith, leb-false from places q)), leb-false from places q)

-- the pairs of a lead lie inside their table
pub pairs_inside : (p : CodePage) → GoodShape p → (lead : ℕ) → lead < 256 → is_lead (entry_at p.classes lead) ≡ true → 256 * leads_below p.classes lead + 256 ≤ length p.pairs
pairs_inside p good lead h e = omega (arith, good.pairs, block_there p.classes lead (omega (arith, good.classes)) e)

-- ---- the answers of a call
module _ (p : CodePage) (cursor : Cursor) (out : List ℕ) where
  -- 10
  pub list_bad : (good : Bool) → good ≡ is_good (first_fault p) → good ≡ false → ListedAs (list_of p cursor (length out)) (Err BadShape) out out
  unfolding list_of over
  list_bad good g e = rw (sym g ∙ e) (record { answer = refl; lent = refl })

  module _ (good : Bool) (g : good ≡ is_good (first_fault p)) (well : good ≡ true) where
    -- a shape that passed the test is good
    pub shaped : GoodShape p
    shaped = (shape_exact p).0 (sym g ∙ well)

    module _ (place : ℕ) (next : place ≡ next_place p cursor.place) where
      -- no record is left
      pub list_done : places ≤ place → ListedAs (list_of p cursor (length out)) (Ok None) out out
      unfolding list_of over
      list_done h = rw (sym g ∙ well, ← next, le-leb places place h) (record { answer = refl; lent = refl })

      module _ (h : place < places) (r : Record) (here : r ≡ record_at p place) (size : ℕ) (s : size ≡ length (record_line r)) where
        -- 19
        pub list_small : length out < size → ListedAs (list_of p cursor (length out)) (Err NoRoom) out out
        unfolding list_of list_record over
        list_small k = rw (sym g ∙ well, ← next, lt-leb places place h, ← here, ← s, lt-ltb (length out) size k) (record { answer = refl; lent = refl })

        -- the line, and the cursor behind it
        pub list_line : (after : List ℕ) → size ≤ length out → after ≡ over out (record_line r) → ListedAs (list_of p cursor (length out)) (Ok (Some (record { length = size; next = record { place = place + 1 } }))) out after
        unfolding list_of list_record
        list_line after k e = rw (sym g ∙ well, ← next, lt-leb places place h, ← here, ← s, le-ltb (length out) size k) (record { answer = refl; lent = e })
