-- Laws of table images: elements laid over a table one by one, and what is known of an image.
use mathlib.Core.Bool.{Bool, true, false, ◌&&◌}
use mathlib.Core.List.{List, [], ◌∷◌, ◌++◌}
use mathlib.Core.Path.{◌≡◌, refl, sym, ap, ◌∙◌}
use Prim.Native.Nat.{ℕ, zero, suc, ◌+◌, ◌*◌, ◌≤◌, ◌<◌}
use native.Mathlib.Numerals.{add-one}
use native.Mathlib.Omega.{arith}
use lib.Dec.{leb, eqb}
use lib.ListN.{length, get_or, take, drop, set, length-drop}
use lib.Seq.{drop-cons, set_at, append_snoc, take-suc, take-length, length-take-le, get_or-take, get_or-drop}
use borrow.Author.Tests.{leb-true, eqb-true}
use Rattle.codepage.specs.declared.Numbers.{Numbers}
use Rattle.codepage.specs.declared.Sizes.{Sizes}
use Rattle.std.specs.declared.option.Option.TheVariants.{None, Some}
use Rattle.codepage.specs.Lent.{over}
use Rattle.codepage.proofs.ShapeLaws.{and_left, and_right}
use Rattle.image.specs.Image.{two, numbers_of, sizes_of, singles_at, pairs_at, index_at, blocks_at, end_of, part, units, zeros_kept, fit, is_image, rooms_of, tables_of, not_an_image, load_of, LoadedAs}

-- ---- a loop that lays elements over a table
module _ (elements before : List ℕ) where
  -- one turn: the next element takes its place
  pub lay_turn : (table : List ℕ) (i value : ℕ) → table ≡ take i elements ++ drop i before → i < length elements → i < length before → value ≡ get_or elements i 0
      → set table i value ≡ take (i + 1) elements ++ drop (i + 1) before
  lay_turn table i value so_far h k e =
      ap (λ (l : List ℕ). set l i value) so_far
      ∙ ap (λ (r : List ℕ). set (take i elements ++ r) i value) (drop-cons before i 0 k)
      ∙ set_at (take i elements) (get_or before i 0) (drop (suc i) before) value i (length-take-le i elements (omega arith))
      ∙ sym (append_snoc (take i elements) value (drop (suc i) before))
      ∙ ap (λ (x : ℕ). (take i elements ++ (x ∷ [])) ++ drop (suc i) before) e
      ∙ ap (λ (r : List ℕ). r ++ drop (suc i) before) (sym (take-suc elements i 0 h))
      ∙ ap (λ (n : ℕ). take n elements ++ drop n before) (sym (add-one i))

  -- the end: all elements are laid over the table, and beyond them it is as before
  pub lay_end : (table : List ℕ) (i : ℕ) → table ≡ take i elements ++ drop i before → i ≡ length elements → table ≡ over before elements
  unfolding over
  lay_end table i so_far e =
      so_far
      ∙ ap (λ (n : ℕ). take n elements ++ drop n before) e
      ∙ ap (λ (l : List ℕ). l ++ drop (length elements) before) (take-length elements)

-- ---- elements of two bytes
pub units_length : (bytes : List ℕ) (count : ℕ) → length bytes ≡ 2 * count → length (units bytes) ≡ count
unfolding units
units_length [] count h = omega arith
units_length (low ∷ []) count h = omega arith
units_length (low ∷ high ∷ bytes) zero h = omega arith
units_length (low ∷ high ∷ bytes) (suc count) h = ap suc (units_length bytes count (omega arith))

pub units_at : (bytes : List ℕ) (i : ℕ) → i < length (units bytes) → two bytes (2 * i) ≡ get_or (units bytes) i 0
unfolding units two
units_at [] i h = omega arith
units_at (low ∷ []) i h = omega arith
units_at (low ∷ high ∷ bytes) zero h = refl
units_at (low ∷ high ∷ bytes) (suc i) h =
    let e : 2 * suc i ≡ suc (suc (2 * i)) = omega arith in
    let f : 2 * suc i + 1 ≡ suc (suc (2 * i + 1)) = omega arith in
    ap (λ (n : ℕ). get_or (low ∷ high ∷ bytes) n 0 + 256 * get_or (low ∷ high ∷ bytes) (2 * suc i + 1) 0) e
    ∙ ap (λ (n : ℕ). get_or bytes (2 * i) 0 + 256 * get_or (low ∷ high ∷ bytes) n 0) f
    ∙ units_at bytes i (omega arith)

-- ---- a part of the bytes
module _ (bytes : List ℕ) (place count : ℕ) (inside : place + count ≤ length bytes) where
  -- a part that lies in the bytes has as many bytes as it asks for
  pub part_length : length (part bytes place count) ≡ count
  unfolding part
  part_length = length-take-le count (drop place bytes) (omega (arith, length-drop place bytes))

  -- and at each of its places the byte that stands there
  pub part_at : (i : ℕ) → i < count → get_or bytes (place + i) 0 ≡ get_or (part bytes place count) i 0
  unfolding part
  part_at i h = sym (get_or-take count (drop place bytes) i 0 h ∙ get_or-drop place bytes i 0)

-- the number of two bytes at an element's place
pub part_unit : (bytes : List ℕ) (place count i : ℕ) → place + 2 * count ≤ length bytes → i < count → two bytes (place + 2 * i) ≡ get_or (units (part bytes place (2 * count))) i 0
unfolding two
part_unit bytes place count i inside h =
    let size : length (units (part bytes place (2 * count))) ≡ count = units_length (part bytes place (2 * count)) count (part_length bytes place (2 * count) inside) in
    let low : get_or bytes (place + 2 * i) 0 ≡ get_or (part bytes place (2 * count)) (2 * i) 0 = part_at bytes place (2 * count) inside (2 * i) (omega arith) in
    let high : get_or bytes (place + (2 * i + 1)) 0 ≡ get_or (part bytes place (2 * count)) (2 * i + 1) 0 = part_at bytes place (2 * count) inside (2 * i + 1) (omega arith) in
    let next : place + 2 * i + 1 ≡ place + (2 * i + 1) = omega arith in
    ap (λ (x : ℕ). x + 256 * get_or bytes (place + 2 * i + 1) 0) low
    ∙ ap (λ (n : ℕ). get_or (part bytes place (2 * count)) (2 * i) 0 + 256 * get_or bytes n 0) next
    ∙ ap (λ (x : ℕ). get_or (part bytes place (2 * count)) (2 * i) 0 + 256 * x) high
    ∙ units_at (part bytes place (2 * count)) i (omega arith)

-- a part of elements of two bytes has so many of them
pub part_units_length : (bytes : List ℕ) (place count : ℕ) → place + 2 * count ≤ length bytes → length (units (part bytes place (2 * count))) ≡ count
part_units_length bytes place count inside = units_length (part bytes place (2 * count)) count (part_length bytes place (2 * count) inside)

-- ---- what is known of an image
pub record Fit (sizes rooms : Sizes) : Type 0 where
  pub classes : sizes.classes ≤ rooms.classes
  pub singles : sizes.singles ≤ rooms.singles
  pub pairs : sizes.pairs ≤ rooms.pairs
  pub index : sizes.index ≤ rooms.index
  pub blocks : sizes.blocks ≤ rooms.blocks

pub fit_known : (sizes rooms : Sizes) → fit sizes rooms ≡ true → Fit sizes rooms
unfolding fit
fit_known sizes rooms h =
    let a : Bool = leb sizes.classes rooms.classes in
    let b : Bool = leb sizes.singles rooms.singles in
    let d : Bool = leb sizes.pairs rooms.pairs in
    let e : Bool = leb sizes.index rooms.index in
    let f : Bool = leb sizes.blocks rooms.blocks in
    let four_hold : (a && b && d && e) ≡ true = and_left (a && b && d && e) f h in
    let three_hold : (a && b && d) ≡ true = and_left (a && b && d) e four_hold in
    let two_hold : (a && b) ≡ true = and_left (a && b) d three_hold in
    record {
      classes = leb-true _ _ (and_left a b two_hold);
      singles = leb-true _ _ (and_right a b two_hold);
      pairs = leb-true _ _ (and_right (a && b) d three_hold);
      index = leb-true _ _ (and_right (a && b && d) e four_hold);
      blocks = leb-true _ _ (and_right (a && b && d && e) f h);
    }

pub record Known (bytes : List ℕ) (sizes rooms : Sizes) : Type 0 where
  pub fits : Fit sizes rooms
  pub whole : length bytes ≡ 28 + sizes.classes + 2 * sizes.singles + 2 * sizes.pairs + sizes.index + 2 * sizes.blocks

-- an image has a whole head
pub image_head : (bytes : List ℕ) (rooms : Sizes) → is_image bytes rooms ≡ true → 28 ≤ length bytes
unfolding is_image
image_head bytes rooms h =
    let a : Bool = leb 28 (length bytes) in
    let b : Bool = zeros_kept bytes in
    let d : Bool = fit (sizes_of bytes) rooms in
    let e : Bool = eqb (length bytes) (end_of (sizes_of bytes)) in
    leb-true _ _ (and_left a b (and_left (a && b) d (and_left (a && b && d) e h)))

-- the tables of an image fit, and it has exactly the bytes that its sizes ask for
pub image_known : (bytes : List ℕ) (sizes rooms : Sizes) → is_image bytes rooms ≡ true → sizes ≡ sizes_of bytes → Known bytes sizes rooms
unfolding is_image end_of blocks_at index_at pairs_at singles_at
image_known bytes sizes rooms h s =
    let a : Bool = leb 28 (length bytes) in
    let b : Bool = zeros_kept bytes in
    let d : Bool = fit (sizes_of bytes) rooms in
    let e : Bool = eqb (length bytes) (end_of (sizes_of bytes)) in
    rw s
    (record {
      fits = fit_known (sizes_of bytes) rooms (and_right (a && b) d (and_left (a && b && d) e h));
      whole = eqb-true _ _ (and_right (a && b && d) e h);
    })

-- ---- the answers of reading an image
module _ (bytes classes singles pairs index blocks : List ℕ) where
  -- bytes that are no image: no table is changed
  pub refused : is_image bytes (rooms_of classes singles pairs index blocks) ≡ false
      → LoadedAs (load_of bytes (rooms_of classes singles pairs index blocks)) None classes classes singles singles pairs pairs index index blocks blocks
  unfolding load_of not_an_image over
  refused e =
      rw e
      (record {
        answer = refl;
        lent_classes = refl;
        lent_singles = refl;
        lent_pairs = refl;
        lent_index = refl;
        lent_blocks = refl;
      })

  -- an image: each table has its elements laid over it
  pub accepted : (classes' singles' pairs' index' blocks' : List ℕ) (numbers : Numbers) (sizes : Sizes)
      → is_image bytes (rooms_of classes singles pairs index blocks) ≡ true
      → numbers ≡ numbers_of bytes
      → sizes ≡ sizes_of bytes
      → classes' ≡ over classes (part bytes 28 sizes.classes)
      → singles' ≡ over singles (units (part bytes (singles_at sizes) (2 * sizes.singles)))
      → pairs' ≡ over pairs (units (part bytes (pairs_at sizes) (2 * sizes.pairs)))
      → index' ≡ over index (part bytes (index_at sizes) sizes.index)
      → blocks' ≡ over blocks (units (part bytes (blocks_at sizes) (2 * sizes.blocks)))
      → LoadedAs (load_of bytes (rooms_of classes singles pairs index blocks)) (Some (numbers, sizes)) classes classes' singles singles' pairs pairs' index index' blocks blocks'
  unfolding load_of tables_of
  accepted classes' singles' pairs' index' blocks' numbers sizes e n s a b d f g =
      rw (e, ← s)
      (record {
        answer = ap (λ (x : Numbers). Some (x, sizes)) n;
        lent_classes = a;
        lent_singles = b;
        lent_pairs = d;
        lent_index = f;
        lent_blocks = g;
      })
