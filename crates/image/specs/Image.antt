-- A table image: a table set as bytes. All numbers are low byte first.
use Rattle.std.specs.Prelude.{Bool, ◌&&◌, List, [], ◌∷◌, ◌≡◌, ℕ, ◌+◌, ◌*◌, leb, eqb, length, take, drop}
use Rattle.codepage.specs.CodePage.{pick, entry_at}
use Rattle.codepage.specs.Lent.{over}
use Rattle.codepage.specs.declared.Numbers.{Numbers}
use Rattle.codepage.specs.declared.Sizes.{Sizes}
use Rattle.std.specs.declared.option.Option.{Option}
use Rattle.std.specs.declared.option.Option.TheVariants.{None, Some}

-- numbers of two and of four bytes
unfoldable pub two : (bytes : List ℕ) → (place : ℕ) → ℕ
two bytes place = entry_at bytes place + 256 * entry_at bytes (place + 1)

-- a number of four bytes at a place, low byte first
unfoldable pub four : (bytes : List ℕ) → (place : ℕ) → ℕ
four bytes place = two bytes place + 65536 * two bytes (place + 2)

-- The head: page (2 bytes), default byte (1), zero (1), default unit (2), zero (2), then five sizes of 4 bytes each.
unfoldable pub numbers_of : (bytes : List ℕ) → Numbers
numbers_of bytes = record { page = two bytes 0; default_byte = entry_at bytes 2; default_unit = two bytes 4 }

-- the two places of the head that must be 0 are 0
unfoldable pub zeros_kept : (bytes : List ℕ) → Bool
zeros_kept bytes = eqb (entry_at bytes 3) 0 && eqb (two bytes 6) 0

-- the sizes that the head names: how many elements each table has
unfoldable pub sizes_of : (bytes : List ℕ) → Sizes
sizes_of bytes =
    record {
      classes = four bytes 8;
      singles = four bytes 12;
      pairs = four bytes 16;
      index = four bytes 20;
      blocks = four bytes 24;
    }

-- The tables: classes and index have elements of one byte, singles, pairs and blocks of two. Where each begins:
unfoldable pub singles_at : Sizes → ℕ
singles_at s = 28 + s.classes

-- where pairs begin, behind the singles
unfoldable pub pairs_at : Sizes → ℕ
pairs_at s = singles_at s + 2 * s.singles

-- where index begins, behind the pairs
unfoldable pub index_at : Sizes → ℕ
index_at s = pairs_at s + 2 * s.pairs

-- where blocks begin, behind index
unfoldable pub blocks_at : Sizes → ℕ
blocks_at s = index_at s + s.index

-- the length of an image
unfoldable pub end_of : Sizes → ℕ
end_of s = blocks_at s + 2 * s.blocks

-- some bytes from a place on
unfoldable pub part : (bytes : List ℕ) → (place count : ℕ) → List ℕ
part bytes place count = take count (drop place bytes)

-- elements of two bytes
unfoldable pub units : List ℕ → List ℕ
units [] = []
units (low ∷ []) = []
units (low ∷ high ∷ bytes) = (low + 256 * high) ∷ units bytes

-- tables of these sizes fit
unfoldable pub fit : (sizes rooms : Sizes) → Bool
fit sizes rooms =
    leb sizes.classes rooms.classes
    && leb sizes.singles rooms.singles
    && leb sizes.pairs rooms.pairs
    && leb sizes.index rooms.index
    && leb sizes.blocks rooms.blocks

-- An image whose tables fit: a whole head, zeros where they must be, and exactly the bytes that its sizes ask.
unfoldable pub is_image : (bytes : List ℕ) → (rooms : Sizes) → Bool
is_image bytes rooms = leb 28 (length bytes) && zeros_kept bytes && fit (sizes_of bytes) rooms && eqb (length bytes) (end_of (sizes_of bytes))

-- how many elements each lent table has room for
abbrev pub rooms_of : (classes singles pairs index blocks : List ℕ) → Sizes
rooms_of classes singles pairs index blocks =
    record {
      classes = length classes;
      singles = length singles;
      pairs = length pairs;
      index = length index;
      blocks = length blocks;
    }

-- What reading an image gives: its answer, and the elements of each table.
pub record LoadedImage : Type 0 where
  pub answer : Option (Numbers × Sizes)
  pub classes : List ℕ
  pub singles : List ℕ
  pub pairs : List ℕ
  pub index : List ℕ
  pub blocks : List ℕ

-- what an image gives: the numbers and sizes of its head, and the elements of its tables
unfoldable pub tables_of : (bytes : List ℕ) → Sizes → LoadedImage
tables_of bytes s =
    record {
      answer = Some (numbers_of bytes, s);
      classes = part bytes 28 s.classes;
      singles = units (part bytes (singles_at s) (2 * s.singles));
      pairs = units (part bytes (pairs_at s) (2 * s.pairs));
      index = part bytes (index_at s) s.index;
      blocks = units (part bytes (blocks_at s) (2 * s.blocks));
    }

-- what bytes give that are no image, or whose tables do not fit: nothing is laid into the lent tables
unfoldable pub not_an_image : LoadedImage
not_an_image = record { answer = None; classes = []; singles = []; pairs = []; index = []; blocks = [] }

-- What reading some bytes gives, with so much room in the lent tables.
unfoldable pub load_of : (bytes : List ℕ) → (rooms : Sizes) → LoadedImage
load_of bytes rooms = pick (is_image bytes rooms) (tables_of bytes (sizes_of bytes)) not_an_image

-- The promise of reading: the answer, and each lent table before and after.
pub record LoadedAs (l : LoadedImage) (r : Option (Numbers × Sizes)) (classes classes' singles singles' pairs pairs' index index' blocks blocks' : List ℕ) : Type 0 where
  pub answer : r ≡ l.answer
  pub lent_classes : classes' ≡ over classes l.classes
  pub lent_singles : singles' ≡ over singles l.singles
  pub lent_pairs : pairs' ≡ over pairs l.pairs
  pub lent_index : index' ≡ over index l.index
  pub lent_blocks : blocks' ≡ over blocks l.blocks
