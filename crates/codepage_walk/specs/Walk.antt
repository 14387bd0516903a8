-- The codes of a text with their places, and the code at a place, with no policy. (Document 02, CR 7, 8, 11 and 12, over document 01,
-- "Reading one code from bytes", as amended by CR 2.) Places count from 0.
use Rattle.std.specs.Prelude.{List, [], ◌∷◌, ◌≡◌, ℕ, ◌+◌, drop}
use Rattle.codepage.specs.Reading.{Reader, decoder, Code, size_of, codes}
use Rattle.codepage_walk.specs.declared.CodeRead.{CodeRead}

-- A code and its place: where its first unit stands.
pub record Placed : Type 0 where
  pub place : ℕ
  pub code : Code

-- Codes that follow one another, each with its place: the first stands at `place`.
unfoldable pub placed_from : (place : ℕ) → List Code → List Placed
placed_from place [] = []
placed_from place (k ∷ ks) = record { place = place; code = k } ∷ placed_from (place + size_of k) ks

-- THE CODES OF A TEXT, one after the other, with their places.
unfoldable pub placed : Reader → (text : List ℕ) → List Placed
placed r text = placed_from 0 (codes r text)

-- The code at a place: the first code of the text from there on. Behind it the text is read afresh.
pub record CodeAt (r : Reader) (text : List ℕ) (place : ℕ) (k : Code) : Type 0 where
  pub here : codes r (drop place text) ≡ k ∷ codes r (drop (place + size_of k) text)

-- The promise of reading the code at a place: its size, and what it means.
pub record ReadAs (r : Reader) (text : List ℕ) (place : ℕ) (c : CodeRead) : Type 0 where
  pub code : Code
  pub at : CodeAt r text place code
  pub size : c.size ≡ size_of code
  pub means : c.means ≡ code.means

-- The promise of reading its size alone: the classes decide, whatever the characters are.
pub record SizedAs (r : Reader) (text : List ℕ) (place size : ℕ) : Type 0 where
  pub code : Code
  pub at : CodeAt r text place code
  pub sized : size ≡ size_of code

-- Of a byte text: the code at the place has this size, whatever the characters of singles and pairs are.
abbrev pub ClassesSize : (classes text : List ℕ) → (place size : ℕ) → Type 0
ClassesSize classes text place size = (singles pairs : List ℕ) → SizedAs (decoder classes singles pairs) text place size
