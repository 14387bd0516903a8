-- Document 02, CR 8: how the codes of a byte text are spelled, and which are at fault. Places count from 0.
use Rattle.std.specs.Prelude.{Bool, false, List, [], ◌∷◌, ◌++◌, ℕ, eqb}
use Rattle.std.proofs.Math.Option.{Option, none, some}
use Rattle.codepage.specs.CodePage.{pick}
use Rattle.codepage.specs.Reading.{is_surrogate, unit_code, bytes_of, Reader, Code, codes}
use Rattle.codepage.specs.Reading.{Lookup}
use Rattle.std.specs.Prelude.{Ok, Err}
use Rattle.codepage_walk.specs.Walk.{Placed, placed}

-- whether a code means this character
abbrev pub is_character : (unit : ℕ) → Lookup → Bool
is_character unit (Ok found) = eqb found unit
is_character unit (Err kind) = false

-- whether a text is one code with this character
abbrev pub is_one_code : (unit : ℕ) → List Code → Bool
is_one_code unit [] = false
is_one_code unit (k ∷ []) = is_character unit k.means
is_one_code unit (k ∷ l ∷ ks) = false

-- "reads back as it": a code, written as bytes, is read as one code with this character
unfoldable pub reads_back : Reader → (unit code : ℕ) → Bool
reads_back r unit code = is_one_code unit (codes r (bytes_of code))

-- "each character's own code in the encoding table reads back as it"
abbrev pub code_reading_back : Reader → (unit : ℕ) → Lookup → Option ℕ
code_reading_back r unit (Ok code) = pick (reads_back r unit code) (some code) none
code_reading_back r unit (Err kind) = none

-- "no character is a surrogate": the code that spells a character, or none
unfoldable pub unit_spelling : Reader → (index blocks : List ℕ) → (unit : ℕ) → Option ℕ
unit_spelling r index blocks unit = pick (is_surrogate unit) none (code_reading_back r unit (unit_code index blocks unit))

-- "every code has a character": the code that spells a code of the text, by what it means; none if it is at fault
abbrev pub code_spelling : Reader → (index blocks : List ℕ) → Lookup → Option ℕ
code_spelling r index blocks (Ok unit) = unit_spelling r index blocks unit
code_spelling r index blocks (Err kind) = none

-- the place of a code that nothing spells, else what is found behind it
abbrev pub fault_or : Option ℕ → (place : ℕ) → Option ℕ → Option ℕ
fault_or none place later = some place
fault_or (some code) place later = later

-- "the place of the first code at fault", if there is one
unfoldable pub first_at_fault : (spell : Lookup → Option ℕ) → List Placed → Option ℕ
first_at_fault spell [] = none
first_at_fault spell (c ∷ cs) = fault_or (spell c.code.means) c.place (first_at_fault spell cs)

-- the bytes of a code that spells another; where there is none, no bytes
abbrev pub bytes_if : Option ℕ → List ℕ
bytes_if none = []
bytes_if (some code) = bytes_of code

-- "decode, then encode": the bytes of the codes that spell some codes, one after the other
unfoldable pub spelling_bytes : (spell : Lookup → Option ℕ) → List Code → List ℕ
spelling_bytes spell [] = []
spelling_bytes spell (k ∷ ks) = bytes_if (spell k.means) ++ spelling_bytes spell ks

-- THE FIRST CODE AT FAULT of a text: its place, if there is one.
abbrev pub fault_of : Reader → (index blocks text : List ℕ) → Option ℕ
fault_of r index blocks text = first_at_fault (code_spelling r index blocks) (placed r text)

-- THE SPELLING of a text.
abbrev pub bytes_for : Reader → (index blocks text : List ℕ) → List ℕ
bytes_for r index blocks text = spelling_bytes (code_spelling r index blocks) (codes r text)
