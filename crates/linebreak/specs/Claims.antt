-- Document 02, CR 12: what is claimed of our breaks, without the way they are found, and the cases of the answers.
use Rattle.std.specs.Prelude.{true, false, List, [], ◌∷◌, ◌++◌, ◌≡◌, ℕ, ◌+◌, ◌≤◌, ◌<◌, length}
use Rattle.codepage.specs.CodePage.{CodePage, GoodShape}
use Rattle.codepage.specs.Reading.{Reader, Code, size_of, codes}
use Rattle.convert.specs.Runs.{piece_limit}
use Rattle.codepage_walk.specs.Walk.{Placed, placed}
use Rattle.codepage_walk.specs.Checks.{bytes_reader, TextPasses}
use Rattle.linebreak.specs.declared.Refusal.{Refusal}
use Rattle.linebreak.specs.declared.Refusal.TheVariants.{BadShape, TooLong, NotAcceptable, NoneExists, ListTooShort}
use Rattle.linebreak.specs.Breaks.{is_place, acceptable, ours}

-- "each line from the first on as long as it can be": of every line but the last, from a place to a break, what is left of the text
-- is over the width, and no code begins behind the break and within the width
unfoldable pub Longest : Reader → (text : List ℕ) → (width start : ℕ) → (breaks : List ℕ) → Type 0
Longest r text width start [] = Unit {0}
Longest r text width start (b ∷ breaks) =
    (start + width < length text) × ((place : ℕ) → is_place (placed r text) place ≡ true → place ≤ start + width → place ≤ b) × Longest r text width b breaks

-- "no code is cut": no code begins before a place and ends behind it
unfoldable pub NoneCut : (b : ℕ) → List Placed → Type 0
NoneCut b [] = Unit {0}
NoneCut b (p ∷ ps) = (p.place < b → p.place + size_of p.code ≤ b) × NoneCut b ps

-- no acceptable breaks exist
abbrev pub NoBreaks : Reader → (text : List ℕ) → (width : ℕ) → Type 0
NoBreaks r text width = (breaks : List ℕ) → acceptable r text width breaks ≡ false

-- one of the codes is longer than the width
pub record LongCode (r : Reader) (text : List ℕ) (width : ℕ) : Type 0 where
  pub before : List Code
  pub code : Code
  pub after : List Code
  pub among : codes r text ≡ before ++ (code ∷ after)
  pub long : width < size_of code

-- What each answer says: all before it passes, and this does not.

-- The case of each refusal of a check; 31 and 32 have none.
abbrev pub CheckSays : CodePage → (text : List ℕ) → (width : ℕ) → (breaks : List ℕ) → Refusal → Type 0
CheckSays p text width breaks BadShape = GoodShape p → ⊥
CheckSays p text width breaks TooLong = GoodShape p × (piece_limit < length text)
CheckSays p text width breaks NotAcceptable = TextPasses p piece_limit (length text) × (acceptable (bytes_reader p) text width breaks ≡ false)
CheckSays p text width breaks NoneExists = ⊥
CheckSays p text width breaks ListTooShort = ⊥

-- The case of a check that accepts: 10 and 11 pass, and the breaks are acceptable.
abbrev pub CheckPasses : CodePage → (text : List ℕ) → (width : ℕ) → (breaks : List ℕ) → Type 0
CheckPasses p text width breaks = TextPasses p piece_limit (length text) × (acceptable (bytes_reader p) text width breaks ≡ true)

-- there are acceptable breaks: ours
abbrev pub OursExist : CodePage → (text : List ℕ) → (width : ℕ) → Type 0
OursExist p text width = TextPasses p piece_limit (length text) × (acceptable (bytes_reader p) text width (ours (bytes_reader p) text width) ≡ true)

-- The case of each refusal of a proposal; 30 has none.
abbrev pub ProposeSays : CodePage → (text : List ℕ) → (width room : ℕ) → Refusal → Type 0
ProposeSays p text width room BadShape = GoodShape p → ⊥
ProposeSays p text width room TooLong = GoodShape p × (piece_limit < length text)
ProposeSays p text width room NotAcceptable = ⊥
ProposeSays p text width room NoneExists = TextPasses p piece_limit (length text) × NoBreaks (bytes_reader p) text width
ProposeSays p text width room ListTooShort = OursExist p text width × (room < length (ours (bytes_reader p) text width))

-- The case of a proposal that is not refused: 10 and 11 pass, our breaks are acceptable, and they fit the room.
abbrev pub ProposePasses : CodePage → (text : List ℕ) → (width room : ℕ) → Type 0
ProposePasses p text width room = OursExist p text width × (length (ours (bytes_reader p) text width) ≤ room)
