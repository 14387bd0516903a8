-- Document 02, CR 8: what is claimed of the standard spelling, and the cases of the answers.
use Rattle.std.specs.Prelude.{false, List, [], ◌∷◌, ◌++◌, ◌⊎◌, ◌≡◌, ℕ, ◌≤◌, ◌<◌, length}
use Rattle.codepage.specs.CodePage.{CodePage, GoodShape}
use Rattle.codepage.specs.Reading.{is_surrogate, Code, codes}
use Rattle.codepage.specs.Reading.{Lookup}
use Rattle.std.specs.Prelude.{Ok, Err}
use Rattle.engine.specs.declared.Direction.TheVariants.{Decoding, Encoding}
use Rattle.engine.specs.declared.Policy.{Policy}
use Rattle.engine.specs.Engine.{reader_of, whole}
use Rattle.convert.specs.Runs.{piece_limit}
use Rattle.convert.specs.RoundTrips.{RoundTrips}
use Rattle.codepage_walk.specs.Walk.{Placed, placed}
use Rattle.codepage_walk.specs.Checks.{bytes_reader, TextPasses}
use Rattle.spelling.specs.declared.Refusal.{Refusal}
use Rattle.spelling.specs.declared.Refusal.TheVariants.{BadShape, TooLong, AtFault, SpellingTooLong}
use Rattle.spelling.specs.Calls.{spelling_text}

-- A code is not at fault if it has a character, that is no surrogate, and belongs with its own code (document 01, "Reading one unit
-- for bytes").
pub record Spellable (p : CodePage) (means : Lookup) : Type 0 where
  pub unit : ℕ
  pub code : ℕ
  pub character : means ≡ Ok unit
  pub no_surrogate : is_surrogate unit ≡ false
  pub belong : RoundTrips p unit code

-- none of some codes is at fault
abbrev pub AllSpellable : CodePage → List Placed → Type 0
AllSpellable p [] = Unit {0}
AllSpellable p (c ∷ cs) = Spellable p c.code.means × AllSpellable p cs

-- no code of a text is at fault
abbrev pub NoFault : CodePage → (text : List ℕ) → Type 0
NoFault p text = AllSpellable p (placed (bytes_reader p) text)

-- The code at this place of a text is at fault, and none before it is.
pub record FaultAt (p : CodePage) (text : List ℕ) (place : ℕ) : Type 0 where
  pub before : List Placed
  pub code : Code
  pub after : List Placed
  pub parts : placed (bytes_reader p) text ≡ before ++ (record { place = place; code = code } ∷ after)
  pub none_before : AllSpellable p before
  pub fault : Spellable p code.means → ⊥

-- the character of a code, if it has one
abbrev pub character_of : Lookup → List ℕ
character_of (Ok unit) = unit ∷ []
character_of (Err kind) = []

-- the characters of some codes
abbrev pub characters_of : List Code → List ℕ
characters_of [] = []
characters_of (k ∷ ks) = character_of k.means ++ characters_of ks

-- The units that a text means: the characters of its codes.
abbrev pub units_meant : CodePage → (text : List ℕ) → List ℕ
units_meant p text = characters_of (codes (bytes_reader p) text)

-- The case of each refusal: all before it passes, and this does not.
abbrev pub SpellingSays : CodePage → (text : List ℕ) → (room : ℕ) → Refusal → Type 0
SpellingSays p text room BadShape = GoodShape p → ⊥
SpellingSays p text room TooLong = GoodShape p × (piece_limit < length text)
SpellingSays p text room (AtFault place) = TextPasses p piece_limit (length text) × FaultAt p text place
SpellingSays p text room SpellingTooLong =
    TextPasses p piece_limit (length text) × NoFault p text × ((piece_limit < length (spelling_text p text)) ⊎ (room < length (spelling_text p text)))

-- The case of acceptance.
abbrev pub SpellingPasses : CodePage → (text : List ℕ) → (room : ℕ) → Type 0
SpellingPasses p text room =
    TextPasses p piece_limit (length text) × NoFault p text × (length (spelling_text p text) ≤ piece_limit) × (length (spelling_text p text) ≤ room)

-- "Decode, then encode", whatever the policies and the defaults: the text decoded is the units that it means, these encoded are the
-- spelling, and the spelling decoded is the same units. No flag is set.
pub record DecodedEncoded (p : CodePage) (text : List ℕ) (decoding encoding : Policy) (default_unit default_byte : ℕ) : Type 0 where
  pub decoded : (whole (reader_of Decoding p) decoding default_unit text).output ≡ units_meant p text
  pub decoded_flags : (whole (reader_of Decoding p) decoding default_unit text).flags ≡ 0
  pub encoded : (whole (reader_of Encoding p) encoding default_byte (units_meant p text)).output ≡ spelling_text p text
  pub encoded_flags : (whole (reader_of Encoding p) encoding default_byte (units_meant p text)).flags ≡ 0
  pub again : (whole (reader_of Decoding p) decoding default_unit (spelling_text p text)).output ≡ units_meant p text
  pub again_flags : (whole (reader_of Decoding p) decoding default_unit (spelling_text p text)).flags ≡ 0
