-- Document 01, "Reading one unit for bytes": when a unit and a code belong together, so that texts of them return.
-- docs/RULES.md, "Reading units".
use Rattle.std.specs.Prelude.{List, [], ◌∷◌, ◌≡◌, ℕ}
use Rattle.codepage.specs.CodePage.{CodePage}
use Rattle.codepage.specs.Reading.{bytes_of, Code, units_of, codes}
use Rattle.std.specs.Prelude.{Ok}
use Rattle.engine.specs.declared.Direction.TheVariants.{Decoding, Encoding}
use Rattle.engine.specs.Engine.{reader_of}

-- A unit and a code belong together if the code is the unit's own and, written as bytes, is read by the rules as one code with
-- that unit as its character.
pub record RoundTrips (p : CodePage) (unit code : ℕ) : Type 0 where
  pub own : (reader_of Encoding p).one unit ≡ Ok code
  pub read : Code
  pub one_code : codes (reader_of Decoding p) (bytes_of code) ≡ read ∷ []
  pub character : read.means ≡ Ok unit

-- A text of units each of which belongs with its code.
abbrev pub UnitsReturn : CodePage → List ℕ → Type 0
UnitsReturn p [] = Unit {0}
UnitsReturn p (unit ∷ text) = ((code : ℕ) × RoundTrips p unit code) × UnitsReturn p text

-- A code of a byte text that belongs with its character.
pub record CodeReturns (p : CodePage) (k : Code) : Type 0 where
  pub unit : ℕ
  pub code : ℕ
  pub character : k.means ≡ Ok unit
  pub bytes : units_of k ≡ bytes_of code
  pub belong : RoundTrips p unit code

-- Codes each of which belongs with its character.
abbrev pub CodesReturn : CodePage → List Code → Type 0
CodesReturn p [] = Unit {0}
CodesReturn p (k ∷ ks) = CodeReturns p k × CodesReturn p ks

-- A byte text whose every code belongs with its character.
abbrev pub BytesReturn : CodePage → List ℕ → Type 0
BytesReturn p text = CodesReturn p (codes (reader_of Decoding p) text)
