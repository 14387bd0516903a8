-- Document 02, CR 7: what is claimed of the findings, and the cases of the answers.
use Rattle.std.specs.Prelude.{List, [], ◌∷◌, ◌≡◌, ℕ, ◌+◌, ◌<◌, ◌≤◌, ◌%◌, length, take, drop, true, false}
use Rattle.codepage.specs.CodePage.{CodePage, GoodShape}
use Rattle.codepage.specs.Reading.{Code, units_of}
use Rattle.codepage.specs.declared.Kind.{Kind}
use Rattle.codepage.specs.Reading.{Lookup}
use Rattle.std.specs.Prelude.{Ok, Err}
use Rattle.engine.specs.declared.Direction.TheVariants.{Decoding}
use Rattle.engine.specs.declared.Policy.{Policy}
use Rattle.engine.specs.Policies.{digit_of, policy_allowed}
use Rattle.convert.specs.Runs.{piece_limit}
use Rattle.codepage_walk.specs.Walk.{Placed, CodeAt}
use Rattle.codepage_walk.specs.Checks.{bytes_reader, TextPasses}
use Rattle.findings.specs.declared.Finding.{Finding}
use Rattle.findings.specs.declared.Refusal.{Refusal}
use Rattle.findings.specs.declared.Refusal.TheVariants.{BadPolicy, BadShape, TooLong}
use Rattle.findings.specs.Findings.{code_finding}

-- "Each entry must be a code that the rules read at that place with that kind": what is told of it is that code's, and its bytes are the
-- text's.
pub record IsRead (p : CodePage) (policy : Policy) (text : List ℕ) (f : Finding) : Type 0 where
  pub code : Code
  pub kind : Kind
  pub at : CodeAt (bytes_reader p) text f.place code
  pub lacking : code.means ≡ Err kind
  pub told : f ≡ code_finding policy kind (record { place = f.place; code = code })
  pub bytes : take f.size (drop f.place text) ≡ units_of code

-- each of some findings
abbrev pub AllRead : CodePage → Policy → (text : List ℕ) → List Finding → Type 0
AllRead p policy text [] = Unit {0}
AllRead p policy text (f ∷ fs) = IsRead p policy text f × AllRead p policy text fs

-- "in order of place": each begins behind the bytes of the one before it
abbrev pub Rising : (from : ℕ) → List Finding → Type 0
Rising from [] = Unit {0}
Rising from (f ∷ fs) = (from ≤ f.place) × ((1 ≤ f.size) × Rising (f.place + f.size) fs)

-- a code that does not stop the reading: it has a character, or its digit is not 0
abbrev pub GoesOn : Policy → Lookup → Type 0
GoesOn policy (Ok unit) = Unit {0}
GoesOn policy (Err kind) = digit_of policy kind ≡ 0 → ⊥

-- the reading comes past these codes
abbrev pub NoStop : Policy → List Placed → Type 0
NoStop policy [] = Unit {0}
NoStop policy (c ∷ cs) = GoesOn policy c.code.means × NoStop policy cs

-- the flags 1, 2 and 4 of some flags: all but 8
abbrev pub kind_flags : (flags : ℕ) → ℕ
kind_flags flags = flags % 8

-- The case of each refusal: all before it passes, and this does not.
abbrev pub FindingsSays : Policy → CodePage → (text : List ℕ) → Refusal → Type 0
FindingsSays policy p text BadPolicy = policy_allowed Decoding policy ≡ false
FindingsSays policy p text BadShape = (policy_allowed Decoding policy ≡ true) × (GoodShape p → ⊥)
FindingsSays policy p text TooLong = (policy_allowed Decoding policy ≡ true) × GoodShape p × (piece_limit < length text)

-- The case of acceptance.
abbrev pub FindingsPasses : Policy → CodePage → (text : List ℕ) → Type 0
FindingsPasses policy p text = (policy_allowed Decoding policy ≡ true) × TextPasses p piece_limit (length text)
