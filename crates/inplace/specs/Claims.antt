-- Document 02, CR 9: the cases of the answers, and what is claimed beside the one call of CR 10.
use Rattle.std.specs.Prelude.{List, ◌≡◌, ℕ, ◌%◌, ◌≤◌, ◌<◌, length, true, Result, Ok, Err}
use Rattle.std.proofs.Math.Option.{Option, none, some}
use Rattle.codepage.specs.CodePage.{CodePage, GoodShape}
use Rattle.codepage.specs.Lent.{over}
use Rattle.utf16.specs.Utf16.{utf16_units}
use Rattle.engine.specs.declared.Policy.{Policy}
use Rattle.engine.specs.declared.Direction.TheVariants.{Encoding}
use Rattle.engine.specs.Policies.{policy_allowed}
use Rattle.convert.specs.Runs.{piece_limit}
use Rattle.oneshot.specs.declared.Totals.{Totals}
use Rattle.oneshot.specs.Texts.{Text}
use Rattle.inplace.specs.declared.Refusal.{Refusal}
use Rattle.inplace.specs.declared.Refusal.TheVariants.{BadPolicy, BadShape, OddBytes, TooLong}
use Rattle.inplace.specs.declared.Encoded.{Encoded}
use Rattle.inplace.specs.InPlace.{encoded_number, InPlace}

-- 17 and 10 pass
abbrev pub PagePasses : Policy → CodePage → Type 0
PagePasses policy p = (policy_allowed Encoding policy ≡ true) × GoodShape p

-- 26 passes too
abbrev pub EvenPasses : Policy → CodePage → (buffer : List ℕ) → Type 0
EvenPasses policy p buffer = PagePasses policy p × (length buffer % 2 ≡ 0)

-- What each refusal says: all before it passes, and this does not.
abbrev pub RefusalSays : Policy → CodePage → (buffer : List ℕ) → Refusal → Type 0
RefusalSays policy p buffer BadPolicy = policy_allowed Encoding policy ≡ true → ⊥
RefusalSays policy p buffer BadShape = (policy_allowed Encoding policy ≡ true) × (GoodShape p → ⊥)
RefusalSays policy p buffer OddBytes = PagePasses policy p × (length buffer % 2 ≡ 1)
RefusalSays policy p buffer TooLong = EvenPasses policy p buffer × (piece_limit < length (utf16_units buffer))

-- the call is accepted: all checks pass
abbrev pub BufferPasses : Policy → CodePage → (buffer : List ℕ) → Type 0
BufferPasses policy p buffer = EvenPasses policy p buffer × (length (utf16_units buffer) ≤ piece_limit)

-- flags, read, need and written, as the one call of CR 10 tells them; what is needed is written; a refusal has none
abbrev pub encoded_totals : Result Encoded Refusal → Option Totals
encoded_totals (Ok encoded) = some (record { flags = encoded.flags; read = encoded.read; need = encoded.written; written = encoded.written })
encoded_totals (Err why) = none

-- The call gives what the one call of CR 10 gives from a separate buffer: number, flags, read and written, and its output at the front.
pub record AsSeparate (c : InPlace) (t : Text) (before : List ℕ) : Type 0 where
  pub number : encoded_number c.answer ≡ t.number
  pub totals : encoded_totals c.answer ≡ t.totals
  pub lent : c.buffer ≡ over before t.output
