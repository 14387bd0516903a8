-- What is written at a place of the output. (docs/CONSOLE.md: bytes are two capital hex digits, units four.)
use Rattle.std.specs.Prelude.{List, [], ◌∷◌, ◌++◌, ◌≡◌, ℕ, ◌+◌, ◌/◌, ◌%◌, ◌≤◌, length}
use Rattle.std.proofs.lemmas.List.Edits.{sets}
use Rattle.checkpoint.specs.Line.{hex_byte}

-- Some bytes are laid over the output from a place on, and `next` is the place behind them; all this if they fit.
pub record Printed (bytes before : List ℕ) (place next : ℕ) (after : List ℕ) : Type 0 where
  pub same : length after ≡ length before
  pub next_is : place + length bytes ≤ length before → next ≡ place + length bytes
  pub lent : place + length bytes ≤ length before → after ≡ sets before place bytes

-- a byte as two capital hex digits, a unit as four
unfoldable pub hex_of_byte : ℕ → List ℕ
hex_of_byte byte = hex_byte (byte / 16) ∷ hex_byte (byte % 16) ∷ []

-- a unit as four capital hex digits, its high half first
unfoldable pub hex_of_unit : ℕ → List ℕ
hex_of_unit unit = hex_of_byte (unit / 256) ++ hex_of_byte (unit % 256)

-- elements, each spelled by `spell`
unfoldable pub spread : {A : Type 0} → (spell : A → List ℕ) → List A → List ℕ
spread spell [] = []
spread spell (x ∷ xs) = spell x ++ spread spell xs

-- a space, and a run of hex: all elements, or `-`
unfoldable pub hex_run : {A : Type 0} → (spell : A → List ℕ) → List A → List ℕ
hex_run spell [] = 0x20 ∷ 0x2D ∷ []
hex_run spell (x ∷ xs) = 0x20 ∷ spread spell (x ∷ xs)
