-- Definitions that the contract of reading a word cites, and that no promise does.
use Rattle.std.specs.Prelude.{List, ◌≡◌, ℕ, zero, suc, ◌+◌, ◌*◌, ◌<◌}
use Rattle.codepage.specs.CodePage.{entry_at}

-- so many bytes from an index on as one number: the first is the lowest
unfoldable pub word_in : (count : ℕ) → (piece : List ℕ) → (i : ℕ) → ℕ
word_in zero piece i = 0
word_in (suc count) piece i = entry_at piece i + 256 * word_in count piece (i + 1)

-- a word is the eight bytes from an index on
pub record WordAt (piece : List ℕ) (i word : ℕ) : Type 0 where
  pub bytes : (k : ℕ) → entry_at piece k < 256
  pub value : word ≡ word_in 8 piece i
