-- Definitions that the contracts of mixed text cite, and that no promise does.
use Rattle.std.specs.Prelude.{List, ◌≡◌, ℕ, ◌+◌, ◌<◌, ◌≤◌, length}
use Rattle.codepage.specs.CodePage.{entry_at}

-- n numbers from index i of a piece on stand in an output from place w on; else it is as before
pub record Laid (piece : List ℕ) (i : ℕ) (out : List ℕ) (w : ℕ) (out' : List ℕ) (n : ℕ) : Type 0 where
  pub same : length out' ≡ length out
  pub inside : (k : ℕ) → k < n → entry_at out' (w + k) ≡ entry_at piece (i + k)
  pub before : (k : ℕ) → k < w → entry_at out' k ≡ entry_at out k
  pub behind : (k : ℕ) → w + n ≤ k → entry_at out' k ≡ entry_at out k
