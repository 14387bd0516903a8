-- UTF_16 units as bytes, low byte first.
use Rattle.std.specs.Prelude.{List, [], ◌∷◌, ◌≡◌, ℕ, ◌+◌, ◌*◌, ◌/◌, ◌%◌, length}
use Rattle.codepage.specs.Lent.{over}

-- the bytes of some units: of each its low half, then its high half
unfoldable pub utf16_bytes : (units : List ℕ) → List ℕ
utf16_bytes [] = []
utf16_bytes (unit ∷ units) = (unit % 256) ∷ (unit / 256) ∷ utf16_bytes units

-- the units of some bytes; a last byte that stands alone is none
unfoldable pub utf16_units : (bytes : List ℕ) → List ℕ
utf16_units [] = []
utf16_units (low ∷ []) = []
utf16_units (low ∷ high ∷ bytes) = (low + 256 * high) ∷ utf16_units bytes

-- The promise: what was laid over a lent buffer, and how much of it.
pub record LaidOver (elements before after : List ℕ) (r : ℕ) : Type 0 where
  pub lent : after ≡ over before elements
  pub size : r ≡ length elements
