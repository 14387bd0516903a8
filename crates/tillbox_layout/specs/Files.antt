-- Places in files, and the blocks of an input. A unit is one byte, or two where it is wide.
use Rattle.std.specs.Prelude.{Bool, true, false, List, ◌≡◌, ℕ, ◌+◌, ◌*◌, ◌-◌, ◌/◌, ◌%◌, ◌≤◌, min, max, leb, eqb, ℤ, pos, negsuc, length, take}

-- `n` counts elements at the front of a list. The second part follows from the first; both are there so that a check finds them.
abbrev pub Front : {A : Type 0} → ℕ → List A → Type 0
Front n xs = (n ≤ length xs) × (n ≡ length (take n xs))

-- the size that the system told; none where it told a number below 0
unfoldable pub file_size : ℤ → ℕ
file_size (pos size) = size
file_size (negsuc n) = 0

-- how many units some bytes are, and whether they are whole units
unfoldable pub units_in : (wide : Bool) → (bytes : ℕ) → ℕ
units_in true bytes = bytes / 2
units_in false bytes = bytes

-- whether some bytes are whole units: of wide ones an even number
unfoldable pub is_whole : (wide : Bool) → (bytes : ℕ) → Bool
is_whole true bytes = eqb (bytes % 2) 0
is_whole false bytes = true

-- no file reaches 2^63
abbrev pub last_place : ℕ
last_place = 9223372036854775807

-- where a unit stands in a file, in bytes
unfoldable pub place_of : (wide : Bool) → (unit : ℕ) → ℕ
place_of true unit = min (2 * unit) last_place
place_of false unit = min unit last_place

-- The block that begins where `read` units are read of `total`: how many units it has, of at most `size`.
unfoldable pub block_len : (size read total : ℕ) → ℕ
block_len size read total = min (total - read) size

-- whether the block that begins where `read` units are read of `total` is the last one
unfoldable pub is_final : (size read total : ℕ) → Bool
is_final size read total = leb (total - read) size

-- How many blocks of 512 are left. A text that is complete ends with a block, if only an empty one.
unfoldable pub block_count : (read total : ℕ) → (last : Bool) → ℕ
block_count read total true = max 1 ((total - read + 511) / 512)
block_count read total false = (total - read + 511) / 512

-- the greatest number of 64 bits
abbrev pub greatest : ℕ
greatest = 18446744073709551615
