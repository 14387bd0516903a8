-- Sets of bytes as bits: 128 bytes in two words of 64 bits, 256 bytes in two of these.
use Rattle.std.specs.Prelude.{Bool, ℕ, ◌+◌, ◌-◌, ◌/◌, ◌%◌, ◌^◌, ltb, eqb}
use Rattle.std.specs.Int.Bits.{bit_or}
use Rattle.std.specs.Int.Count.{ones}
use Rattle.codepage.specs.CodePage.{pick}
use Rattle.listing.specs.declared.Half.{Half}
use Rattle.listing.specs.declared.Bytes.{Bytes}

-- whether a bit of a word is set
abbrev pub bit : (word place : ℕ) → Bool
bit word place = eqb (word / 2 ^ place % 2) 1

-- a word with a bit set
unfoldable pub with_bit : (word place : ℕ) → ℕ
with_bit word place = bit_or word (2 ^ place)

-- how many bits below a place are set
unfoldable pub bits_below : (word place : ℕ) → ℕ
bits_below word place = ones (word % 2 ^ place)

-- whether a place below 128 is in the set
unfoldable pub in_half : Half → (place : ℕ) → Bool
in_half h place = pick (ltb place 64) (bit h.low place) (bit h.high (place - 64))

-- the set with one place more
unfoldable pub add_to_half : Half → (place : ℕ) → Half
add_to_half h place =
    pick (ltb place 64)
    (record { low = with_bit h.low place; high = h.high })
    (record { low = h.low; high = with_bit h.high (place - 64) })

-- how many there are, and how many below a place
unfoldable pub count_half : Half → ℕ
count_half h = ones h.low + ones h.high

-- how many there are below a place
unfoldable pub below_in_half : Half → (place : ℕ) → ℕ
below_in_half h place = pick (ltb place 64) (bits_below h.low place) (ones h.low + bits_below h.high (place - 64))

-- no place
abbrev pub empty_half : Half
empty_half = record { low = 0; high = 0 }

-- whether a byte is in the set
unfoldable pub in_bytes : Bytes → (byte : ℕ) → Bool
in_bytes s byte = pick (ltb byte 0x80) (in_half s.low byte) (in_half s.high (byte - 0x80))

-- the set with one byte more
unfoldable pub add_to_bytes : Bytes → (byte : ℕ) → Bytes
add_to_bytes s byte =
    pick (ltb byte 0x80)
    (record { low = add_to_half s.low byte; high = s.high })
    (record { low = s.low; high = add_to_half s.high (byte - 0x80) })

-- no byte
abbrev pub empty_bytes : Bytes
empty_bytes = record { low = empty_half; high = empty_half }
