-- Laws of words: what a word says of its bytes.
use mathlib.Core.List.{List}
use mathlib.Core.Path.{◌≡◌}
use Prim.Native.Nat.{ℕ, ◌+◌, ◌*◌, ◌%◌}
use native.Mathlib.Omega.{arith}
use Rattle.codepage.specs.CodePage.{entry_at}
use Rattle.codepage_lookup.specs.Words.{word_in, WordAt}

-- a word as the sum of its eight bytes, each at its place
pub word_eight : (piece : List ℕ) (i : ℕ)
    → word_in 8 piece i
    ≡ entry_at piece i + 0x100 * entry_at piece (i + 1) + 0x10000 * entry_at piece (i + 2) + 0x1000000 * entry_at piece (i + 3) + 0x100000000 * entry_at piece (i + 4) + 0x10000000000 * entry_at piece (i + 5)
    + 0x1000000000000 * entry_at piece (i + 6) + 0x100000000000000 * entry_at piece (i + 7)
unfolding word_in
word_eight piece i =
    let e₂ : i + 1 + 1 ≡ i + 2 = omega arith in
    let e₃ : i + 2 + 1 ≡ i + 3 = omega arith in
    let e₄ : i + 3 + 1 ≡ i + 4 = omega arith in
    let e₅ : i + 4 + 1 ≡ i + 5 = omega arith in
    let e₆ : i + 5 + 1 ≡ i + 6 = omega arith in
    let e₇ : i + 6 + 1 ≡ i + 7 = omega arith in
    rw (e₂, e₃, e₄, e₅, e₆, e₇) (omega arith)

-- the lowest byte of a word is the first
pub word_first : {piece : List ℕ} {i word : ℕ} → WordAt piece i word → word % 256 ≡ entry_at piece i
unfolding word_in
word_first {piece} {i} a = omega (arith, a.value, a.bytes i)
