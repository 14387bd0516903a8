-- The edge of the blocks, worked: 254, 255 and 256 high halves.
use mathlib.Core.Bool.{true, false, not}
use mathlib.Core.Path.{◌≡◌, refl, sym, ap, ◌∙◌}
use Prim.Native.Nat.{ℕ, zero, suc, ◌+◌, ◌*◌, ◌/◌, ◌≤◌}
use native.Mathlib.Omega.{arith}
use borrow.Author.Tests.{eq-eqb, ne_eqb}
use Rattle.listing.specs.declared.Progress.{Progress}
use Rattle.listing.specs.Order.{rank, is_new_high, code_block, blocks_listed, sizes_listed}
use Rattle.listing_laws.specs.Edge.{halves_read}

-- each high half is new
new_half : (n : ℕ) → is_new_high (halves_read n) (256 * n) ≡ true
unfolding is_new_high halves_read
new_half zero = refl
new_half (suc n) = ap not (ne_eqb (256 * n / 256) (256 * suc n / 256) (λ e. omega arith))

-- and has the next number
number : (n : ℕ) → n ≤ 255 → (halves_read n).block ≡ n
unfolding code_block halves_read
number zero h = refl
number (suc n) h =
    let less : (halves_read n).block ≡ n = number n (omega arith) in
    rw (new_half n) (omega (arith, less))

last_number : (halves_read 256).block ≡ 0
unfolding code_block halves_read
last_number = let full : (halves_read 255).block ≡ 255 = number 255 (omega arith) in rw (new_half 255) (omega (arith, full))

late : (n : ℕ) → rank (halves_read (suc n)).letter ≡ 7
unfolding halves_read
late n = refl

count : (s : Progress) (n : ℕ) → rank s.letter ≡ 7 → s.block ≡ n → (n ≡ 0 → ⊥) → (sizes_listed s).blocks ≡ 256 * (n + 1)
unfolding sizes_listed blocks_listed
count s n e b ne = rw (eq-eqb (rank s.letter) 7 e, ne_eqb s.block 0 (λ z. ne (sym b ∙ z)), b)

count_full : (s : Progress) → rank s.letter ≡ 7 → s.block ≡ 0 → (sizes_listed s).blocks ≡ 65536
unfolding sizes_listed blocks_listed
count_full s e b = rw (eq-eqb (rank s.letter) 7 e, eq-eqb s.block 0 b)

-- What the end of such a listing reports, and where the codes of the last high halves are.
pub record Edge : Type 0 where
  -- 254 high halves need 255 blocks
  pub blocks_254 : (sizes_listed (halves_read 254)).blocks ≡ 65280
  -- 255 need all 256: FE has block 255, and block 0 is still empty
  pub blocks_255 : (sizes_listed (halves_read 255)).blocks ≡ 65536
  pub block_of_FE : (halves_read 255).block ≡ 255
  -- 256 need no more: FF takes block 0
  pub blocks_256 : (sizes_listed (halves_read 256)).blocks ≡ 65536
  pub block_of_FF : (halves_read 256).block ≡ 0
  -- a further unit of FF is in the same block, which is not opened again
  pub more_of_FF : is_new_high (halves_read 256) 0xFF01 ≡ false
  pub same_block : code_block (halves_read 256) 0xFF01 ≡ 0

still_FF : is_new_high (halves_read 256) 0xFF01 ≡ false
unfolding is_new_high halves_read
still_FF = refl

same_FF : code_block (halves_read 256) 0xFF01 ≡ 0
unfolding code_block
same_FF = rw still_FF last_number

-- The edge holds.
pub edge : Edge
edge =
    record {
      blocks_254 = count (halves_read 254) 254 (late 253) (number 254 (omega arith)) (λ e. omega arith);
      blocks_255 = count (halves_read 255) 255 (late 254) (number 255 (omega arith)) (λ e. omega arith);
      block_of_FE = number 255 (omega arith);
      blocks_256 = count_full (halves_read 256) (late 255) last_number;
      block_of_FF = last_number;
      more_of_FF = still_FF;
      same_block = same_FF;
    }
