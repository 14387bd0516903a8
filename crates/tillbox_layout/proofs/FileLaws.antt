-- Laws of sizes.
use mathlib.Core.Bool.{true, false}
use mathlib.Core.Path.{◌≡◌, refl, ap, ◌∙◌}
use Prim.Native.Nat.{ℕ}
use native.Mathlib.Omega.{arith}
use lib.Dec.{T}
use lib.IntN.{ℤ, pos, negsuc, nat_abs}
use lib.Signed.{non_neg, lt_z}
use borrow.Author.Tests.{ltb-true}
use mir.Syntax.{w64}
use mir.Val.{Fits, SFits, to_z, of_z}
use mir.Facts.{to_z-of_z}
use Rattle.tillbox_layout.specs.Files.{file_size}

-- ---- sizes that the system told
below : (z : ℤ) → lt_z z (pos 0) ≡ true → 0 ≡ file_size z
unfolding file_size
below (pos n) e = omega (arith, ltb-true n 0 e)
below (negsuc n) e = refl

whole : (z : ℤ) → SFits w64 z → lt_z z (pos 0) ≡ false → T (non_neg z) × Fits w64 (nat_abs z)
whole (pos n) f e = (tt, record { fits = omega (arith, f.sfits) })
whole (negsuc n) f e = let z : ◌≡◌ {A = ℕ} 0 1 = cc in omega arith

same : (z : ℤ) → lt_z z (pos 0) ≡ false → nat_abs z ≡ file_size z
unfolding file_size
same (pos n) e = refl
same (negsuc n) e = let z : ◌≡◌ {A = ℕ} 0 1 = cc in omega arith

module _ (size : ℤ) (fits : SFits w64 size) where
  -- a size below 0 is told for no size
  pub below_zero : lt_z (to_z w64 (of_z w64 size)) (pos 0) ≡ true → 0 ≡ file_size size
  below_zero h = below size (rw (to_z-of_z fits) at h)

  -- any other size fits the machine number it is kept in
  pub not_below : lt_z (to_z w64 (of_z w64 size)) (pos 0) ≡ false → T (non_neg (to_z w64 (of_z w64 size))) × Fits w64 (nat_abs (to_z w64 (of_z w64 size)))
  not_below h = rw (to_z-of_z fits) (whole size fits (rw (to_z-of_z fits) at h))

  -- and is the size that was told
  pub told : lt_z (to_z w64 (of_z w64 size)) (pos 0) ≡ false → nat_abs (to_z w64 (of_z w64 size)) ≡ file_size size
  told h = ap nat_abs (to_z-of_z fits) ∙ same size (rw (to_z-of_z fits) at h)
