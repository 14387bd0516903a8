-- 10 and 11 are met too, and the edges of 26 and 11; the rows meet 17 and 26.
use mathlib.Core.List.{List, []}
use mathlib.Core.Path.{◌≡◌, refl, ap, ◌∙◌}
use Prim.Native.Nat.{ℕ, ◌/◌, ◌%◌, ◌<◌}
use native.Mathlib.Omega.{arith}
use lib.ListN.{length, replicate, length-replicate}
use Rattle.codepage.specs.CodePage.{CodePage}
use Rattle.utf16.specs.Utf16.{utf16_units}
use Rattle.utf16.proofs.Utf16Laws.{units_length}
use Rattle.engine.specs.Policies.{policy_allowed, standard}
use Rattle.convert.specs.Sample.{sample_page}
use Rattle.convert.proofs.SampleRows.{sample_good}
use Rattle.inplace.specs.declared.Refusal.TheVariants.{BadShape, OddBytes, TooLong}
use Rattle.std.specs.Prelude.{Err}
use Rattle.inplace.specs.InPlace.{encoded_number, in_place_of}
use Rattle.inplace.proofs.AnswerLaws.{refused_exact, accepted_exact}

-- a page 0
unfoldable pub pageless : CodePage
pageless = record { page = 0; default_byte = 0; default_unit = 0; classes = []; singles = []; pairs = []; index = []; blocks = [] }

-- so many bytes, each 41
unfoldable pub letters : ℕ → List ℕ
letters size = replicate size 0x41

-- their number, by law: it is not computed
pub letters_size : (size : ℕ) → length (letters size) ≡ size
unfolding letters
letters_size size = length-replicate {A = ℕ} size 0x41

-- the units that they hold
units_size : (size : ℕ) → length (utf16_units (letters size)) ≡ size / 2
units_size size = units_length (letters size) ∙ ap (λ (n : ℕ). n / 2) (letters_size size)

-- 10: also ahead of 26
pub shape_refused : (in_place_of standard pageless (letters 1)).answer ≡ Err BadShape
unfolding pageless policy_allowed
shape_refused = (refused_exact standard pageless (letters 1) BadShape).1 (refl, λ g. g.page refl)

-- 131,073 BYTES ARE REFUSED WITH 26, 131,074 WITH 11, AND 131,072 ARE ACCEPTED.
pub edges_refused : ((in_place_of standard sample_page (letters 131073)).answer ≡ Err OddBytes)
    × (((in_place_of standard sample_page (letters 131074)).answer ≡ Err TooLong) × (encoded_number (in_place_of standard sample_page (letters 131072)).answer < 10))
unfolding policy_allowed
edges_refused = (
  (refused_exact standard sample_page (letters 131073) OddBytes).1 ((refl, sample_good), ap (λ (n : ℕ). n % 2) (letters_size 131073)),
  (
    (refused_exact standard sample_page (letters 131074) TooLong).1 (((refl, sample_good), ap (λ (n : ℕ). n % 2) (letters_size 131074)), omega (arith, units_size 131074)),
    (accepted_exact standard sample_page (letters 131072)).1 (((refl, sample_good), ap (λ (n : ℕ). n % 2) (letters_size 131072)), omega (arith, units_size 131072)),
  ),
)
