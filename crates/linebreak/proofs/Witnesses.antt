-- Each refusal is met, on the sample page.
use mathlib.Core.List.{List, [], ◌∷◌}
use mathlib.Core.Path.{◌≡◌, refl}
use Rattle.std.proofs.Common.{Err}
use Prim.Native.Nat.{ℕ}
use native.Mathlib.Omega.{arith}
use lib.ListN.{length, replicate, length-replicate}
use Rattle.codepage.specs.CodePage.{CodePage}
use Rattle.convert.specs.Sample.{sample_page}
use Rattle.convert.proofs.SampleRows.{sample_good}
use Rattle.linebreak.specs.declared.Refusal.TheVariants.{BadShape, TooLong, NotAcceptable, NoneExists, ListTooShort}
use Rattle.linebreak.specs.Calls.{check_of, proposal_of}
use Rattle.linebreak.specs.Examples.{pair_and_byte}
use Rattle.linebreak.proofs.AnswerLaws.{check_refused_exact, propose_refused_exact}
use Rattle.linebreak.proofs.Rows.{break_rules}

-- a page 0
unfoldable pub pageless : CodePage
pageless = record { page = 0; default_byte = 0; default_unit = 0; classes = []; singles = []; pairs = []; index = []; blocks = [] }

-- a text over the limit
unfoldable pub long : List ℕ
long = replicate 65537 0x41

pub long_size : length long ≡ 65537
unfolding long
long_size = length-replicate {A = ℕ} 65537 0x41

pub checks_refused : (check_of pageless [] 1 [] ≡ Err BadShape) × (check_of sample_page long 1 [] ≡ Err TooLong) × (check_of sample_page pair_and_byte 2 (1 ∷ []) ≡ Err NotAcceptable)
unfolding break_rules pageless
checks_refused = (
  (check_refused_exact pageless [] 1 [] BadShape).1 (λ g. g.page refl),
  (check_refused_exact sample_page long 1 [] TooLong).1 (sample_good, omega (arith, long_size)),
  refl,
)

pub proposals_refused : ((proposal_of pageless [] 1 0).answer ≡ Err BadShape) × ((proposal_of sample_page long 1 0).answer ≡ Err TooLong)
    × ((proposal_of sample_page pair_and_byte 1 0).answer ≡ Err NoneExists) × ((proposal_of sample_page pair_and_byte 2 0).answer ≡ Err ListTooShort)
unfolding break_rules pageless
proposals_refused = (
  (propose_refused_exact pageless [] 1 0 BadShape).1 (λ g. g.page refl),
  (propose_refused_exact sample_page long 1 0 TooLong).1 (sample_good, omega (arith, long_size)),
  refl,
  refl,
)
