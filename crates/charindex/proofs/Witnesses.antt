-- 10 and 11 are met too; the rows meet 33, 28 and 29.
use mathlib.Core.List.{List, []}
use mathlib.Core.Path.{◌≡◌, refl}
use Rattle.std.proofs.Common.{Err}
use Prim.Native.Nat.{ℕ}
use native.Mathlib.Omega.{arith}
use lib.ListN.{length, replicate, length-replicate}
use Rattle.codepage.specs.CodePage.{CodePage}
use Rattle.convert.specs.Sample.{sample_page}
use Rattle.convert.proofs.SampleRows.{sample_good}
use Rattle.charindex.specs.declared.Refusal.TheVariants.{BadShape, TooLong}
use Rattle.charindex.specs.Calls.{appending_of, finding_of}
use Rattle.charindex.proofs.AnswerLaws.{append_refused_exact, find_refused_exact}

-- a page 0
unfoldable pub pageless : CodePage
pageless = record { page = 0; default_byte = 0; default_unit = 0; classes = []; singles = []; pairs = []; index = []; blocks = [] }

-- a journal over the limit
unfoldable pub long : List ℕ
long = replicate 65537 0x41

-- its size, by law: it is not computed
pub long_size : length long ≡ 65537
unfolding long
long_size = length-replicate {A = ℕ} 65537 0x41

-- appending
pub appends_refused : ((appending_of pageless [] 0 []).answer ≡ Err BadShape) × ((appending_of sample_page long 0 []).answer ≡ Err TooLong)
unfolding pageless
appends_refused = ((append_refused_exact pageless [] 0 [] BadShape).1 (λ g. g.page refl), (append_refused_exact sample_page long 0 [] TooLong).1 (sample_good, omega (arith, long_size)))

-- finding
pub finds_refused : (finding_of pageless [] [] 0 ≡ Err BadShape) × (finding_of sample_page long [] 0 ≡ Err TooLong)
unfolding pageless
finds_refused = ((find_refused_exact pageless [] [] 0 BadShape).1 (λ g. g.page refl), (find_refused_exact sample_page long [] 0 TooLong).1 (sample_good, omega (arith, long_size)))
