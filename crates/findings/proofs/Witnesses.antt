-- 11 is met too; the rows meet 17, 10 and acceptance.
use mathlib.Core.Bool.{true}
use mathlib.Core.List.{List}
use mathlib.Core.Path.{◌≡◌, refl}
use Prim.Native.Nat.{ℕ}
use native.Mathlib.Omega.{arith}
use lib.ListN.{length, replicate, length-replicate}
use Rattle.engine.specs.declared.Direction.TheVariants.{Decoding}
use Rattle.engine.specs.Policies.{replacing, policy_allowed}
use Rattle.convert.specs.Sample.{sample_page}
use Rattle.convert.proofs.SampleRows.{sample_good}
use Rattle.findings.specs.declared.Refusal.TheVariants.{TooLong}
use Rattle.std.specs.Prelude.{Err}
use Rattle.findings.specs.Calls.{findings_call}
use Rattle.findings.proofs.AnswerLaws.{findings_refused_exact}

-- so many times a byte; its size, by law: it is not computed
unfoldable pub times : (count byte : ℕ) → List ℕ
times count byte = replicate count byte

times_size : (count byte : ℕ) → length (times count byte) ≡ count
unfolding times
times_size count byte = length-replicate {A = ℕ} count byte

allowed : policy_allowed Decoding replacing ≡ true
unfolding policy_allowed
allowed = refl

-- 11 IS MET: 65,537 bytes.
pub long_refused : (findings_call replacing sample_page (times 65537 0x80)).answer ≡ Err TooLong
long_refused = (findings_refused_exact replacing sample_page (times 65537 0x80) TooLong).1 (allowed, sample_good, omega (arith, times_size 65537 0x80))
