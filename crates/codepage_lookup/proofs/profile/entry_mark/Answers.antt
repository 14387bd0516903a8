use Rattle.codepage_lookup.proofs.ProfileLaws.{single_class}
use lib.Bits.{bit_xor}
use native.Mathlib.Omega.{arith}
use mathlib.Core.Path.{ap}
use Prim.Native.Nat.{ℕ}
use Rattle.codepage_lookup.proofs.profile.entry_mark.Goals as goal

pub returns-then-class-eq1 : goal.returns-then-class-eq1
returns-then-class-eq1 c = λ e n. single_class c.args.class (omega arith) (ap (λ (x : ℕ). bit_xor x 1) c.if-class-eq1.true)
