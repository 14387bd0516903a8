use Rattle.spelling.proofs.SpellLaws.{put_one, put_two}
use lib.ListN.{length-set}
use mathlib.Core.Path.{ap}
use native.Mathlib.Omega.{arith}
use lib.ListN.{length}
use Prim.Native.Nat.{ℕ}
use mathlib.Core.List.{List}
use Rattle.spelling.proofs.SpellLaws.{one_byte, two_bytes}
use Rattle.spelling.proofs.put_code.Goals as goal

pub bounds-out-at : goal.bounds-out-at
bounds-out-at c = omega (arith, ap (λ (l : List ℕ). length l) (one_byte _ c.if-code-le255.true))

pub returns-then-code-le255 : goal.returns-then-code-le255
returns-then-code-le255 c = put_one _ _ _ c.if-code-le255.true

pub bounds-out-at-2 : goal.bounds-out-at-2
bounds-out-at-2 c = omega (arith, ap (λ (l : List ℕ). length l) (two_bytes _ c.if-code-le255.false))

pub bounds-out-at-3 : goal.bounds-out-at-3
bounds-out-at-3 c = simp length-set (omega (arith, ap (λ (l : List ℕ). length l) (two_bytes _ c.if-code-le255.false)))

pub returns : goal.returns
returns c = put_two _ _ _ c.if-code-le255.false
