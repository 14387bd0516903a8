use Rattle.spelling.proofs.SpellLaws.{one_byte, two_bytes}
use lib.ListN.{length}
use mathlib.Core.Path.{sym, ap}
use mathlib.Core.List.{List}
use Prim.Native.Nat.{ℕ}
use Rattle.spelling.proofs.byte_count.Goals as goal

pub returns-then-code-le255 : goal.returns-then-code-le255
returns-then-code-le255 c = sym (ap (λ (l : List ℕ). length l) (one_byte _ c.if-code-le255.true))

pub returns : goal.returns
returns c = sym (ap (λ (l : List ℕ). length l) (two_bytes _ c.if-code-le255.false))
