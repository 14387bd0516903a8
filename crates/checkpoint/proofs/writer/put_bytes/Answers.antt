use mathlib.Core.Path.{refl, ap, ◌∙◌}
use mathlib.Core.List.{List}
use Prim.Native.Nat.{◌+◌, ℕ}
use native.Mathlib.Omega.{arith}
use lib.ListN.{get_or, set, length-set}
use Rattle.checkpoint.proofs.WriteLaws.{copy_turn, copy_end}
use Rattle.checkpoint.proofs.writer.put_bytes.Goals as goal

pub loop-i-init : goal.loop-i-init
loop-i-init c = (omega arith, refl, refl)

pub loop-i-preserved : goal.loop-i-preserved
loop-i-preserved c =
    (omega arith, simp length-set c.loop-i.invariant.1, ap (λ (l : List ℕ). set l (c.args.at + c.loop-i.i) (get_or c.args.bytes.now c.loop-i.i 0)) c.loop-i.invariant.2 ∙ copy_turn _ _ _ c.loop-i.i (omega arith))

pub returns : goal.returns
returns c = record { next_is = refl; lent = (copy_end _ _ _ _ c.loop-i.i c.loop-i.invariant.2 (omega arith) (omega arith)).lent }
