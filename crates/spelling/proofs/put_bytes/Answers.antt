use mathlib.Core.Path.{◌≡◌, refl, sym, ap, ◌∙◌}
use mathlib.Core.List.{List}
use Prim.Native.Nat.{ℕ, ◌+◌}
use native.Mathlib.Numerals.{add-one}
use native.Mathlib.Omega.{arith}
use lib.ListN.{get_or, set, length-set}
use lib.Seq.{paste, paste-zero, paste-suc}
use Rattle.spelling.proofs.put_bytes.Goals as goal

pub loop-i-init : goal.loop-i-init
loop-i-init c = (omega arith, refl, paste-zero _ c.args.at c.args.bytes.now)

pub loop-i-preserved : goal.loop-i-preserved
loop-i-preserved c = (
  omega arith,
  simp length-set c.loop-i.invariant.1,
  ap
      (λ (l : List ℕ). set l (c.args.at + c.loop-i.i) (get_or c.args.bytes.now c.loop-i.i 0))
      c.loop-i.invariant.2
      ∙ paste-suc c.args.out.now c.args.at c.args.bytes.now c.loop-i.i 0 (omega arith) (omega arith)
      ∙ ap (paste c.args.out.now c.args.at c.args.bytes.now) (sym (add-one c.loop-i.i)),
)
