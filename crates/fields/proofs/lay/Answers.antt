use mathlib.Core.Path.{◌≡◌, refl, sym, ap, ◌∙◌}
use mathlib.Core.List.{List}
use Prim.Native.Nat.{ℕ, ◌+◌}
use native.Mathlib.Numerals.{add-one}
use native.Mathlib.Omega.{arith}
use lib.ListN.{length, get_or, set, length-set}
use lib.Seq.{paste, paste-zero, paste-suc}
use Rattle.fields.proofs.CallLaws.{laid}
use Rattle.fields.proofs.lay.Goals as goal

pub loop-i-init : goal.loop-i-init
loop-i-init c = (omega arith, refl, paste-zero _ c.args.held c.args.units.now)

pub loop-i-preserved : goal.loop-i-preserved
loop-i-preserved c = (
  omega arith,
  simp length-set c.loop-i.invariant.1,
  ap
      (λ (l : List ℕ). set l (c.args.held + c.loop-i.i) (get_or c.args.units.now c.loop-i.i 0))
      c.loop-i.invariant.2
      ∙ paste-suc c.args.buffer.now c.args.held c.args.units.now c.loop-i.i 0 (omega arith) (omega arith)
      ∙ ap (paste c.args.buffer.now c.args.held c.args.units.now) (sym (add-one c.loop-i.i)),
)

pub returns : goal.returns
returns c =
    let e : c.loop-i.i ≡ length c.args.units.now = omega arith in
    c.loop-i.invariant.2 ∙ ap (paste c.args.buffer.now c.args.held c.args.units.now) e ∙ laid c.args.buffer.now c.args.held c.args.units.now
