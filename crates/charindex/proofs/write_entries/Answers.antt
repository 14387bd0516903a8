use mathlib.Core.List.{[]}
use mathlib.Core.Path.{refl}
use native.Mathlib.Omega.{arith}
use lib.ListN.{length-set}
use Rattle.charindex.proofs.WriteLaws.{writing_start, writing_turn, writing_end, writing_left}
use Rattle.charindex.proofs.write_entries.Goals as goal

pub loop-block-init : goal.loop-block-init
loop-block-init c =
    (refl, omega arith, c.requires.classes_len.1.place, c.requires.classes_len.1.count, refl, λ singles pairs. writing_start _ _ _ _ _ _)

pub overflow_sub-entries : goal.overflow_sub-entries
overflow_sub-entries c =
    let reached = c.read_to-at.ensures.1 [] [] in
    omega (arith, c.read_to-at.ensures.0.place, c.read_to-at.ensures.0.count, reached.from_on, reached.within)

pub loop-block-preserved : goal.loop-block-preserved
loop-block-preserved c =
    let reached = c.read_to-at.ensures.1 [] [] in (
      simp length-set c.loop-block.invariant.0,
      omega (arith, reached.within),
      c.read_to-at.ensures.0.place,
      c.read_to-at.ensures.0.count,
      writing_left c.loop-block.entries c.args.entries.now c.loop-block.block _ c.loop-block.invariant.4,
      λ singles pairs. writing_turn _ _ _ _ _ _ _ _ _ _ (c.loop-block.invariant.5 singles pairs) _ (omega arith) (omega arith) (c.read_to-at.ensures.1 singles pairs),
    )

pub returns : goal.returns
returns c = λ singles pairs. writing_end _ _ _ _ _ _ _ _ _ _ (c.loop-block.invariant.5 singles pairs) (omega arith) c.loop-block.invariant.4
