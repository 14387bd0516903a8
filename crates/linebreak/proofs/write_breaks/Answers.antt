use mathlib.Core.List.{[]}
use mathlib.Core.Path.{refl}
use native.Mathlib.Omega.{arith}
use lib.ListN.{length-set}
use Rattle.codepage.specs.Reading.{decoder}
use Rattle.linebreak.proofs.OursLaws.{going_start}
use Rattle.linebreak.proofs.LoopLaws.{end_within, writing_full, writing_turn, writing_end, writing_count, writing_left}
use Rattle.linebreak.proofs.write_breaks.Goals as goal

pub loop-i-init : goal.loop-i-init
loop-i-init c = (omega arith, refl, refl, λ singles pairs. going_start _ _ _)

pub returns-then-text-start : goal.returns-then-text-start
returns-then-text-start c =
    λ singles pairs. (
      writing_end _ _ _ _ c.loop-i.i c.loop-i.out (c.loop-i.invariant.3 singles pairs) _ c.loop-i.invariant.0 (omega arith) (omega arith) c.loop-i.invariant.2,
      writing_count _ _ _ _ c.loop-i.i c.loop-i.out (c.loop-i.invariant.3 singles pairs) c.loop-i.invariant.0 (omega arith) (omega arith),
    )

pub loop-i-preserved : goal.loop-i-preserved
loop-i-preserved c =
    let within = end_within (decoder _ [] []) _ _ _ _ (c.last_place-start.ensures [] []) in (
      omega arith,
      simp length-set c.loop-i.invariant.1,
      writing_left c.loop-i.out c.args.out.now c.loop-i.i c.last_place-start.result c.loop-i.invariant.2,
      λ singles pairs. writing_turn _ _ _ _ c.loop-i.i c.loop-i.out (c.loop-i.invariant.3 singles pairs) _ (omega arith) (omega arith) (c.last_place-start.ensures singles pairs),
    )

pub returns : goal.returns
returns c =
    λ singles pairs. let (exist, fits) = c.requires.for_classes singles pairs in
    let here = c.loop-i.invariant.3 singles pairs in
    let last = writing_full _ _ _ _ c.loop-i.i c.loop-i.out here exist (omega arith) (omega (arith, fits)) in (
      writing_end _ _ _ _ c.loop-i.i c.loop-i.out here _ c.loop-i.invariant.0 last (omega arith) c.loop-i.invariant.2,
      omega (arith, writing_count _ _ _ _ c.loop-i.i c.loop-i.out here c.loop-i.invariant.0 last (omega arith)),
    )
