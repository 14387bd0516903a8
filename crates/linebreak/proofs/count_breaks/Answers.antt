use mathlib.Core.List.{[]}
use native.Mathlib.Omega.{arith}
use Rattle.codepage.specs.Reading.{decoder}
use Rattle.linebreak.proofs.LoopLaws.{end_from, end_within, counting_start, counting_turn, counting_stuck, counting_end}
use Rattle.linebreak.proofs.count_breaks.Goals as goal

pub loop-start-init : goal.loop-start-init
loop-start-init c = (omega arith, omega arith, λ singles pairs. counting_start _ _ _)

pub returns-then-end-start : goal.returns-then-end-start
returns-then-end-start c = λ singles pairs. counting_stuck _ _ _ _ _ (c.loop-start.invariant.2 singles pairs) _ (omega arith) (c.last_place-end.ensures singles pairs) c.if-end-start.true

pub loop-start-smaller : goal.loop-start-smaller
loop-start-smaller c = omega (arith, c.last_place-end.ensures [] [], end_from (decoder _ [] []) _ _ _ _ (c.last_place-end.ensures [] []), end_within (decoder _ [] []) _ _ _ _ (c.last_place-end.ensures [] []))

pub loop-start-preserved : goal.loop-start-preserved
loop-start-preserved c = let from = end_from (decoder _ [] []) _ _ _ _ (c.last_place-end.ensures [] []) in
    let within = end_within (decoder _ [] []) _ _ _ _ (c.last_place-end.ensures [] []) in (
      omega arith,
      omega arith,
      λ singles pairs. counting_turn _ _ _ _ _ (c.loop-start.invariant.2 singles pairs) _ (omega arith) (c.last_place-end.ensures singles pairs),
    )

pub returns : goal.returns
returns c = λ singles pairs. counting_end _ _ _ _ _ (c.loop-start.invariant.2 singles pairs) c.loop-start.invariant.1 (omega arith)
