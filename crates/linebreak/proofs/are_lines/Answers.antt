use mathlib.Core.List.{[]}
use mathlib.Core.Path.{sym, ◌∙◌}
use Prim.Native.Nat.{◌≤◌, ◌<◌}
use native.Mathlib.Omega.{arith}
use lib.ListN.{length}
use Rattle.codepage.specs.Reading.{decoder}
use Rattle.linebreak.proofs.LineLaws.{good_inner, lines_turn, lines_stop, lines_end}
use Rattle.linebreak.proofs.are_lines.Goals as goal

pub returns-then-not-is_line : goal.returns-then-not-is_line
returns-then-not-is_line c =
    let bad = c.if-not-is_line.true in
    let here : c.loop-end.end-index < length c.args.breaks.now = omega arith in
    λ singles pairs. sym
    (c.loop-end.invariant.1 singles pairs
    ∙ lines_stop (decoder _ singles pairs) _ _ _ _ _ here (sym (c.is_line.ensures singles pairs) ∙ bad))

pub loop-end-preserved : goal.loop-end-preserved
loop-end-preserved c =
    let good = c.if-not-is_line.false in
    let here : c.loop-end.end-index < length c.args.breaks.now = omega arith in (
      omega (arith, good_inner _ _ _ _ _ (sym (c.is_line.ensures [] []) ∙ good)),
      λ singles pairs. c.loop-end.invariant.1 singles pairs
          ∙ lines_turn (decoder _ singles pairs) _ _ _ _ _ here (sym (c.is_line.ensures singles pairs) ∙ good),
    )

pub returns : goal.returns
returns c =
    let past : length c.args.breaks.now ≤ c.loop-end.end-index = omega arith in λ singles pairs. sym (c.loop-end.invariant.1 singles pairs ∙ lines_end (decoder _ singles pairs) _ _ _ _ _ past)
