use mathlib.Core.Path.{sym, ap, ◌∙◌}
use Prim.Native.Nat.{ℕ}
use lib.Dec.{eqb}
use Rattle.codepage.specs.Reading.{decoder}
use Rattle.linebreak.proofs.LineLaws.{not_rising, not_inner, too_wide, line_cut}
use Rattle.linebreak.proofs.is_line.Goals as goal

pub returns-then-end-start : goal.returns-then-end-start
returns-then-end-start c = λ singles pairs. sym (not_rising _ _ _ _ _ c.if-end-start.true)

pub returns-then-text-end : goal.returns-then-text-end
returns-then-text-end c = λ singles pairs. sym (not_inner _ _ _ _ _ c.if-end-start.false c.if-text-end.true)

pub returns-then-width-end : goal.returns-then-width-end
returns-then-width-end c = λ singles pairs. sym (too_wide _ _ _ _ _ c.if-end-start.false c.if-text-end.false c.if-width-end.true)

pub returns : goal.returns
returns c =
    λ singles pairs. ap (λ (n : ℕ). eqb n c.args.end) (c.last_place.ensures singles pairs)
    ∙ sym (line_cut (decoder _ singles pairs) c.args.text.now c.args.width c.args.start c.args.end c.if-end-start.false c.if-text-end.false c.if-width-end.false)
