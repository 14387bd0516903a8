use native.Mathlib.Omega.{arith}
use Rattle.linebreak.proofs.LoopLaws.{sure_narrow, sure_wide}
use Rattle.linebreak.proofs.sure_to_fit.Goals as goal

pub returns-then-width-lt2 : goal.returns-then-width-lt2
returns-then-width-lt2 c = sure_narrow _ _ _ c.if-width-lt2.true

pub returns : goal.returns
returns c = sure_wide _ _ _ (omega arith)
