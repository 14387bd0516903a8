use Rattle.capi.specs.Interface.{answer_out}
use mathlib.Core.Path.{◌∙◌, sym}
use Rattle.capi.proofs.answer_out.Goals as goal

pub returns-then-not-is_run : goal.returns-then-not-is_run
unfolding answer_out
returns-then-not-is_run c = rw (sym c.is_run.ensures ∙ c.if-not-is_run.true, ← c.number-number.ensures)

pub returns : goal.returns
unfolding answer_out
returns c = rw (sym c.is_run.ensures ∙ c.if-not-is_run.false, ← c.number-number.ensures, ← c.from-run.ensures)
