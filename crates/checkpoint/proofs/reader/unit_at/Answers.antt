use mathlib.Core.Path.{sym, ◌∙◌}
use Rattle.checkpoint.specs.Line.{hex_pair, hex_pending}
use Rattle.checkpoint.proofs.PlaceLaws.{read_then, read_then_none, nothing}
use Rattle.checkpoint.proofs.reader.unit_at.Goals as goal

pub returns-in_err-high : goal.returns-in_err-high
unfolding hex_pending
returns-in_err-high c = nothing _ _ _ c.from_residual.ensures (read_then_none hex_pair _ _ _ (sym c.in_err-high.ensures))

pub returns-in_err-low : goal.returns-in_err-low
unfolding hex_pending
returns-in_err-low c = nothing _ _ _ c.from_residual-in_err-low.ensures (read_then hex_pair _ _ _ _ _ c.in_ok-high.ensures ∙ read_then_none hex_pair _ _ _ (sym c.in_err-low.ensures))

pub returns : goal.returns
unfolding hex_pending
returns c = sym (read_then hex_pair _ _ _ _ _ c.in_ok-high.ensures ∙ read_then hex_pair _ _ _ _ _ c.in_ok-low.ensures)
