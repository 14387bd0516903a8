use mathlib.Core.Path.{sym, ◌∙◌}
use Rattle.checkpoint.specs.Line.{one, hex_value, hex_pair}
use Rattle.checkpoint.proofs.PlaceLaws.{read_then, read_then_none, nothing}
use Rattle.checkpoint.proofs.reader.pair_at.Goals as goal

pub returns-in_err-high : goal.returns-in_err-high
unfolding hex_pair
returns-in_err-high c = nothing _ _ _ c.from_residual.ensures (read_then_none (one hex_value) _ _ _ (sym c.in_err-high.ensures.value))

pub returns-in_err-low : goal.returns-in_err-low
unfolding hex_pair
returns-in_err-low c = nothing _ _ _ c.from_residual-in_err-low.ensures (read_then (one hex_value) _ _ _ _ _ c.in_ok-high.ensures.value ∙ read_then_none (one hex_value) _ _ _ (sym c.in_err-low.ensures.value))

pub returns : goal.returns
unfolding hex_pair
returns c = sym (read_then (one hex_value) _ _ _ _ _ c.in_ok-high.ensures.value ∙ read_then (one hex_value) _ _ _ _ _ c.in_ok-low.ensures.value)
