use mathlib.Core.Path.{sym, ◌∙◌}
use Rattle.checkpoint.specs.Line.{one, digit_value, three_digits}
use Rattle.checkpoint.proofs.PlaceLaws.{read_then, read_then_none, nothing, field_found, field_none}
use Rattle.checkpoint.proofs.reader.digits_at.Goals as goal

pub returns-in_err-single : goal.returns-in_err-single
unfolding three_digits
returns-in_err-single c = nothing _ _ _ c.from_residual.ensures (field_none three_digits _ _ (read_then_none (one digit_value) _ _ _ (sym c.in_err-single.ensures.value)))

pub returns-in_err-pair : goal.returns-in_err-pair
unfolding three_digits
returns-in_err-pair c = nothing _ _ _ c.from_residual-in_err-pair.ensures (field_none three_digits _ _ (read_then (one digit_value) _ _ _ _ _ c.in_ok-single.ensures.value ∙ read_then_none (one digit_value) _ _ _ (sym c.in_err-pair.ensures.value)))

pub returns-in_err-invalid : goal.returns-in_err-invalid
unfolding three_digits
returns-in_err-invalid c = nothing _ _ _ c.from_residual-in_err-invalid.ensures (field_none three_digits _ _ (read_then (one digit_value) _ _ _ _ _ c.in_ok-single.ensures.value ∙ read_then (one digit_value) _ _ _ _ _ c.in_ok-pair.ensures.value ∙ read_then_none (one digit_value) _ _ _ (sym c.in_err-invalid.ensures.value)))

pub returns : goal.returns
unfolding three_digits
returns c = field_found three_digits _ _ _ _ _
    (sym
    (read_then (one digit_value) _ _ _ _ _ c.in_ok-single.ensures.value
    ∙ read_then (one digit_value) _ _ _ _ _ c.in_ok-pair.ensures.value
    ∙ read_then (one digit_value) _ _ _ _ _ c.in_ok-invalid.ensures.value))
    c.tabbed.ensures.value
