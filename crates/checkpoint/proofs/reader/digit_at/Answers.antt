use mathlib.Core.Path.{sym}
use Rattle.checkpoint.specs.Line.{digit_value}
use Rattle.checkpoint.proofs.PlaceLaws.{byte_end, byte_none, byte_some, nothing}
use Rattle.checkpoint.proofs.reader.digit_at.Goals as goal

pub returns-then-line-at-clause-value : goal.returns-then-line-at-clause-value
returns-then-line-at-clause-value c = sym (byte_end digit_value _ _ c.if-line-at.true)

pub returns-in_err-value-clause-value : goal.returns-in_err-value-clause-value
returns-in_err-value-clause-value c = nothing _ _ _ c.from_residual.ensures (byte_none digit_value _ _ c.if-line-at.false (sym c.in_err-value.ensures.value))

pub returns-clause-value : goal.returns-clause-value
returns-clause-value c = byte_some digit_value _ _ _ c.if-line-at.false (sym c.in_ok-value.ensures.value)
