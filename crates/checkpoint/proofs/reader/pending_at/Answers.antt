use mathlib.Core.Path.{sym, ◌∙◌}
use Rattle.convert.specs.declared.Pending.TheVariants.{Nothing}
use Rattle.checkpoint.specs.Line.{pending_field}
use Rattle.checkpoint.proofs.PlaceLaws.{nothing, field_found, field_none, pending_end, pending_dash, pending_hex}
use Rattle.checkpoint.proofs.reader.pending_at.Goals as goal

pub returns-then-line-at : goal.returns-then-line-at
returns-then-line-at c = sym (field_none (pending_field _) _ _ (pending_end _ _ _ c.if-line-at.true))

pub returns-then-line-at-eq45 : goal.returns-then-line-at-eq45
returns-then-line-at-eq45 c = field_found (pending_field _) _ _ Nothing _ _ (pending_dash _ _ _ c.if-line-at.false c.if-line-at-eq45.true) c.tabbed.ensures.value

pub returns-in_err-item : goal.returns-in_err-item
returns-in_err-item c = nothing _ _ _ c.from_residual.ensures (field_none (pending_field _) _ _ (pending_hex _ _ _ c.if-line-at.false c.if-line-at-eq45.false ∙ sym c.in_err-item.ensures))

pub returns : goal.returns
returns c = field_found (pending_field _) _ _ _ _ _ (c.in_ok-item.ensures ∙ sym (pending_hex _ _ _ c.if-line-at.false c.if-line-at-eq45.false)) c.tabbed-2.ensures.value
