use mathlib.Core.Path.{ap, ◌∙◌}
use Rattle.capi.specs.Cutting.{refused_field, field_out}
use Rattle.capi.proofs.cutting.field_out.Goals as goal

pub returns-in-Ok-Field : goal.returns-in-Ok-Field
unfolding field_out
returns-in-Ok-Field c = rw (c.in-Ok-Field.is, rw c.in-Ok-Field.is at c.in-Ok-Field.field-0-is, c.end_out-end.ensures, c.place_out-place.ensures)

pub returns-in-Ok-Incomplete : goal.returns-in-Ok-Incomplete
unfolding field_out
returns-in-Ok-Incomplete c = rw (c.in-Ok-Incomplete.is, rw c.in-Ok-Incomplete.is at c.in-Ok-Incomplete.field-0-is)

pub returns-in-Err : goal.returns-in-Err
unfolding field_out
returns-in-Err c = rw c.in-Err.is (c.refused_field.ensures ∙ ap (refused_field _) c.number.ensures)
