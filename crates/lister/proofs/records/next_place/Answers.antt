use mathlib.Core.Path.{sym, ap, ◌∙◌}
use Rattle.lister.specs.Lister.{is_record}
use Rattle.lister.proofs.PlaceLaws.{next_last, next_here, next_turn}
use Rattle.lister.proofs.records.next_place.Goals as goal

pub returns-then-is_record : goal.returns-then-is_record
returns-then-is_record c = sym (c.loop-place.invariant ∙ next_here _ c.loop-place.place c.loop-place-test.true (sym (ap is_record c.record_at.ensures) ∙ sym c.is_record.ensures ∙ c.if-is_record.true))

pub loop-place-preserved : goal.loop-place-preserved
loop-place-preserved c = c.loop-place.invariant ∙ next_turn _ c.loop-place.place c.loop-place-test.true (sym (ap is_record c.record_at.ensures) ∙ sym c.is_record.ensures ∙ c.if-is_record.false)

pub returns : goal.returns
returns c = c.max.ensures ∙ next_last _ _ c.loop-place.place c.loop-place.invariant c.loop-place-test.false c.loop-place.auto.place-end
