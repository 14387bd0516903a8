use mathlib.Core.Path.{sym, ◌∙◌}
use native.Mathlib.Omega.{arith}
use Rattle.listing.specs.Form.{record_of}
use Rattle.listing.proofs.FormLaws.{form_length}
use Rattle.listing.proofs.form.record_of.Goals as goal

pub unit_at-code-requires : goal.unit_at-code-requires
unit_at-code-requires c = omega (arith, form_length _ _ (sym c.has_form.ensures ∙ c.if-has_form.true))

pub unit_at-requires : goal.unit_at-requires
unit_at-requires c = omega (arith, form_length _ _ (sym c.has_form.ensures ∙ c.if-has_form.true))

pub returns-then-has_form : goal.returns-then-has_form
unfolding record_of
returns-then-has_form c = rw (sym c.has_form.ensures ∙ c.if-has_form.true, ← c.unit_at-code.ensures, ← c.unit_at.ensures) c.unless_none.ensures

pub unit_at-unit-requires : goal.unit_at-unit-requires
unit_at-unit-requires c = omega (arith, form_length _ _ (sym c.has_form-2.ensures ∙ c.if-has_form-2.true))

pub unit_at-requires-then-has_form-2 : goal.unit_at-requires-then-has_form-2
unit_at-requires-then-has_form-2 c = omega (arith, form_length _ _ (sym c.has_form-2.ensures ∙ c.if-has_form-2.true))

pub returns-then-has_form-2 : goal.returns-then-has_form-2
unfolding record_of
returns-then-has_form-2 c =
    rw (sym c.has_form.ensures ∙ c.if-has_form.false, sym c.has_form-2.ensures ∙ c.if-has_form-2.true, ← c.unit_at-unit.ensures, ← c.unit_at-then-has_form-2.ensures) c.unless_none-then-has_form-2.ensures

pub unit_at-unit-requires-then-has_form-3 : goal.unit_at-unit-requires-then-has_form-3
unit_at-unit-requires-then-has_form-3 c = omega (arith, form_length _ _ (sym c.has_form-3.ensures ∙ c.if-has_form-3.true))

pub byte_at-requires : goal.byte_at-requires
byte_at-requires c = omega (arith, form_length _ _ (sym c.has_form-3.ensures ∙ c.if-has_form-3.true))

pub returns-then-has_form-3 : goal.returns-then-has_form-3
unfolding record_of
returns-then-has_form-3 c =
    rw (sym c.has_form.ensures ∙ c.if-has_form.false, sym c.has_form-2.ensures ∙ c.if-has_form-2.false, sym c.has_form-3.ensures ∙ c.if-has_form-3.true, ← c.unit_at-unit-then-has_form-3.ensures, ← c.byte_at.ensures) c.unless_none-then-has_form-3.ensures

pub byte_at-requires-then-has_form-4 : goal.byte_at-requires-then-has_form-4
byte_at-requires-then-has_form-4 c = omega (arith, form_length _ _ (sym c.has_form-4.ensures ∙ c.if-has_form-4.true))

pub returns-then-has_form-4 : goal.returns-then-has_form-4
unfolding record_of
returns-then-has_form-4 c =
    rw (sym c.has_form.ensures ∙ c.if-has_form.false, sym c.has_form-2.ensures ∙ c.if-has_form-2.false, sym c.has_form-3.ensures ∙ c.if-has_form-3.false, sym c.has_form-4.ensures ∙ c.if-has_form-4.true, ← c.byte_at-then-has_form-4.ensures)

pub byte_at-requires-then-has_form-5 : goal.byte_at-requires-then-has_form-5
byte_at-requires-then-has_form-5 c = omega (arith, form_length _ _ (sym c.has_form-5.ensures ∙ c.if-has_form-5.true))

pub returns-then-has_form-5 : goal.returns-then-has_form-5
unfolding record_of
returns-then-has_form-5 c =
    rw (sym c.has_form.ensures ∙ c.if-has_form.false, sym c.has_form-2.ensures ∙ c.if-has_form-2.false, sym c.has_form-3.ensures ∙ c.if-has_form-3.false, sym c.has_form-4.ensures ∙ c.if-has_form-4.false, sym c.has_form-5.ensures ∙ c.if-has_form-5.true, ← c.byte_at-then-has_form-5.ensures)

pub byte_at-requires-then-has_form-6 : goal.byte_at-requires-then-has_form-6
byte_at-requires-then-has_form-6 c = omega (arith, form_length _ _ (sym c.has_form-6.ensures ∙ c.if-has_form-6.true))

pub returns-then-has_form-6 : goal.returns-then-has_form-6
unfolding record_of
returns-then-has_form-6 c =
    rw (sym c.has_form.ensures ∙ c.if-has_form.false, sym c.has_form-2.ensures ∙ c.if-has_form-2.false, sym c.has_form-3.ensures ∙ c.if-has_form-3.false, sym c.has_form-4.ensures ∙ c.if-has_form-4.false, sym c.has_form-5.ensures ∙ c.if-has_form-5.false, sym c.has_form-6.ensures ∙ c.if-has_form-6.true, ← c.byte_at-then-has_form-6.ensures)

pub byte_at-requires-then-has_form-7 : goal.byte_at-requires-then-has_form-7
byte_at-requires-then-has_form-7 c = omega (arith, form_length _ _ (sym c.has_form-7.ensures ∙ c.if-has_form-7.true))

pub unit_at-requires-then-has_form-7 : goal.unit_at-requires-then-has_form-7
unit_at-requires-then-has_form-7 c = omega (arith, form_length _ _ (sym c.has_form-7.ensures ∙ c.if-has_form-7.true))

pub returns-then-has_form-7 : goal.returns-then-has_form-7
unfolding record_of
returns-then-has_form-7 c =
    rw (sym c.has_form.ensures ∙ c.if-has_form.false, sym c.has_form-2.ensures ∙ c.if-has_form-2.false, sym c.has_form-3.ensures ∙ c.if-has_form-3.false, sym c.has_form-4.ensures ∙ c.if-has_form-4.false, sym c.has_form-5.ensures ∙ c.if-has_form-5.false, sym c.has_form-6.ensures ∙ c.if-has_form-6.false, sym c.has_form-7.ensures ∙ c.if-has_form-7.true, ← c.byte_at-then-has_form-7.ensures, ← c.unit_at-then-has_form-7.ensures)

pub returns : goal.returns
unfolding record_of
returns c =
    rw (sym c.has_form.ensures ∙ c.if-has_form.false, sym c.has_form-2.ensures ∙ c.if-has_form-2.false, sym c.has_form-3.ensures ∙ c.if-has_form-3.false, sym c.has_form-4.ensures ∙ c.if-has_form-4.false, sym c.has_form-5.ensures ∙ c.if-has_form-5.false, sym c.has_form-6.ensures ∙ c.if-has_form-6.false, sym c.has_form-7.ensures ∙ c.if-has_form-7.false) c.page_of.ensures
