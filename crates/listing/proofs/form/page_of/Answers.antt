use mathlib.Core.Path.{sym, ◌∙◌}
use native.Mathlib.Omega.{arith}
use Rattle.listing.specs.Form.{page_of}
use Rattle.listing.proofs.FormLaws.{form_length}
use Rattle.listing.proofs.form.page_of.Goals as goal

pub page_at-requires : goal.page_at-requires
page_at-requires c = (omega arith, omega (arith, form_length _ _ (sym c.has_form.ensures ∙ c.if-has_form.true)))

pub returns-then-has_form : goal.returns-then-has_form
unfolding page_of
returns-then-has_form c = rw (sym c.has_form.ensures ∙ c.if-has_form.true) c.page_at.ensures

pub page_at-requires-then-has_form-2 : goal.page_at-requires-then-has_form-2
page_at-requires-then-has_form-2 c = (omega arith, omega (arith, form_length _ _ (sym c.has_form-2.ensures ∙ c.if-has_form-2.true)))

pub returns-then-has_form-2 : goal.returns-then-has_form-2
unfolding page_of
returns-then-has_form-2 c = rw (sym c.has_form.ensures ∙ c.if-has_form.false, sym c.has_form-2.ensures ∙ c.if-has_form-2.true) c.page_at-then-has_form-2.ensures

pub page_at-requires-then-has_form-3 : goal.page_at-requires-then-has_form-3
page_at-requires-then-has_form-3 c = (omega arith, omega (arith, form_length _ _ (sym c.has_form-3.ensures ∙ c.if-has_form-3.true)))

pub returns-then-has_form-3 : goal.returns-then-has_form-3
unfolding page_of
returns-then-has_form-3 c =
    rw (sym c.has_form.ensures ∙ c.if-has_form.false, sym c.has_form-2.ensures ∙ c.if-has_form-2.false, sym c.has_form-3.ensures ∙ c.if-has_form-3.true) c.page_at-then-has_form-3.ensures

pub page_at-requires-then-has_form-4 : goal.page_at-requires-then-has_form-4
page_at-requires-then-has_form-4 c = (omega arith, omega (arith, form_length _ _ (sym c.has_form-4.ensures ∙ c.if-has_form-4.true)))

pub returns-then-has_form-4 : goal.returns-then-has_form-4
unfolding page_of
returns-then-has_form-4 c =
    rw (sym c.has_form.ensures ∙ c.if-has_form.false, sym c.has_form-2.ensures ∙ c.if-has_form-2.false, sym c.has_form-3.ensures ∙ c.if-has_form-3.false, sym c.has_form-4.ensures ∙ c.if-has_form-4.true) c.page_at-then-has_form-4.ensures

pub page_at-requires-then-has_form-5 : goal.page_at-requires-then-has_form-5
page_at-requires-then-has_form-5 c = (omega arith, omega (arith, form_length _ _ (sym c.has_form-5.ensures ∙ c.if-has_form-5.true)))

pub returns-then-has_form-5 : goal.returns-then-has_form-5
unfolding page_of
returns-then-has_form-5 c =
    rw (sym c.has_form.ensures ∙ c.if-has_form.false, sym c.has_form-2.ensures ∙ c.if-has_form-2.false, sym c.has_form-3.ensures ∙ c.if-has_form-3.false, sym c.has_form-4.ensures ∙ c.if-has_form-4.false, sym c.has_form-5.ensures ∙ c.if-has_form-5.true) c.page_at-then-has_form-5.ensures

pub returns : goal.returns
unfolding page_of
returns c =
    rw (sym c.has_form.ensures ∙ c.if-has_form.false, sym c.has_form-2.ensures ∙ c.if-has_form-2.false, sym c.has_form-3.ensures ∙ c.if-has_form-3.false, sym c.has_form-4.ensures ∙ c.if-has_form-4.false, sym c.has_form-5.ensures ∙ c.if-has_form-5.false)
