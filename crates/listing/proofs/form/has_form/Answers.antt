use mathlib.Core.Path.{sym, ◌∙◌}
use native.Mathlib.Omega.{arith}
use Rattle.listing.proofs.FormLaws.{form_other, form_turn, form_differs, form_end}
use Rattle.listing.proofs.form.has_form.Goals as goal

pub returns-then-form-line : goal.returns-then-form-line
returns-then-form-line c = sym (form_other _ _ c.if-form-line.true)

pub returns-then-not-fits_symbol : goal.returns-then-not-fits_symbol
returns-then-not-fits_symbol c = sym (c.loop-i.invariant ∙ form_differs _ _ c.loop-i.i (omega arith) (omega arith) (sym c.fits_symbol.ensures ∙ c.if-not-fits_symbol.true))

pub loop-i-preserved : goal.loop-i-preserved
loop-i-preserved c = c.loop-i.invariant ∙ form_turn _ _ c.loop-i.i (omega arith) (omega arith) (sym c.fits_symbol.ensures ∙ c.if-not-fits_symbol.false)

pub returns : goal.returns
returns c = sym (c.loop-i.invariant ∙ form_end _ _ c.loop-i.i (omega arith) (omega arith))
