use mathlib.Core.Path.{◌≡◌}
use lib.ListN.{drop}
use Rattle.listing.specs.Form.{has_form}
use Rattle.listing.proofs.form.has_form.Given as goal

abbrev pub invariant-loop-i : goal.invariant-loop-i
invariant-loop-i l = has_form l.form l.line ≡ has_form (drop l.i l.form) (drop l.i l.line)
