use mathlib.Core.Path.{refl, sym}
use lib.Seq.{length-take-le}
use borrow.Author.Tests.{le-leb, lt-leb}
use Rattle.fields.proofs.first.Goals as goal

pub slice_bounds-result-end : goal.slice_bounds-result-end
slice_bounds-result-end c = sym (length-take-le _ _ c.if-count-units.true)

pub returns-then-count-units : goal.returns-then-count-units
returns-then-count-units c = (refl, simp (le-leb _ _ c.if-count-units.true))

pub returns : goal.returns
returns c = (refl, simp (lt-leb _ _ c.if-count-units.false))
