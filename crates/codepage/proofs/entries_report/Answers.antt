use mathlib.Core.Path.{sym, ◌∙◌}
use Rattle.codepage.specs.CodePage.{entries_fault, class_fault}
use Rattle.codepage.proofs.ShapeLaws.{below_some, below_none}
use Rattle.codepage.proofs.entries_report.Goals as goal

pub returns-then-is_known_class : goal.returns-then-is_known_class
unfolding entries_fault class_fault
returns-then-is_known_class c = let (t, e) = below_some 256 _ _ (sym c.first_bad_class.ensures ∙ c.in-Some.is) in rw (t, e, sym c.is_known_class.ensures ∙ c.if-is_known_class.true)

pub returns-in-Some : goal.returns-in-Some
unfolding entries_fault class_fault
returns-in-Some c = let (t, e) = below_some 256 _ _ (sym c.first_bad_class.ensures ∙ c.in-Some.is) in rw (t, e, sym c.is_known_class.ensures ∙ c.if-is_known_class.false)

pub returns-in-Some-first_bad_number : goal.returns-in-Some-first_bad_number
unfolding entries_fault
returns-in-Some-first_bad_number c =
    let none = below_none 256 _ (sym c.first_bad_class.ensures ∙ c.in_default.is) in
    let (t, e) = below_some 256 _ _ (sym c.first_bad_number.ensures ∙ c.in-Some-first_bad_number.is) in
    rw (none, t, e)

pub returns : goal.returns
unfolding entries_fault
returns c =
    let no_class = below_none 256 _ (sym c.first_bad_class.ensures ∙ c.in_default.is) in
    let no_number = below_none 256 _ (sym c.first_bad_number.ensures ∙ c.in_default-first_bad_number.is) in
    rw (no_class, no_number)
