use mathlib.Core.Path.{sym, ◌∙◌}
use Rattle.codepage.specs.Reading.{byte_alone}
use Rattle.codepage_lookup.proofs.byte_alone.Goals as goal

pub returns-then-is_single_class : goal.returns-then-is_single_class
unfolding byte_alone
returns-then-is_single_class c = c.found.ensures ∙ sym (rw (sym c.is_single_class.ensures ∙ c.if-is_single_class.true))

pub returns : goal.returns
unfolding byte_alone
returns c = rw (sym c.is_single_class.ensures ∙ c.if-is_single_class.false)
