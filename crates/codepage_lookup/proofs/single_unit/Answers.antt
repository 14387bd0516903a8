use Rattle.codepage_lookup.proofs.ProfileLaws.{found_entry}
use Rattle.codepage.specs.Reading.{byte_alone}
use mathlib.Core.Path.{sym, ◌∙◌}
use Rattle.codepage_lookup.proofs.single_unit.Goals as goal

pub returns-then-is_single_class : goal.returns-then-is_single_class
unfolding byte_alone
returns-then-is_single_class c = λ n. rw (sym c.is_single_class.ensures ∙ c.if-is_single_class.true) (found_entry _ _ n)
