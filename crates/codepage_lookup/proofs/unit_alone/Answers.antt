use Rattle.codepage_lookup.proofs.ProfileLaws.{alone_invalid, alone_entry}
use mathlib.Core.Path.{sym, ◌∙◌}
use Rattle.codepage_lookup.proofs.unit_alone.Goals as goal

pub returns-then-is_surrogate : goal.returns-then-is_surrogate
returns-then-is_surrogate c = sym (alone_invalid _ _ _ (sym c.is_surrogate.ensures ∙ c.if-is_surrogate.true))

pub returns : goal.returns
returns c = alone_entry _ _ _ _ _ (sym c.is_surrogate.ensures ∙ c.if-is_surrogate.false) c.unit_entry.ensures c.found.ensures
