use mathlib.Core.Path.{sym, ◌∙◌}
use Rattle.codepage_lookup.proofs.ProfileLaws.{settled_pair, settled_alone}
use Rattle.codepage_lookup.proofs.settle_high.Goals as goal

pub returns-then-is_low : goal.returns-then-is_low
returns-then-is_low c = λ index blocks high h. settled_pair index blocks high _ (sym c.is_low.ensures ∙ c.if-is_low.true)

pub returns : goal.returns
returns c = λ index blocks high h. settled_alone index blocks high _ h (sym c.is_low.ensures ∙ c.if-is_low.false)
