use mathlib.Core.Path.{◌∙◌}
use Rattle.codepage_lookup.proofs.LeadLaws.{shifted_ones}
use Rattle.codepage_lookup.proofs.profile.ones_below.Goals as goal

pub returns : goal.returns
returns c =
    (c.ones_of.ensures.0 ∙ shifted_ones c.args.word c.args.place c.requires, c.ones_of.ensures.1)
