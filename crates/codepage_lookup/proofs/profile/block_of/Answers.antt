use mathlib.Core.Path.{◌∙◌}
use Rattle.codepage_lookup.proofs.LeadLaws.{block_at}
use Rattle.codepage_lookup.proofs.profile.block_of.Goals as goal

pub returns : goal.returns
returns c =
    c.block_counted.ensures ∙ block_at _ _ c.requires.0 c.requires.1 _ c.requires.2
