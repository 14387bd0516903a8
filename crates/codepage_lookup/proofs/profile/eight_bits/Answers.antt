use Rattle.codepage_lookup.proofs.LeadLaws.{eight_leads}
use Rattle.codepage_lookup.proofs.profile.eight_bits.Goals as goal

pub returns : goal.returns
returns c =
    eight_leads _ _ _ c.word_at-word.ensures c.requires.known_classes c.requires.classes_len.1
