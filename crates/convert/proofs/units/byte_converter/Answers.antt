use Rattle.convert.proofs.units.byte_converter.Goals as goal

pub invariant_of-bytes : goal.invariant_of-bytes
invariant_of-bytes c =
    record { all_classes = c.requires.classes; all_singles = c.requires.singles; all_pairs = c.requires.pairs; known = c.requires.class; no_low_lead = c.requires.low }
