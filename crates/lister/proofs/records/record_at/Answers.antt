use Rattle.lister.proofs.records.record_at.Goals as goal

pub invariant_of-bytes : goal.invariant_of-bytes
invariant_of-bytes c = record { all_classes = c.requires.good_shape.classes; all_singles = c.requires.good_shape.singles; all_pairs = c.requires.good_shape.pairs; known = c.requires.good_shape.class; no_low_lead = c.requires.good_shape.low }
