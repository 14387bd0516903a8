use Rattle.fields.proofs.WordLaws.{four_marked}
use Rattle.fields.proofs.marks_of.Goals as goal

pub returns : goal.returns
returns c =
    four_marked c.args.block.now c.args.i c.requires c.word_at-word.ensures c.mark_nonzero.ensures c.mark_nonzero-2.ensures
