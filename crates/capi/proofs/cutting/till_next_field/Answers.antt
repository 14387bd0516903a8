use Rattle.capi.proofs.CuttingLaws.{called_so}
use Rattle.capi.proofs.cutting.till_next_field.Goals as goal

pub returns : goal.returns
returns c =
    called_so c.args.held c.args.buffer.now c.args.block.now c.args.last _ _ _ _ _ c.is_last.ensures c.next_field-answer.ensures c.field_out.ensures
