use native.Mathlib.Omega.{arith}
use Rattle.checkpoint.specs.Line.{pending_of}
use Rattle.checkpoint.proofs.LineLaws.{field_length}
use Rattle.checkpoint.proofs.WriteLaws.{put_same, put_tab}
use Rattle.checkpoint.proofs.writer.put_pending_field.Goals as goal

pub put_pending-end-requires : goal.put_pending-end-requires
put_pending-end-requires c =
    omega (arith, c.requires, field_length (pending_of c.args.pending))

pub bounds-out-end : goal.bounds-out-end
bounds-out-end c =
    omega (arith, c.requires, field_length (pending_of c.args.pending), c.put_pending-end.ensures.next_is, put_same c.put_pending-end.ensures)

pub overflow_add-result : goal.overflow_add-result
overflow_add-result c =
    omega (arith, c.requires, field_length (pending_of c.args.pending), c.put_pending-end.ensures.next_is)

pub returns : goal.returns
returns c = put_tab c.put_pending-end.ensures
