use mathlib.Core.List.{◌++◌}
use Rattle.checkpoint.specs.Line.{pending_of, field_of, closing_of}
use Rattle.checkpoint.specs.Places.{start_fields, total_fields}
use Rattle.checkpoint.proofs.WriteLaws.{put_then, put_room, front_room, line_room, line_parts, put_is}
use Rattle.checkpoint.proofs.writer.put_line.Goals as goal

pub put_start-pending_at-requires : goal.put_start-pending_at-requires
put_start-pending_at-requires c = record { run_value = c.requires.run_value; run_in_bounds = front_room (start_fields c.args.run) (field_of (pending_of c.args.run.pending)) _ _ (front_room ((start_fields c.args.run) ++ (field_of (pending_of c.args.run.pending))) (total_fields c.args.run) _ _ (front_room ((start_fields c.args.run) ++ (field_of (pending_of c.args.run.pending)) ++ (total_fields c.args.run)) (closing_of c.args.run.ended) _ _ (line_room c.args.run _ c.requires.run_in_bounds))) }

pub put_pending_field-flags_at-requires : goal.put_pending_field-flags_at-requires
put_pending_field-flags_at-requires c =
    put_room (field_of (pending_of c.args.run.pending)) c.put_start-pending_at.ensures (front_room ((start_fields c.args.run) ++ (field_of (pending_of c.args.run.pending))) (total_fields c.args.run) _ _ (front_room ((start_fields c.args.run) ++ (field_of (pending_of c.args.run.pending)) ++ (total_fields c.args.run)) (closing_of c.args.run.ended) _ _ (line_room c.args.run _ c.requires.run_in_bounds)))

pub put_totals-closing_at-requires : goal.put_totals-closing_at-requires
put_totals-closing_at-requires c =
    put_room (total_fields c.args.run) (put_then c.put_start-pending_at.ensures c.put_pending_field-flags_at.ensures) (front_room ((start_fields c.args.run) ++ (field_of (pending_of c.args.run.pending)) ++ (total_fields c.args.run)) (closing_of c.args.run.ended) _ _ (line_room c.args.run _ c.requires.run_in_bounds))

pub put_closing-requires : goal.put_closing-requires
put_closing-requires c =
    put_room (closing_of c.args.run.ended) (put_then (put_then c.put_start-pending_at.ensures c.put_pending_field-flags_at.ensures) c.put_totals-closing_at.ensures) (line_room c.args.run _ c.requires.run_in_bounds)

pub returns : goal.returns
returns c =
    put_is (line_parts c.args.run) (put_then (put_then (put_then c.put_start-pending_at.ensures c.put_pending_field-flags_at.ensures) c.put_totals-closing_at.ensures) c.put_closing.ensures)
