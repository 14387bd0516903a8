use mathlib.Core.List.{◌++◌}
use Rattle.checkpoint.specs.Line.{decimal, field_of}
use Rattle.checkpoint.proofs.WriteLaws.{put_then, put_room, front_room}
use Rattle.checkpoint.proofs.writer.put_totals.Goals as goal

pub put_number-read_at-requires : goal.put_number-read_at-requires
put_number-read_at-requires c =
    front_room (field_of (decimal c.args.run.flags)) (field_of (decimal c.args.run.read)) _ _ (front_room ((field_of (decimal c.args.run.flags)) ++ (field_of (decimal c.args.run.read))) (field_of (decimal c.args.run.written)) _ _ c.requires)

pub put_number-written_at-requires : goal.put_number-written_at-requires
put_number-written_at-requires c =
    put_room (field_of (decimal c.args.run.read)) c.put_number-read_at.ensures (front_room ((field_of (decimal c.args.run.flags)) ++ (field_of (decimal c.args.run.read))) (field_of (decimal c.args.run.written)) _ _ c.requires)

pub put_number-requires : goal.put_number-requires
put_number-requires c =
    put_room (field_of (decimal c.args.run.written)) (put_then c.put_number-read_at.ensures c.put_number-written_at.ensures) c.requires

pub returns : goal.returns
returns c = put_then (put_then c.put_number-read_at.ensures c.put_number-written_at.ensures) c.put_number.ensures
