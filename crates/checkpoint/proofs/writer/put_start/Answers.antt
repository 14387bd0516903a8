use mathlib.Core.List.{◌++◌}
use Rattle.checkpoint.specs.Line.{decimal, letter_of, digits_of, field_of}
use Rattle.checkpoint.proofs.LineLaws.{bounded}
use Rattle.checkpoint.proofs.WriteLaws.{put_then, put_room, front_room}
use Rattle.checkpoint.proofs.writer.put_start.Goals as goal

pub put_letter-page_at-requires : goal.put_letter-page_at-requires
put_letter-page_at-requires c =
    front_room (field_of (letter_of c.args.run.direction)) (field_of (decimal c.args.run.page)) _ _ (front_room ((field_of (letter_of c.args.run.direction)) ++ (field_of (decimal c.args.run.page))) (field_of (digits_of c.args.run.policy)) _ _ c.requires.run_in_bounds)

pub put_number-digits_at-requires : goal.put_number-digits_at-requires
put_number-digits_at-requires c =
    put_room (field_of (decimal c.args.run.page)) c.put_letter-page_at.ensures (front_room ((field_of (letter_of c.args.run.direction)) ++ (field_of (decimal c.args.run.page))) (field_of (digits_of c.args.run.policy)) _ _ c.requires.run_in_bounds)

pub put_digits-requires : goal.put_digits-requires
put_digits-requires c = let d = (bounded c.args.run c.requires.run_value).digits in record { single_bound = (d.single, d.pair, d.invalid); policy_in_bounds = put_room (field_of (digits_of c.args.run.policy)) (put_then c.put_letter-page_at.ensures c.put_number-digits_at.ensures) c.requires.run_in_bounds }

pub returns : goal.returns
returns c = put_then (put_then c.put_letter-page_at.ensures c.put_number-digits_at.ensures) c.put_digits.ensures
