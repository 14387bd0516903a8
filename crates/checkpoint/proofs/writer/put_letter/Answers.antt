use mathlib.Core.Path.{ap}
use native.Mathlib.Omega.{arith}
use lib.ListN.{length, length-set}
use Rattle.checkpoint.proofs.WriteLaws.{letter_field, put_two}
use Rattle.checkpoint.proofs.writer.put_letter.Goals as goal

pub bounds-out-at : goal.bounds-out-at
bounds-out-at c = omega (arith, ap length (letter_field c.args.direction _ c.letter_byte.ensures))

pub bounds-out-at-2 : goal.bounds-out-at-2
bounds-out-at-2 c = simp length-set (omega (arith, ap length (letter_field c.args.direction _ c.letter_byte.ensures)))

pub returns : goal.returns
returns c = put_two _ _ _ _ _ (letter_field c.args.direction _ c.letter_byte.ensures)
