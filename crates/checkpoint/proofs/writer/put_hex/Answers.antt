use native.Mathlib.Omega.{arith}
use lib.ListN.{length-set}
use Rattle.checkpoint.proofs.WriteLaws.{hex_digits, put_two}
use Rattle.checkpoint.proofs.writer.put_hex.Goals as goal

pub bounds-out-at-2 : goal.bounds-out-at-2
bounds-out-at-2 c = simp length-set (omega (arith, c.requires))

pub returns : goal.returns
returns c = put_two _ _ _ _ _ (hex_digits c.args.byte _ _ c.hex_byte.ensures c.hex_byte-2.ensures)
