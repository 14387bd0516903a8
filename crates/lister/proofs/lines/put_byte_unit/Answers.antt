use native.Mathlib.Omega.{arith}
use Rattle.lister.proofs.LineLaws.{over_sets}
use Rattle.lister.proofs.lines.put_byte_unit.Goals as goal

pub returns : goal.returns
returns c =
    rw (← c.hex_byte.ensures, ← c.hex_byte-2.ensures, ← c.hex_byte-3.ensures, ← c.hex_byte-4.ensures, ← c.hex_byte-5.ensures, ← c.hex_byte-6.ensures) (over_sets _ _ (omega arith))
