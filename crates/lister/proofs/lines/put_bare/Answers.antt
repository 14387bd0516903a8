use native.Mathlib.Omega.{arith}
use Rattle.lister.proofs.LineLaws.{over_sets}
use Rattle.lister.proofs.lines.put_bare.Goals as goal

pub returns : goal.returns
returns c = rw (← c.hex_byte.ensures, ← c.hex_byte-2.ensures) (over_sets _ _ (omega arith))
