use native.Mathlib.Omega.{arith}
use lib.Bits.{and_le_r}
use Rattle.fields.proofs.mark_nonzero.Goals as goal

pub overflow_add-result : goal.overflow_add-result
overflow_add-result c = omega (arith, and_le_r c.args.word 0x7FFF7FFF7FFF7FFF)
