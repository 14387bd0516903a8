use native.Mathlib.Omega.{arith}
use lib.Bits.{bit_xor}
use lib.Count.{trailing_le}
use Rattle.fields.proofs.WordLaws.{four_first}
use Rattle.fields.proofs.first_unmarked.Goals as goal

pub overflow_cast-result : goal.overflow_cast-result
overflow_cast-result c = omega (arith, trailing_le 64 (bit_xor c.args.marks 0x8000800080008000))

pub returns : goal.returns
returns c = (omega (arith, trailing_le 64 (bit_xor c.args.marks 0x8000800080008000)), λ units q e. four_first units q e)
