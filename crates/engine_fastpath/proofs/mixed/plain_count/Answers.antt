use lib.Bits.{bit_and}
use lib.Count.{trailing_le}
use Rattle.engine_fastpath.proofs.MixedLaws.{plain_before}
use native.Mathlib.Omega.{arith}
use Rattle.engine_fastpath.proofs.mixed.plain_count.Goals as goal

pub returns : goal.returns
returns c = (omega (arith, trailing_le 64 (bit_and c.args.word 0x8080808080808080)), λ piece i a k b. plain_before a k b)
