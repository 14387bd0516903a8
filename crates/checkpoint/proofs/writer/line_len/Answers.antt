use mathlib.Core.Path.{ap}
use Prim.Native.Nat.{ℕ}
use lib.ListN.{length}
use Rattle.checkpoint.specs.Line.{decimal}
use native.Mathlib.Omega.{arith}
use Rattle.checkpoint.proofs.LineLaws.{line_length, letter_length}
use Rattle.checkpoint.proofs.writer.line_len.Goals as goal

pub returns : goal.returns
returns c =
    omega (
      arith,
      line_length c.args.run,
      letter_length c.args.run.direction,
      c.decimal_len.ensures.value,
      ap (λ (n : ℕ). length (decimal n)) c.from.ensures,
      ap (λ (n : ℕ). length (decimal n)) c.from-2.ensures,
      c.decimal_len-2.ensures.value,
      c.decimal_len-3.ensures.value,
      c.decimal_len-4.ensures.value,
      c.pending_len.ensures.value,
      c.closing_len.ensures.value,
    )
