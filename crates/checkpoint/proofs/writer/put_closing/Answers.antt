use mathlib.Core.Path.{ap}
use mathlib.Core.Bool.{Bool, true, false}
use native.Mathlib.Omega.{arith}
use lib.ListN.{length}
use Rattle.checkpoint.specs.Line.{closing_of}
use Rattle.checkpoint.proofs.WriteLaws.{closing_is}
use Rattle.checkpoint.proofs.writer.put_closing.Goals as goal

pub put_bytes-requires : goal.put_bytes-requires
unfolding closing_of
put_bytes-requires c = let e = ap (λ (b : Bool). length (closing_of b)) c.if-ended.true in omega (arith, e)

pub returns-then-ended : goal.returns-then-ended
unfolding closing_of
returns-then-ended c = closing_is _ true c.if-ended.true c.put_bytes.ensures

pub put_bytes-requires-else-ended : goal.put_bytes-requires-else-ended
unfolding closing_of
put_bytes-requires-else-ended c = let e = ap (λ (b : Bool). length (closing_of b)) c.if-ended.false in omega (arith, e)

pub returns-else-ended : goal.returns-else-ended
unfolding closing_of
returns-else-ended c = closing_is _ false c.if-ended.false c.put_bytes-else-ended.ensures
