use Rattle.engine_loops.proofs.CountLaws.{count_whole}
use native.Mathlib.Omega.{arith}
use Rattle.engine_loops.proofs.counter.count_decoded.Goals as goal

pub returns-then-all_plain_bytes : goal.returns-then-all_plain_bytes
returns-then-all_plain_bytes c = count_whole _ _ (omega (arith, c.well_formed.1.0)) (c.all_plain_bytes.ensures c.if-all_plain_bytes.true _)
