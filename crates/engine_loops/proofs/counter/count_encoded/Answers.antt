use Rattle.engine_loops.proofs.CountLaws.{count_whole}
use native.Mathlib.Omega.{arith}
use Rattle.engine_loops.proofs.counter.count_encoded.Goals as goal

pub returns-then-all_plain_units : goal.returns-then-all_plain_units
returns-then-all_plain_units c = count_whole _ _ (omega (arith, c.well_formed.1.0)) (c.all_plain_units.ensures c.if-all_plain_units.true)
