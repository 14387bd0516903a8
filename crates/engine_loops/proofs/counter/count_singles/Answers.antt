use mathlib.Core.Path.{ap}
use Rattle.engine_loops.specs.declared.turns.Turn.{Turn}
use Rattle.engine_loops.proofs.CountLaws.{count_start, count_end}
use native.Mathlib.Omega.{arith}
use Rattle.engine_loops.proofs.counter.count_singles.Goals as goal

pub loop-t-init : goal.loop-t-init
loop-t-init c = (count_start _ _ (omega (arith, c.well_formed.1.0)) c.start-t.ensures, ap (λ (x : Turn). x.waits) c.start-t.ensures)

pub returns : goal.returns
returns c = count_end c.loop-t.invariant.0 c.loop-t.invariant.1 (omega (arith, c.loop-t-test.false))
