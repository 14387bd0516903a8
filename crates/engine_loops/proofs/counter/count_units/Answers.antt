use mathlib.Core.Bool.{false≢true}
use mathlib.Core.Path.{sym, ap, ◌∙◌}
use Rattle.engine_loops.specs.declared.turns.Turn.{Turn}
use Rattle.engine_loops.proofs.CountLaws.{count_start}
use native.Mathlib.Omega.{arith}
use Rattle.engine_loops.proofs.counter.count_units.Goals as goal

pub loop-t-init : goal.loop-t-init
loop-t-init c =
    (count_start _ _ (omega (arith, c.well_formed.1.1.0)) c.start-t.ensures, λ w. absurd (false≢true (sym (ap (λ (x : Turn). x.waits) c.start-t.ensures) ∙ w)))
