use mathlib.Core.Path.{sym, ◌∙◌}
use Rattle.engine_fastpath.proofs.MetLaws.{met_start, met_at, met_pair}
use native.Mathlib.Omega.{arith}
use Rattle.engine_fastpath.proofs.counted.met_pairs.Goals as goal

pub loop-k-init : goal.loop-k-init
loop-k-init c = (omega arith, met_at (met_start (omega arith)) (omega arith) (omega arith))

pub loop-k-preserved : goal.loop-k-preserved
loop-k-preserved c =
    let lead = sym c.is_lead.ensures ∙ c.if-not-is_lead.false in
    (omega arith, met_at (met_pair _ _ _ (c.loop-k.invariant.1) c.pair_unit-unit.result (omega arith) lead (c.pair_unit-unit.ensures c.if-unit.false)) (omega arith) (omega arith))
