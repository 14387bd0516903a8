use mathlib.Core.Path.{sym, ◌∙◌}
use Rattle.engine_fastpath.proofs.MetLaws.{met_start, met_single, met_pair}
use native.Mathlib.Omega.{arith}
use Rattle.engine_fastpath.proofs.counted.met_few.Goals as goal

pub loop-k-init : goal.loop-k-init
loop-k-init c = (omega arith, omega arith, omega arith, met_start c.requires)

pub loop-k-preserved-then-is_lead : goal.loop-k-preserved-then-is_lead
loop-k-preserved-then-is_lead c =
    let lead = sym c.is_lead.ensures ∙ c.if-is_lead.true in
    (omega arith, omega arith, c.loop-k.invariant.2, met_pair _ _ _ c.loop-k.invariant.3 c.pair_unit-unit.result (omega arith) lead (c.pair_unit-unit.ensures c.if-unit.false))

pub loop-k-preserved : goal.loop-k-preserved
loop-k-preserved c =
    (omega arith, omega arith, c.loop-k.invariant.2, met_single _ _ _ c.loop-k.invariant.3 c.single_unit-unit.result (omega arith) (sym c.is_lead.ensures ∙ c.if-is_lead.false) (c.single_unit-unit.ensures c.if-unit-2.false))
