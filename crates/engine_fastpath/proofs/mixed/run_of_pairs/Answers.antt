use Rattle.engine_fastpath.proofs.RunLaws.{ran_start, ran_at, ran_pair}
use mathlib.Core.Path.{refl, sym, ◌∙◌}
use lib.ListN.{length-set}
use native.Mathlib.Omega.{arith}
use Rattle.engine_fastpath.proofs.mixed.run_of_pairs.Goals as goal

pub loop-k-init : goal.loop-k-init
loop-k-init c = (omega arith, refl, ran_at (ran_start (omega arith) (omega arith)) (omega arith) (omega arith))

pub loop-k-preserved : goal.loop-k-preserved
loop-k-preserved c =
    let lead = sym c.is_known_lead.ensures ∙ c.if-not-is_known_lead.false in (
      omega arith,
      simp length-set c.loop-k.invariant.1,
      ran_at (ran_pair _ _ _ c.loop-k.invariant.2 c.pair_unit-unit.result (omega arith) (omega arith) lead (c.pair_unit-unit.ensures c.if-unit.false)) (omega arith) (omega arith),
    )
