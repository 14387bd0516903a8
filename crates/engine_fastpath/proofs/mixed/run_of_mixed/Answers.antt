use Rattle.engine_fastpath.proofs.MixedLaws.{room_left_lem}
use Rattle.engine_fastpath.proofs.RunLaws.{ran_start, ran_join}
use mathlib.Core.Path.{refl}
use native.Mathlib.Omega.{arith}
use Rattle.engine_fastpath.proofs.mixed.run_of_mixed.Goals as goal

pub loop-i-init : goal.loop-i-init
loop-i-init c = (omega arith, omega arith, refl, ran_start c.requires.from_in_bounds.0 c.requires.from_in_bounds.1)

pub loop-i-preserved : goal.loop-i-preserved
loop-i-preserved c =
    let ran = ran_join c.loop-i.invariant.3 c.take_mixed-place.ensures.2 in
    (omega (arith, c.take_mixed-place.ensures.0, c.loop-i.invariant.0), room_left_lem _ _ _ _ _ _ c.loop-i.invariant.0 c.take_mixed-place.ensures.1 c.loop-i.invariant.1, ran.same, ran)
