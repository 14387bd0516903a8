use mathlib.Core.Path.{refl}
use Prim.Native.Nat.{◌+◌}
use native.Mathlib.Omega.{arith}
use Rattle.engine_fastpath.proofs.RunLaws.{singles_start, singles_at_lem, singles_join}
use Rattle.engine_fastpath.proofs.runs.run_of_alone.Goals as goal

pub loop-k-init : goal.loop-k-init
loop-k-init c = (omega arith, refl, singles_start _ _ _ _ _ (omega arith) (omega arith))

pub returns-then-taken-lt4 : goal.returns-then-taken-lt4
returns-then-taken-lt4 c = (omega arith, singles_join c.loop-k.invariant.2 c.take_four-taken.ensures.1)

pub loop-k-preserved : goal.loop-k-preserved
loop-k-preserved c =
    let all = singles_at_lem {j = c.loop-k.k + 4} (singles_join c.loop-k.invariant.2 c.take_four-taken.ensures.1) (omega arith) in
    (omega arith, all.same, all)

pub returns : goal.returns
returns c = (omega arith, singles_join c.loop-k.invariant.2 c.run_of_few.ensures.1)
