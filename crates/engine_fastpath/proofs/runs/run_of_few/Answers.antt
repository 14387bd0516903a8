use mathlib.Core.Path.{refl}
use Prim.Native.Nat.{◌+◌}
use native.Mathlib.Omega.{arith}
use Rattle.engine_fastpath.proofs.RunLaws.{singles_start, singles_at_lem, singles_join}
use Rattle.engine_fastpath.proofs.runs.run_of_few.Goals as goal

pub loop-k-init : goal.loop-k-init
loop-k-init c = (omega arith, refl, singles_start _ _ _ _ _ (omega arith) (omega arith))

pub returns-then-taken-lt1 : goal.returns-then-taken-lt1
returns-then-taken-lt1 c =
    (c.loop-k.invariant.0, singles_at_lem (singles_join c.loop-k.invariant.2 c.take_one-taken.ensures.1) (omega arith))

pub loop-k-preserved : goal.loop-k-preserved
loop-k-preserved c =
    let all = singles_at_lem {j = c.loop-k.k + 1} (singles_join c.loop-k.invariant.2 c.take_one-taken.ensures.1) (omega arith) in
    (omega arith, all.same, all)
