use Rattle.engine_fastpath.proofs.MixedLaws.{ran_plain}
use Rattle.engine_fastpath.proofs.RunLaws.{ran_start, ran_at, ran_join}
use mathlib.Core.Path.{refl, ◌∙◌}
use native.Mathlib.Omega.{arith}
use Rattle.engine_fastpath.proofs.mixed.run_of_plain.Goals as goal

pub loop-k-init : goal.loop-k-init
loop-k-init c = (omega arith, refl, λ classes singles pairs page. ran_at (ran_start (omega arith) (omega arith)) (omega arith) (omega arith))

pub returns-then-count-lt8 : goal.returns-then-count-lt8
returns-then-count-lt8 c =
    (omega (arith, c.take_plain-count.ensures.1), λ classes singles pairs page. ran_at (ran_join (c.loop-k.invariant.2 classes singles pairs page) (ran_plain classes singles pairs page c.take_plain-count.ensures.2 (omega (arith, c.take_plain-count.ensures.1)) (omega (arith, c.take_plain-count.ensures.1)) c.take_plain-count.ensures.3)) (omega arith) (omega arith))

pub loop-k-preserved : goal.loop-k-preserved
loop-k-preserved c =
    (omega (arith, c.take_plain-count.ensures.1), c.take_plain-count.ensures.2.same ∙ c.loop-k.invariant.1, λ classes singles pairs page. ran_at (ran_join (c.loop-k.invariant.2 classes singles pairs page) (ran_plain classes singles pairs page c.take_plain-count.ensures.2 (omega (arith, c.take_plain-count.ensures.1)) (omega (arith, c.take_plain-count.ensures.1)) c.take_plain-count.ensures.3)) (omega arith) (omega arith))
