use mathlib.Core.Path.{refl}
use native.Mathlib.Omega.{arith}
use Rattle.engine_fastpath.proofs.RunLaws.{ran_start, ran_at, ran_unit, two_bytes}
use Rattle.engine_fastpath.proofs.runs.run_of_some.Goals as goal

pub loop-k-init : goal.loop-k-init
loop-k-init c =
    (omega arith, refl, omega arith, ran_at (ran_start c.requires.from_in_bounds.0 c.requires.from_in_bounds.1) (omega arith) refl)

pub overflow_add-w : goal.overflow_add-w
overflow_add-w c = omega (arith, c.lay_code-w.ensures.0, two_bytes c.code_of-code.result)

pub loop-k-preserved : goal.loop-k-preserved
loop-k-preserved c =
    let next = ran_unit _ _ c.loop-k.invariant.3 c.code_of-code.result (omega arith) (c.code_of-code.ensures c.if-code.false) _ _ c.lay_code-w.ensures.1 c.lay_code-w.ensures.0 (omega arith) in
    (omega arith, next.same, omega (arith, c.lay_code-w.ensures.0, two_bytes c.code_of-code.result), ran_at next (omega arith) refl)
