use mathlib.Core.Path.{refl}
use native.Mathlib.Omega.{arith}
use Rattle.engine_fastpath.proofs.RunLaws.{ran_start, ran_at, ran_join, ran_four, eight_bytes}
use Rattle.engine_fastpath.proofs.runs.run_of_units.Goals as goal

pub loop-k-init : goal.loop-k-init
loop-k-init c =
    (omega arith, refl, omega arith, ran_at (ran_start c.requires.from_in_bounds.0 c.requires.from_in_bounds.1) (omega arith) refl)

pub overflow_add-w : goal.overflow_add-w
overflow_add-w c =
    let count = eight_bytes c.code_of-a.result c.code_of-b.result c.code_of-c.result c.code_of-d.result c.lay_four-w.ensures.0 in
    omega (arith, c.loop-k.invariant.1, c.loop-k.invariant.2, c.loop-k-test.true, c.well_formed.1.1.1.1.0.0, count)

pub loop-k-preserved : goal.loop-k-preserved
loop-k-preserved c =
    let coded = c.all_coded.ensures c.if-not-all_coded.false in
    let count = eight_bytes c.code_of-a.result c.code_of-b.result c.code_of-c.result c.code_of-d.result c.lay_four-w.ensures.0 in
    let next =
    ran_four _ _ c.loop-k.invariant.3 c.code_of-a.result c.code_of-b.result c.code_of-c.result c.code_of-d.result (omega (arith, c.requires.from_in_bounds.0, c.smaller-n.ensures.0, c.loop-k-test.true))
    (c.code_of-a.ensures coded.0) (c.code_of-b.ensures coded.1) (c.code_of-c.ensures coded.2) (c.code_of-d.ensures coded.3) (omega (arith, c.loop-k.invariant.1, c.loop-k.invariant.2, c.loop-k-test.true)) _ _ c.lay_four-w.ensures in
    (omega arith, next.same, omega (arith, c.loop-k.invariant.2, c.loop-k-test.true, count), ran_at next (omega arith) refl)

pub returns : goal.returns
returns c = ran_join c.loop-k.invariant.3 c.run_of_some.ensures
