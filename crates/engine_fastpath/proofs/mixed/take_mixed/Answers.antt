use Rattle.engine_fastpath.proofs.RunLaws.{ran_at, ran_join}
use native.Mathlib.Omega.{arith}
use Rattle.engine_fastpath.proofs.mixed.take_mixed.Goals as goal

pub returns-then-count-plain-gt0 : goal.returns-then-count-plain-gt0
returns-then-count-plain-gt0 c =
    (omega (arith, c.run_of_pairs-count.ensures.0, c.run_of_plain-plain.ensures.0), omega (arith, c.run_of_pairs-count.ensures.0, c.run_of_plain-plain.ensures.0), ran_join c.run_of_pairs-count.ensures.1 (c.run_of_plain-plain.ensures.1 _ _ _ c.requires.mixed_page.0))

pub returns : goal.returns
returns c =
    let none = ran_at {i₂ = c.args.from} {w₂ = c.args.at} (ran_join c.run_of_pairs-count.ensures.1 (c.run_of_plain-plain.ensures.1 _ _ _ c.requires.mixed_page.0)) (omega (arith, c.if-count-plain-gt0.false)) (omega (arith, c.if-count-plain-gt0.false)) in
    (omega (arith, c.run_of_alone-alone.ensures.0), omega (arith, c.run_of_alone-alone.ensures.0), ran_join none (c.run_of_alone-alone.ensures.1.ran _ _ c.requires.mixed_page.1))
