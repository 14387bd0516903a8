use Rattle.engine_fastpath.proofs.MixedLaws.{first_laid, first_plain, laid_then, laid_at_lem}
use Prim.Native.Nat.{◌-◌}
use native.Mathlib.Omega.{arith}
use Rattle.engine_fastpath.proofs.mixed.take_plain.Goals as goal

pub returns-then-count-eq8 : goal.returns-then-count-eq8
returns-then-count-eq8 c =
    (omega arith, omega arith, laid_then (laid_then (first_laid c.requires.0 c.first_of.ensures (omega arith)) c.copy_four.ensures 0 (omega arith) (omega arith) (omega arith) (omega arith)) c.copy_four-then-count-eq8.ensures 4 (omega arith) (omega arith) (omega arith) (omega arith), λ k b. c.plain_count-count.ensures.1 _ _ c.requires.0 k (omega (arith, b, c.if-count-eq8.true)))

pub returns-then-count-ge4 : goal.returns-then-count-ge4
returns-then-count-ge4 c =
    (omega (arith, c.if-count-ge4.true), c.plain_count-count.ensures.0, laid_at_lem (laid_then (laid_then (first_laid c.requires.0 c.first_of.ensures (omega arith)) c.copy_four-then-count-ge4.ensures 0 (omega arith) (omega arith) (omega arith) (omega arith)) c.copy_four-then-count-ge4-2.ensures (c.plain_count-count.result - 4) (omega arith) (omega arith) (omega (arith, c.plain_count-count.ensures.0)) (omega (arith, c.if-count-ge4.true))) (omega (arith, c.if-count-ge4.true)), c.plain_count-count.ensures.1 _ _ c.requires.0)

pub returns-then-count-ge2 : goal.returns-then-count-ge2
returns-then-count-ge2 c =
    (omega (arith, c.if-count-ge2.true), c.plain_count-count.ensures.0, laid_at_lem (laid_then (first_laid c.requires.0 c.first_of.ensures (omega arith)) c.copy_two.ensures (c.plain_count-count.result - 2) (omega arith) (omega arith) (omega (arith, c.if-count-ge4.false)) (omega (arith, c.if-count-ge2.true))) (omega (arith, c.if-count-ge2.true)), c.plain_count-count.ensures.1 _ _ c.requires.0)

pub returns : goal.returns
returns c =
    (omega arith, omega arith, first_laid c.requires.0 c.first_of.ensures (omega arith), first_plain c.requires.0 c.requires.1)
