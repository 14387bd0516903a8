use Rattle.engine_fastpath.proofs.MetLaws.{met_start, met_at, met_join, met_plain}
use native.Mathlib.Omega.{arith}
use Rattle.engine_fastpath.proofs.counted.met_plain.Goals as goal

pub returns-then-not-plain : goal.returns-then-not-plain
returns-then-not-plain c = (omega arith, λ classes singles pairs page. met_at (met_start (omega arith)) (omega arith) (omega arith))

pub loop-k-init : goal.loop-k-init
loop-k-init c = (omega arith, λ classes singles pairs page. met_at (met_start (omega arith)) (omega arith) (omega arith))

pub returns-then-count-lt8 : goal.returns-then-count-lt8
returns-then-count-lt8 c = (
  omega (arith, c.plain_count-count.ensures.0),
  λ classes singles pairs page.
      met_at (met_join (c.loop-k.invariant.1 classes singles pairs page) (met_plain classes singles pairs (page c.if-not-plain.false) c.plain_count-count.result (omega (arith, c.plain_count-count.ensures.0)) (c.plain_count-count.ensures.1 _ _ c.word_at.ensures)))
      (omega arith) (omega arith),
)

pub loop-k-preserved : goal.loop-k-preserved
loop-k-preserved c = (
  omega (arith, c.plain_count-count.ensures.0),
  λ classes singles pairs page.
      met_at (met_join (c.loop-k.invariant.1 classes singles pairs page) (met_plain classes singles pairs (page c.if-not-plain.false) c.plain_count-count.result (omega (arith, c.plain_count-count.ensures.0)) (c.plain_count-count.ensures.1 _ _ c.word_at.ensures)))
      (omega arith) (omega arith),
)
