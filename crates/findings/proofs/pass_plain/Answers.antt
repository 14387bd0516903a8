use native.Mathlib.Omega.{arith}
use Rattle.findings.proofs.FindingLaws.{passed_start, passed_join, passed_plain}
use Rattle.findings.proofs.pass_plain.Goals as goal

pub returns-then-not-plain : goal.returns-then-not-plain
returns-then-not-plain c = λ policy classes singles pairs page. passed_start c.requires

pub loop-place-init : goal.loop-place-init
loop-place-init c = (c.requires, λ policy classes singles pairs page. passed_start c.requires)

pub overflow_sub-text : goal.overflow_sub-text
overflow_sub-text c = omega (arith, c.loop-place.invariant.0)

pub word_at-requires : goal.word_at-requires
word_at-requires c = omega (arith, c.loop-place.invariant.0)

pub overflow_add-place : goal.overflow_add-place
overflow_add-place c = omega (arith, c.plain_count-count.ensures.0, c.loop-place.invariant.0)

pub returns-then-count-lt8 : goal.returns-then-count-lt8
returns-then-count-lt8 c =
    λ policy classes singles pairs page.
    passed_join (c.loop-place.invariant.1 policy classes singles pairs page)
    (passed_plain policy classes singles pairs _ (page c.if-not-plain.false) _ _ (omega (arith, c.plain_count-count.ensures.0, c.loop-place.invariant.0)) (c.plain_count-count.ensures.1 _ _ c.word_at.ensures))

pub loop-place-smaller : goal.loop-place-smaller
loop-place-smaller c = omega (arith, c.plain_count-count.ensures.0, c.loop-place.invariant.0)

pub loop-place-preserved : goal.loop-place-preserved
loop-place-preserved c = (
  omega (arith, c.plain_count-count.ensures.0, c.loop-place.invariant.0),
  λ policy classes singles pairs page.
      passed_join (c.loop-place.invariant.1 policy classes singles pairs page)
      (passed_plain policy classes singles pairs _ (page c.if-not-plain.false) _ _ (omega (arith, c.plain_count-count.ensures.0, c.loop-place.invariant.0)) (c.plain_count-count.ensures.1 _ _ c.word_at.ensures)),
)

pub returns : goal.returns
returns c = c.loop-place.invariant.1
