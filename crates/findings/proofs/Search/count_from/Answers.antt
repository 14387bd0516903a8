use native.Mathlib.Omega.{arith}
use Rattle.findings.proofs.FindingLaws.{from_end}
use Rattle.findings.proofs.CountLaws.{counted_none, counted_stop, counted_on}
use Rattle.findings.proofs.Search.count_from.Goals as goal

pub loop-place-init : goal.loop-place-init
loop-place-init c = record { short = c.requires.1; inside = c.requires.0; few = omega arith; sum = omega arith }

pub find_from-requires : goal.find_from-requires
find_from-requires c = c.loop-place.invariant.inside

pub returns-in_default : goal.returns-in_default
returns-in_default c = (counted_none c.loop-place.invariant c.in_default.ensures, omega (arith, c.loop-place.invariant.few, c.loop-place.invariant.inside))

pub overflow_add-count : goal.overflow_add-count
overflow_add-count c = omega (arith, c.loop-place.invariant.short, c.loop-place.invariant.few, c.loop-place.invariant.inside)

pub returns-then-next-eq0 : goal.returns-then-next-eq0
returns-then-next-eq0 c =
    (counted_stop c.loop-place.invariant _ c.in-Some.ensures c.if-next-eq0.true, omega (arith, c.loop-place.invariant.few, c.loop-place.invariant.inside, c.in-Some.ensures.ahead, c.in-Some.ensures.inside))

pub loop-place-smaller : goal.loop-place-smaller
loop-place-smaller c = omega (arith, c.in-Some.ensures.ahead, c.in-Some.ensures.inside)

pub loop-place-preserved : goal.loop-place-preserved
loop-place-preserved c = counted_on c.loop-place.invariant _ c.in-Some.ensures c.if-next-eq0.false

pub returns : goal.returns
returns c =
    (counted_none c.loop-place.invariant (from_end _ _ _ _ c.loop-place-test.false), omega (arith, c.loop-place.invariant.few, c.loop-place.invariant.inside))
