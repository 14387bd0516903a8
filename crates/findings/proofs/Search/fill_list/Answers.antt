use mathlib.Core.Path.{refl}
use native.Mathlib.Omega.{arith}
use Rattle.findings.proofs.FillLaws.{filling_start, filling_none, filling_full, filling_stop, filling_on}
use Rattle.findings.proofs.Search.fill_list.Goals as goal

pub loop-count-init : goal.loop-count-init
loop-count-init c = filling_start _ _ _ _

pub find_from-requires : goal.find_from-requires
find_from-requires c = c.loop-count.invariant.inside

pub returns-then-finding-eq0 : goal.returns-then-finding-eq0
returns-then-finding-eq0 c = filling_stop c.loop-count.invariant _ c.in-Some.ensures (omega arith) c.if-finding-eq0.true

pub loop-count-preserved : goal.loop-count-preserved
loop-count-preserved c = filling_on c.loop-count.invariant _ c.in-Some.ensures (omega arith) c.if-finding-eq0.false

pub count_from-rest-requires : goal.count_from-rest-requires
count_from-rest-requires c = (c.loop-count.invariant.inside, c.requires)

pub overflow_add-result-2 : goal.overflow_add-result-2
overflow_add-result-2 c = omega (arith, c.loop-count.invariant.few, c.loop-count.invariant.inside, c.requires, c.count_from-rest.ensures.1)

pub returns : goal.returns
returns c = filling_full c.loop-count.invariant _ _ refl (omega arith) (omega arith) c.count_from-rest.ensures.0

pub returns-in_default : goal.returns-in_default
returns-in_default c = filling_none c.loop-count.invariant c.in_default.ensures
