use borrow.Author.Tests.{le-leb, lt-leb}
use Rattle.engine.specs.Policies.{policy_allowed}
use Rattle.engine.proofs.policies.allowed.Goals as goal

pub returns-then-highest_single-policy : goal.returns-then-highest_single-policy
unfolding policy_allowed
returns-then-highest_single-policy c = rw (← c.highest_single.ensures, lt-leb _ _ c.if-highest_single-policy.true)

pub returns-then-policy-gt5 : goal.returns-then-policy-gt5
unfolding policy_allowed
returns-then-policy-gt5 c = rw (← c.highest_single.ensures, le-leb _ _ c.if-highest_single-policy.false, lt-leb _ _ c.if-policy-gt5.true)

pub returns : goal.returns
unfolding policy_allowed
returns c = rw (← c.highest_single.ensures, le-leb _ _ c.if-highest_single-policy.false, le-leb _ _ c.if-policy-gt5.false)
