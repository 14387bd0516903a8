use borrow.Author.Tests.{eq-eqb, ne_eqb}
use Rattle.engine.specs.Policies.{action_of}
use Rattle.engine.proofs.policies.action_of.Goals as goal

pub returns-then-digit-eq0 : goal.returns-then-digit-eq0
unfolding action_of
returns-then-digit-eq0 c = rw (eq-eqb _ _ c.if-digit-eq0.true)

pub returns-then-digit-eq1 : goal.returns-then-digit-eq1
unfolding action_of
returns-then-digit-eq1 c = rw (ne_eqb _ _ c.if-digit-eq0.false, eq-eqb _ _ c.if-digit-eq1.true)

pub returns-then-digit-eq2 : goal.returns-then-digit-eq2
unfolding action_of
returns-then-digit-eq2 c = rw (ne_eqb _ _ c.if-digit-eq0.false, ne_eqb _ _ c.if-digit-eq1.false, eq-eqb _ _ c.if-digit-eq2.true)

pub returns-then-digit-eq3 : goal.returns-then-digit-eq3
unfolding action_of
returns-then-digit-eq3 c = rw (ne_eqb _ _ c.if-digit-eq0.false, ne_eqb _ _ c.if-digit-eq1.false, ne_eqb _ _ c.if-digit-eq2.false, eq-eqb _ _ c.if-digit-eq3.true)

pub returns-then-digit-eq4 : goal.returns-then-digit-eq4
unfolding action_of
returns-then-digit-eq4 c = rw (ne_eqb _ _ c.if-digit-eq0.false, ne_eqb _ _ c.if-digit-eq1.false, ne_eqb _ _ c.if-digit-eq2.false, ne_eqb _ _ c.if-digit-eq3.false, eq-eqb _ _ c.if-digit-eq4.true)

pub returns-then-digit-eq5 : goal.returns-then-digit-eq5
unfolding action_of
returns-then-digit-eq5 c = rw (ne_eqb _ _ c.if-digit-eq0.false, ne_eqb _ _ c.if-digit-eq1.false, ne_eqb _ _ c.if-digit-eq2.false, ne_eqb _ _ c.if-digit-eq3.false, ne_eqb _ _ c.if-digit-eq4.false, eq-eqb _ _ c.if-digit-eq5.true)

pub returns : goal.returns
unfolding action_of
returns c = rw (ne_eqb _ _ c.if-digit-eq0.false, ne_eqb _ _ c.if-digit-eq1.false, ne_eqb _ _ c.if-digit-eq2.false, ne_eqb _ _ c.if-digit-eq3.false, ne_eqb _ _ c.if-digit-eq4.false, ne_eqb _ _ c.if-digit-eq5.false)
