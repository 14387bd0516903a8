use native.Mathlib.Omega.{arith}
use Rattle.findings.proofs.FindingLaws.{passed_code, found_behind, none_behind}
use Rattle.findings.proofs.Search.find_from.Goals as goal

pub pass_plain-place-requires : goal.pass_plain-place-requires
pass_plain-place-requires c = c.requires

pub loop-place-init : goal.loop-place-init
loop-place-init c = c.pass_plain-place.ensures _ _ _ _ c.args.self.now.plain_page

pub look_at-code-requires : goal.look_at-code-requires
look_at-code-requires c = c.loop-place-test.true

pub returns-in-Some : goal.returns-in-Some
returns-in-Some c = found_behind _ c.loop-place.invariant c.look_at-code.ensures c.in-Some.is

pub pass_plain-place-requires-in-loop-place : goal.pass_plain-place-requires-in-loop-place
pass_plain-place-requires-in-loop-place c = c.look_at-code.ensures.inside

pub loop-place-smaller : goal.loop-place-smaller
loop-place-smaller c =
    let behind = c.pass_plain-place-in-loop-place.ensures c.args.self.now.policy c.args.self.now.tables.tables.classes.now c.args.self.now.tables.tables.singles.now c.args.self.now.tables.tables.pairs.now c.args.self.now.plain_page in
    omega (arith, behind.ahead, c.look_at-code.ensures.ahead, c.look_at-code.ensures.inside)

pub loop-place-preserved : goal.loop-place-preserved
loop-place-preserved c = passed_code c.loop-place.invariant c.look_at-code.ensures c.in_default.is (c.pass_plain-place-in-loop-place.ensures _ _ _ _ c.args.self.now.plain_page)

pub returns : goal.returns
returns c = none_behind c.loop-place.invariant c.loop-place-test.false
