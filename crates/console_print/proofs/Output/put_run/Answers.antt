use Rattle.std.proofs.Common.{◌≡◌, length}
use native.Mathlib.Omega.{arith}
use Rattle.std.proofs.lemmas.Grind.{common_steps}
use Rattle.console_print.proofs.PrintLaws.{run_none, run_end, spread_none, spread_turn}
use Rattle.console_print.proofs.Output.put_run.Goals as goal

pub returns-then-is_empty : goal.returns-then-is_empty
returns-then-is_empty g c =
    let none : length c.args.items.now ≡ 0 = grind (arith, common_steps) in
    run_none g.T.Hex.spelled _ none c.put.ensures

pub loop-item-init : goal.loop-item-init
loop-item-init g c = spread_none g.T.Hex.spelled

pub loop-item-preserved : goal.loop-item-preserved
loop-item-preserved g c =
    spread_turn g.T.Hex.spelled c.args.items.now c.loop-item.item-index _ c.item-item.is (omega arith) c.loop-item.invariant c.put_hex.ensures

pub returns : goal.returns
returns g c =
    let some : length c.args.items.now ≡ 0 → ⊥ = grind (arith, common_steps) in
    run_end g.T.Hex.spelled c.args.items.now _ some (omega arith) c.put_byte.ensures c.loop-item.invariant
