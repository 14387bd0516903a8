use mathlib.Core.Path.{ap}
use native.Mathlib.Omega.{arith}
use Rattle.codepage_lookup.proofs.TableLaws.{lead_below}
use Rattle.engine.specs.Steps.{one_if}
use Rattle.engine_loops.specs.declared.turns.Turn.{Turn}
use Rattle.engine_loops.proofs.TurnedLaws.{settled_turn}
use Rattle.engine_loops.proofs.decoder.settle.Goals as goal

pub overflow_cast-lead : goal.overflow_cast-lead
overflow_cast-lead c =
    let tables = c.args.v.now.tables.tables in
    omega (arith, lead_below tables.classes.now c.args.t.first tables.all_classes c.requires.waits_value.1)

pub overflow_add-code : goal.overflow_add-code
overflow_add-code c = omega (arith, c.settled-code.ensures.more.0)

pub take_units-taken-requires : goal.take_units-taken-requires
take_units-taken-requires c =
    (c.requires.ready.0.within, omega (arith, c.requires.ready.0.few, c.settled-code.ensures.more.0, ap one_if c.requires.waits_value.0))

pub past-requires : goal.past-requires
past-requires c = omega (arith, c.settled-code.ensures.more.0)

pub returns : goal.returns
returns c =
    let code = c.settled-code.ensures in
    (settled_turn c.take_units-taken.ensures c.requires.waits_value.0 c.requires.ready.1 code.effect code.more.1 c.past.ensures, ap (λ (x : Turn). x.waits) c.past.ensures)
