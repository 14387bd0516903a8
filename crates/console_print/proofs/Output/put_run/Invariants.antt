use Rattle.std.proofs.Common.{take}
use Rattle.console_print.specs.Prints.{Printed, spread}
use Rattle.console_print.proofs.Output.put_run.Given as goal

abbrev pub invariant-loop-item : goal.invariant-loop-item
invariant-loop-item g l = Printed (spread g.T.Hex.spelled (take l.item-index l.items)) l.initial.self.room.now l.initial.self.at l.self.at l.self.room.now
