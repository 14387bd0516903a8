use Rattle.std.proofs.Common.{take}
use Rattle.console_print.specs.Prints.{Printed}
use Rattle.console_print.proofs.Output.put.Given as goal

abbrev pub invariant-loop-byte : goal.invariant-loop-byte
invariant-loop-byte l = Printed (take l.byte-index l.bytes) l.initial.self.room.now l.initial.self.at l.self.at l.self.room.now
