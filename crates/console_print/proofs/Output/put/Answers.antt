use native.Mathlib.Omega.{arith}
use Rattle.console_print.proofs.PrintLaws.{printed_none, bytes_turn, bytes_end}
use Rattle.console_print.proofs.Output.put.Goals as goal

pub loop-byte-init : goal.loop-byte-init
loop-byte-init c = printed_none _ _

pub loop-byte-preserved : goal.loop-byte-preserved
loop-byte-preserved c = bytes_turn c.args.bytes.now _ (omega arith) c.loop-byte.invariant c.put_byte.ensures

pub returns : goal.returns
returns c = bytes_end c.args.bytes.now _ (omega arith) c.loop-byte.invariant
