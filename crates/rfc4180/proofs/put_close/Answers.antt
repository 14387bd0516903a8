use native.Mathlib.Omega.{arith}
use Rattle.rfc4180.proofs.CsvLaws.{when_break_length, close_all, close_none}
use Rattle.rfc4180.proofs.put_close.Goals as goal

pub returns-then-out-from : goal.returns-then-out-from
returns-then-out-from c = close_none c.args.begun _ (omega (arith, when_break_length c.args.begun))

pub lay_if-requires : goal.lay_if-requires
lay_if-requires c = omega (arith, when_break_length c.args.begun)

pub returns : goal.returns
returns c = close_all c.args.begun _ _ _ (omega (arith, when_break_length c.args.begun)) c.lay_if.ensures
