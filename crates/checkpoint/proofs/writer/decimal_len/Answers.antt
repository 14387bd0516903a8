use mathlib.Core.Path.{ap}
use native.Mathlib.Omega.{arith}
use lib.ListN.{length}
use Rattle.checkpoint.proofs.DecimalLaws.{decimal_short, decimal_few, long}
use Rattle.checkpoint.proofs.writer.decimal_len.Goals as goal

pub loop-rest-preserved : goal.loop-rest-preserved
loop-rest-preserved c = (omega arith, omega (arith, long c.loop-rest.rest c.loop-rest-test.true))

pub returns : goal.returns
returns c = let e = ap length (decimal_few c.loop-rest.rest (omega arith)) in let s = decimal_short 19 c.args.number (omega arith) in record { value = omega (arith, e); upper_bound = omega (arith, e, s) }
