use mathlib.Core.Path.{ap}
use native.Mathlib.Omega.{arith}
use lib.ListN.{length}
use Rattle.rfc4180.proofs.CsvLaws.{when_wanted, laid_wanted, laid_unwanted}
use Rattle.rfc4180.proofs.lay_if.Goals as goal

pub lay-requires : goal.lay-requires
lay-requires c = omega (arith, ap length (when_wanted c.args.wanted c.args.units.now c.if-wanted.true))

pub returns-then-wanted : goal.returns-then-wanted
returns-then-wanted c = laid_wanted c.args.wanted c.args.units.now c.if-wanted.true c.lay.ensures

pub returns : goal.returns
returns c = laid_unwanted _ _ _ _ c.if-wanted.false
