use Rattle.engine_loops.proofs.CountLaws.{came_as, came_units, units_short}
use native.Mathlib.Omega.{arith}
use Rattle.engine_loops.proofs.counter.alone_decoded.Goals as goal

pub count_code-requires : goal.count_code-requires
count_code-requires c =
    (c.requires.0, omega (arith, c.units_written.ensures, units_short c.alone-d.result, c.requires.1))

pub returns : goal.returns
returns c =
    came_as c.alone-d.ensures (came_units _ _ _ _ _ c.units_written.ensures c.count_code.ensures)
