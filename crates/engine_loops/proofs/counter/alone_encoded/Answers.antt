use Rattle.engine_loops.proofs.CountLaws.{came_as, came_bytes, bytes_short}
use native.Mathlib.Omega.{arith}
use Rattle.engine_loops.proofs.counter.alone_encoded.Goals as goal

pub count_code-requires : goal.count_code-requires
count_code-requires c =
    (c.requires.0, omega (arith, c.bytes_written.ensures, bytes_short c.alone-d.result, c.requires.1))

pub returns : goal.returns
returns c =
    came_as c.alone-d.ensures (came_bytes _ _ _ _ _ c.bytes_written.ensures c.count_code.ensures)
