use Rattle.engine_loops.proofs.TurnedLaws.{took_as}
use Rattle.engine_loops.proofs.encoder.take_alone.Goals as goal

pub returns : goal.returns
returns c = took_as c.alone-d.ensures c.take_bytes.ensures
