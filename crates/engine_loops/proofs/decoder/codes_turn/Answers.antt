use Rattle.engine_loops.proofs.TurnedLaws.{settled_then}
use Rattle.engine_loops.proofs.decoder.codes_turn.Goals as goal

pub returns : goal.returns
returns c = settled_then c.settle_first-next.ensures c.if-s-ne0.false c.advance.ensures
