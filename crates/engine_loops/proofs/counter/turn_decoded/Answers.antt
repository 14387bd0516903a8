use mathlib.Core.Path.{ap}
use Rattle.engine_loops.specs.declared.turns.Turn.{Turn}
use Rattle.engine_loops.proofs.CountLaws.{count_met}
use Rattle.engine_loops.proofs.counter.turn_decoded.Goals as goal

pub next_decoded-requires : goal.next_decoded-requires
next_decoded-requires c = (count_met _ _ c.requires.counting.0 c.requires.counting.2 c.met_codes-place.ensures c.moved-next.ensures, ap (λ (x : Turn). x.waits) c.moved-next.ensures)
