use lib.ListN.{length}
use Rattle.engine.specs.Engine.{limit, feed_from}
use Rattle.engine.specs.Pending.{waiting}
use Rattle.engine.specs.Converters.{by_units}
use Rattle.engine_loops.specs.Turns.{steps_left, Loop}
use Rattle.engine_loops.proofs.encoder.encode_codes.Given as goal

abbrev pub invariant-loop-t : goal.invariant-loop-t
invariant-loop-t l = Loop (by_units l.v) l.last (feed_from (by_units l.v) l.last (limit (length l.initial.out)) (waiting l.fn.pending) l.piece) l.initial.out l.piece l.out l.t

abbrev pub decreases-loop-t : goal.decreases-loop-t
decreases-loop-t l = steps_left l.piece l.t
