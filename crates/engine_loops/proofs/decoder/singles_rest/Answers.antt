use mathlib.Core.Path.{◌∙◌}
use Rattle.engine_loops.proofs.TurnedLaws.{loop_turn, loop_stop, loop_end, closed_none}
use Rattle.engine_loops.proofs.decoder.singles_rest.Goals as goal

pub returns-then-s-ne0 : goal.returns-then-s-ne0
returns-then-s-ne0 c =
    let turned = c.singles_turn-t.ensures.0.turned in
    (turned.same ∙ c.loop-t.invariant.2, λ F before l. loop_stop (c.loop-t.invariant.3 F before l) turned c.if-s-ne0.true)

pub loop-t-preserved : goal.loop-t-preserved
loop-t-preserved c =
    let turned = c.singles_turn-t.ensures.0.turned in
    (turned.ready c.if-s-ne0.false c.loop-t.invariant.0, c.singles_turn-t.ensures.1, turned.same ∙ c.loop-t.invariant.2, λ F before l. loop_turn (c.loop-t.invariant.3 F before l) turned c.if-s-ne0.false)

pub returns : goal.returns
returns c =
    (c.loop-t.invariant.2, λ F before l. loop_end (c.loop-t.invariant.3 F before l) c.loop-t-test.false (closed_none c.loop-t.invariant.0.going c.loop-t.invariant.0.within c.loop-t.invariant.1))
