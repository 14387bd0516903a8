use Rattle.engine.proofs.EncodeLaws.{encoder_waits, encoder_high}
use Rattle.engine_loops.proofs.TurnedLaws.{loop_first, loop_turn, loop_stop, loop_end}
use Rattle.engine_loops.proofs.encoder.encode_codes.Goals as goal

pub loop-t-init : goal.loop-t-init
loop-t-init c = loop_first _ _ _ _ _ (λ high e. encoder_waits _ _ _ _ _ _ (c.requires.high_value high e)) c.start-t.ensures

pub codes_turn-t-requires : goal.codes_turn-t-requires
codes_turn-t-requires c = record { ready = (c.loop-t.invariant.ready, c.loop-t-test.true); first_value = λ e. encoder_high _ _ _ _ _ (c.loop-t.invariant.pending_waits e); no_codes = c.may_ask-asked.ensures }

pub returns-then-s-ne0 : goal.returns-then-s-ne0
returns-then-s-ne0 c = loop_stop c.loop-t.invariant c.codes_turn-t.ensures.turned c.if-s-ne0.true

pub loop-t-preserved : goal.loop-t-preserved
loop-t-preserved c = loop_turn c.loop-t.invariant c.codes_turn-t.ensures.turned c.if-s-ne0.false

pub returns : goal.returns
returns c = loop_end c.loop-t.invariant c.loop-t-test.false c.at_end.ensures
