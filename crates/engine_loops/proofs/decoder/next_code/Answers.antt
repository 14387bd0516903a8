use mathlib.Core.Path.{refl}
use mathlib.Core.Path.{◌∙◌, sym}
use Rattle.engine.proofs.DecodeLaws.{decoder_waits}
use Rattle.engine_loops.proofs.TurnedLaws.{turned_wait, turned_one, wait_falls, past_falls}
use Rattle.engine_loops.proofs.decoder.next_code.Goals as goal

pub returns-then-is_lead : goal.returns-then-is_lead
returns-then-is_lead c = (
  turned_wait c.requires.ready.0.going c.requires.ready.0.within c.requires.ready.1 c.if-piece-at.false (decoder_waits _ _ _ _ _ _ _ (sym c.is_lead.ensures ∙ c.if-is_lead.true))
      c.wait.ensures,
  wait_falls c.args.piece.now c.args.t c.wait.ensures,
)

pub returns : goal.returns
returns c = (
  turned_one c.take_alone-taken.ensures c.requires.ready.1 c.if-piece-at.false (decoder_waits _ _ _ _ _ _ _ (sym c.is_lead.ensures ∙ c.if-is_lead.false)) refl c.past.ensures,
  past_falls c.args.piece.now c.args.t c.past.ensures,
)
