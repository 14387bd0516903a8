use mathlib.Core.Path.{refl}
use mathlib.Core.Path.{◌∙◌, sym}
use Rattle.engine.proofs.EncodeLaws.{encoder_waits}
use Rattle.engine_loops.proofs.TurnedLaws.{turned_wait, turned_one, wait_falls, past_falls}
use Rattle.engine_loops.proofs.encoder.next_code.Goals as goal

pub returns-then-is_high : goal.returns-then-is_high
returns-then-is_high c =
    let waits = encoder_waits _ _ _ _ _ _ (sym c.is_high.ensures ∙ c.if-is_high.true) in
    (turned_wait c.requires.ready.0.going c.requires.ready.0.within c.requires.ready.1 c.if-piece-at.false waits c.wait.ensures, wait_falls c.args.piece.now c.args.t c.wait.ensures)

pub returns : goal.returns
returns c =
    let waits = encoder_waits _ _ _ _ _ _ (sym c.is_high.ensures ∙ c.if-is_high.false) in
    (turned_one c.take_alone-taken.ensures c.requires.ready.1 c.if-piece-at.false waits refl c.past.ensures, past_falls c.args.piece.now c.args.t c.past.ensures)
