use mathlib.Core.Path.{refl, sym, ap, ◌∙◌}
use Rattle.engine.proofs.EncodeLaws.{encoder_waits}
use Rattle.engine_loops.specs.declared.turns.Turn.{Turn}
use Rattle.engine_loops.proofs.TurnedLaws.{wait_falls, past_falls}
use Rattle.engine_loops.proofs.CountLaws.{count_wait, count_waits, count_one}
use Rattle.engine_loops.proofs.counter.next_encoded.Goals as goal

pub returns-then-not-is_high : goal.returns-then-not-is_high
returns-then-not-is_high c =
    let waits = encoder_waits _ _ _ _ _ _ (sym c.is_high.ensures ∙ c.if-not-is_high.true) in
    (count_one c.requires.0 c.alone_encoded-counted.ensures c.requires.1 c.if-text-at.false waits refl c.past.ensures, past_falls c.args.text.now c.args.t c.past.ensures)

pub returns-then-text-pending : goal.returns-then-text-pending
returns-then-text-pending c =
    let waits = encoder_waits _ _ _ _ _ _ (sym c.is_high.ensures ∙ c.if-not-is_high.false) in
    (count_waits c.requires.0 c.requires.1 c.if-text-at.false waits c.wait-pending.ensures c.if-text-pending.true, wait_falls c.args.text.now c.args.t c.wait-pending.ensures)

pub settle_encoded-requires : goal.settle_encoded-requires
settle_encoded-requires c =
    let waits = encoder_waits _ _ _ _ _ _ (sym c.is_high.ensures ∙ c.if-not-is_high.false) in
    (count_wait c.requires.0 c.requires.1 c.if-text-at.false waits c.wait-pending.ensures, c.if-text-pending.false, ap (λ (x : Turn). x.waits) c.wait-pending.ensures)
