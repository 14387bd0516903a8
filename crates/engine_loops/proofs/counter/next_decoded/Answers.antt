use mathlib.Core.Path.{refl, sym, ap, subst, ◌∙◌}
use Rattle.engine.proofs.DecodeLaws.{decoder_waits}
use lib.ListN.{get_or}
use Rattle.engine.specs.Engine.{Converter}
use Rattle.engine.specs.Steps.{does_alone}
use Rattle.engine_loops.specs.Counts.{Came}
use Rattle.engine_loops.specs.declared.turns.Turn.{Turn}
use Rattle.engine_loops.proofs.TurnedLaws.{wait_falls, past_falls}
use Rattle.engine_loops.proofs.CountLaws.{count_wait, count_waits, count_one}
use Rattle.engine_loops.proofs.counter.next_decoded.Goals as goal

pub returns-then-not-is_lead : goal.returns-then-not-is_lead
returns-then-not-is_lead c =
    let waits = decoder_waits _ _ _ _ _ _ _ (sym c.is_lead.ensures ∙ c.if-not-is_lead.true) in (
      count_one c.requires.0 (subst (λ (v : Converter). Came (does_alone v (get_or c.args.text.now c.args.t.at 0)) 1 c.args.t.progress c.alone_decoded-counted.result) c.bytes.ensures c.alone_decoded-counted.ensures) c.requires.1 c.if-text-at.false waits refl c.past.ensures,
      past_falls c.args.text.now c.args.t c.past.ensures,
    )

pub returns-then-text-pending : goal.returns-then-text-pending
returns-then-text-pending c =
    let waits = decoder_waits _ _ _ _ _ _ _ (sym c.is_lead.ensures ∙ c.if-not-is_lead.false) in (
      count_waits c.requires.0 c.requires.1 c.if-text-at.false waits c.wait-pending.ensures c.if-text-pending.true,
      wait_falls c.args.text.now c.args.t c.wait-pending.ensures,
    )

pub settle_decoded-requires : goal.settle_decoded-requires
settle_decoded-requires c =
    let waits = decoder_waits _ _ _ _ _ _ _ (sym c.is_lead.ensures ∙ c.if-not-is_lead.false) in
    (count_wait c.requires.0 c.requires.1 c.if-text-at.false waits c.wait-pending.ensures, c.if-text-pending.false, ap (λ (x : Turn). x.waits) c.wait-pending.ensures)
