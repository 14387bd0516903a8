use mathlib.Core.Path.{refl, ap}
use lib.ListN.{get_or}
use Rattle.codepage_lookup.proofs.ProfileLaws.{single_no_lead}
use Rattle.engine.proofs.DecodeLaws.{decoder_waits}
use Rattle.engine_loops.specs.declared.turns.Turn.{Turn}
use Rattle.engine_loops.proofs.TurnedLaws.{past_falls}
use Rattle.engine_loops.proofs.CountLaws.{count_none, count_one, count_met, met_then}
use native.Mathlib.Omega.{arith}
use Rattle.engine_loops.proofs.counter.turn_singles.Goals as goal

pub returns-then-text-end : goal.returns-then-text-end
returns-then-text-end c =
    let m = c.met_singles-count.ensures _ c.args.v.now.tables.pairs.now c.requires.only_singles in
    let met = count_met _ _ c.requires.counting.0 c.requires.counting.2 m c.moved-next.ensures in
    let done = met_then _ _ c.requires.counting.0 c.requires.counting.2 m c.moved-next.ensures c.requires.counting.1 (count_none met (ap (λ (x : Turn). x.waits) c.moved-next.ensures)) (λ h. absurd (omega (arith, h, c.if-text-end.true))) in
    (done.0, done.1, ap (λ (x : Turn). x.waits) c.moved-next.ensures)

pub returns : goal.returns
returns c =
    let m = c.met_singles-count.ensures _ c.args.v.now.tables.pairs.now c.requires.only_singles in
    let met = count_met _ _ c.requires.counting.0 c.requires.counting.2 m c.moved-next.ensures in
    let single = single_no_lead _ (c.requires.only_singles (get_or c.args.text.now c.moved-next.result.at 0) (omega (arith, c.type_inv.text c.moved-next.result.at))) in
    let one = count_one met c.alone_decoded-counted.ensures (ap (λ (x : Turn). x.waits) c.moved-next.ensures) c.if-text-end.false (decoder_waits _ _ _ _ _ _ _ single) refl c.past.ensures in
    let done = met_then _ _ c.requires.counting.0 c.requires.counting.2 m c.moved-next.ensures c.requires.counting.1 one (past_falls c.args.text.now c.moved-next.result c.past.ensures) in
    (done.0, done.1, ap (λ (x : Turn). x.waits) c.past.ensures)
