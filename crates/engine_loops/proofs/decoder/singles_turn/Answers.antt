use lib.ListN.{get_or}
use mathlib.Core.Path.{refl, ap}
use native.Mathlib.Omega.{arith}
use Rattle.codepage_lookup.proofs.ProfileLaws.{single_no_lead}
use Rattle.engine.proofs.DecodeLaws.{decoder_waits}
use Rattle.engine_fastpath.proofs.RunLaws.{only_singles_clear}
use Rattle.engine_loops.proofs.TurnedLaws.{advanced_one, one_ready, advanced_ran}
use Rattle.engine_loops.specs.declared.turns.Turn.{Turn}
use Rattle.engine_loops.proofs.decoder.singles_turn.Goals as goal

pub returns-then-after-ne0 : goal.returns-then-after-ne0
returns-then-after-ne0 c =
    let single = single_no_lead _ (c.requires.only_singles (get_or c.args.piece.now c.args.t.at 0) (omega (arith, c.type_inv.piece c.args.t.at))) in
    (advanced_one c.take_alone-taken.ensures c.requires.ready.2 c.requires.ready.1 (decoder_waits _ _ _ _ _ _ _ single) refl c.past-next.ensures, ap (λ (x : Turn). x.waits) c.past-next.ensures)

pub run_of_singles-count-requires : goal.run_of_singles-count-requires
run_of_singles-count-requires c =
    let single = single_no_lead _ (c.requires.only_singles (get_or c.args.piece.now c.args.t.at 0) (omega (arith, c.type_inv.piece c.args.t.at))) in
    let ready = one_ready c.take_alone-taken.ensures c.requires.ready.1 c.requires.ready.0 c.past-next.ensures c.if-after-ne0.false in
    (c.args.v.now.tables.all_singles, ready.inside, ready.within)

pub overflow_add-from : goal.overflow_add-from
overflow_add-from c =
    let single = single_no_lead _ (c.requires.only_singles (get_or c.args.piece.now c.args.t.at 0) (omega (arith, c.type_inv.piece c.args.t.at))) in
    let ran = c.run_of_singles-count.ensures.ran c.args.v.now.tables.classes.now c.args.v.now.tables.pairs.now (only_singles_clear c.args.v.now.tables.classes.now c.args.v.now.tables.singles.now c.requires.only_singles) in
    omega (arith, ran.inside, c.well_formed.1.0)

pub overflow_add-after : goal.overflow_add-after
overflow_add-after c =
    let single = single_no_lead _ (c.requires.only_singles (get_or c.args.piece.now c.args.t.at 0) (omega (arith, c.type_inv.piece c.args.t.at))) in
    let ran = c.run_of_singles-count.ensures.ran c.args.v.now.tables.classes.now c.args.v.now.tables.pairs.now (only_singles_clear c.args.v.now.tables.classes.now c.args.v.now.tables.singles.now c.requires.only_singles) in
    omega (arith, ran.within, c.run_of_singles-count.ensures.same, c.take_alone-taken.ensures.same, c.well_formed.1.1.1.0.0)

pub moved-requires : goal.moved-requires
moved-requires c =
    let single = single_no_lead _ (c.requires.only_singles (get_or c.args.piece.now c.args.t.at 0) (omega (arith, c.type_inv.piece c.args.t.at))) in
    let ready = one_ready c.take_alone-taken.ensures c.requires.ready.1 c.requires.ready.0 c.past-next.ensures c.if-after-ne0.false in
    let ran = c.run_of_singles-count.ensures.ran c.args.v.now.tables.classes.now c.args.v.now.tables.pairs.now (only_singles_clear c.args.v.now.tables.classes.now c.args.v.now.tables.singles.now c.requires.only_singles) in
    (omega (arith, ran.ahead), omega (arith, ran.inside, ready.few, c.well_formed.1.0))

pub returns : goal.returns
returns c =
    let single = single_no_lead _ (c.requires.only_singles (get_or c.args.piece.now c.args.t.at 0) (omega (arith, c.type_inv.piece c.args.t.at))) in
    let waits = ap (λ (x : Turn). x.waits) c.past-next.ensures in
    let run = c.run_of_singles-count.ensures.ran c.args.v.now.tables.classes.now in (
      advanced_ran _ _ (advanced_one c.take_alone-taken.ensures c.requires.ready.2 c.requires.ready.1 (decoder_waits _ _ _ _ _ _ _ single) refl c.past-next.ensures) c.if-after-ne0.false waits (run c.args.v.now.tables.pairs.now (only_singles_clear c.args.v.now.tables.classes.now c.args.v.now.tables.singles.now c.requires.only_singles)) c.moved.ensures,
      ap (λ (x : Turn). x.waits) c.moved.ensures,
    )
