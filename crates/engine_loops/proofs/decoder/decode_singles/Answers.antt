use Rattle.engine_fastpath.proofs.RunLaws.{only_singles_clear}
use Rattle.engine_loops.proofs.TurnedLaws.{loop_ran}
use Rattle.engine_loops.proofs.decoder.decode_singles.Goals as goal

pub singles_rest-requires : goal.singles_rest-requires
singles_rest-requires c =
    let v = c.args.v.now in
    let clear = only_singles_clear v.tables.classes.now v.tables.singles.now c.requires in
    let ran = c.run_of_singles-first.ensures.ran v.tables.classes.now v.tables.pairs.now clear in
    let begun = loop_ran v.policy v.default c.args.last c.start-start.ensures ran c.moved-t.ensures in
    record { only_singles = c.requires; ready = (begun.0.ready, begun.1) }

pub returns : goal.returns
returns c =
    let v = c.args.v.now in
    let clear = only_singles_clear v.tables.classes.now v.tables.singles.now c.requires in
    let ran = c.run_of_singles-first.ensures.ran v.tables.classes.now v.tables.pairs.now clear in
    let begun = loop_ran v.policy v.default c.args.last c.start-start.ensures ran c.moved-t.ensures in
    c.singles_rest.ensures.1 _ _ begun.0
