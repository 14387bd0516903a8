use Rattle.codepage.specs.CodePage.{page_of}
use mathlib.Core.Path.{sym, ◌∙◌}
use Rattle.codepage.proofs.ShapeLaws.{shape_exact}
use Rattle.convert.specs.declared.Refusal.TheVariants.{BadShape}
use Rattle.convert.proofs.CallLaws.{units_count, checked_as, refusal_shape, refusal_first, refusal_rest, run_passes, valid_read, finish_needs, answered_accepted, answered_refused}
use Rattle.convert.proofs.call.Goals as goal

pub returns-then-not-good_shape : goal.returns-then-not-good_shape
returns-then-not-good_shape g c =
    rw c.refused.ensures (answered_refused _ _ _ _ _ _ BadShape (refusal_shape _ _ _ _ (sym c.good_shape.ensures ∙ c.if-not-good_shape.true)))

pub returns-in-Err : goal.returns-in-Err
returns-in-Err g c =
    let count = units_count g.I.Input.unit c.args.piece.now _ (g.met.I.Input.each_unit c.args.piece.now) in
    let good = sym c.good_shape.ensures ∙ c.if-not-good_shape.false in
    let refused = refusal_first _ c.args.run _ _ good c.in-Err.refusal c.in-Err.ensures in
    rw c.refused-in-Err.ensures (answered_refused _ _ _ _ _ _ c.in-Err.refusal (sym (checked_as _ _ c.direction.ensures count (sym refused))))

pub check_rest-rest-requires-clause-classes_len : goal.check_rest-rest-requires-clause-classes_len
check_rest-rest-requires-clause-classes_len g c = ((shape_exact _).0 (sym c.good_shape.ensures ∙ c.if-not-good_shape.false)).classes

pub check_rest-rest-requires-clause-read_bound : goal.check_rest-rest-requires-clause-read_bound
check_rest-rest-requires-clause-read_bound g c =
    let passes = run_passes c.direction.result c.args.run c.args.tables.now.numbers.page _ (sym c.in_default.ensures) in
    (passes.0, valid_read c.args.run passes.1)

pub returns-in-Err-rest : goal.returns-in-Err-rest
returns-in-Err-rest g c =
    let count = units_count g.I.Input.unit c.args.piece.now _ (g.met.I.Input.each_unit c.args.piece.now) in
    let good = sym c.good_shape.ensures ∙ c.if-not-good_shape.false in
    let refused = refusal_rest _ c.args.run (page_of c.args.tables.now) _ good (sym c.in_default.ensures) c.in-Err-rest.ensures in
    rw c.refused-in-Err-rest.ensures (answered_refused _ _ _ _ _ _ c.in-Err-rest.refusal (sym (checked_as _ _ c.direction.ensures count (sym refused))))

pub feed-progress-requires : goal.feed-progress-requires
feed-progress-requires g c =
    let count = units_count g.I.Input.unit c.args.piece.now _ (g.met.I.Input.each_unit c.args.piece.now) in
    let good = sym c.good_shape.ensures ∙ c.if-not-good_shape.false in
    let passed = refusal_rest _ c.args.run (page_of c.args.tables.now) _ good (sym c.in_default.ensures) c.in_default-rest.ensures in
    record { accepted = checked_as _ _ c.direction.ensures count (sym passed) }

pub accepted-requires : goal.accepted-requires
accepted-requires g c =
    let count = units_count g.I.Input.unit c.args.piece.now _ (g.met.I.Input.each_unit c.args.piece.now) in
    let good = sym c.good_shape.ensures ∙ c.if-not-good_shape.false in
    let passed = refusal_rest _ c.args.run (page_of c.args.tables.now) _ good (sym c.in_default.ensures) c.in_default-rest.ensures in
    let needs = finish_needs _ _ _ _ _ _ _ _ count (checked_as _ _ c.direction.ensures count (sym passed)) c.feed-progress.ensures.value in
    record { answer_bound = needs.0; used_bound = needs.1 }

pub returns : goal.returns
returns g c =
    let count = units_count g.I.Input.unit c.args.piece.now _ (g.met.I.Input.each_unit c.args.piece.now) in
    let good = sym c.good_shape.ensures ∙ c.if-not-good_shape.false in
    let passed = refusal_rest _ c.args.run (page_of c.args.tables.now) _ good (sym c.in_default.ensures) c.in_default-rest.ensures in
    answered_accepted _ _ _ _ _ _ _ _ _ _ _ count (checked_as _ _ c.direction.ensures count (sym passed)) c.feed-progress.ensures.value c.feed-progress.ensures.out_after c.after-pending.ensures c.accepted.ensures
