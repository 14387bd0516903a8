use mathlib.Core.Path.{sym, ◌∙◌}
use Rattle.linebreak.proofs.LineLaws.{lines_acceptable}
use Rattle.linebreak.proofs.CallLaws.{good_classes, check_bad, check_long, check_refused, check_accepted}
use Rattle.linebreak.proofs.check_breaks.Goals as goal

pub returns-then-not-good_shape : goal.returns-then-not-good_shape
returns-then-not-good_shape c = sym (check_bad _ _ _ _ (sym c.good_shape.ensures ∙ c.if-not-good_shape.true))

pub returns-then-text-gt-PIECE_LIMIT : goal.returns-then-text-gt-PIECE_LIMIT
returns-then-text-gt-PIECE_LIMIT c = sym (check_long _ _ _ _ (sym c.good_shape.ensures ∙ c.if-not-good_shape.false) c.if-text-gt-PIECE_LIMIT.true)

pub are_lines-requires : goal.are_lines-requires
are_lines-requires c = (good_classes _ (sym c.good_shape.ensures ∙ c.if-not-good_shape.false), c.if-text-gt-PIECE_LIMIT.false)

pub returns-then-not-are_lines : goal.returns-then-not-are_lines
returns-then-not-are_lines c =
    let good = sym c.good_shape.ensures ∙ c.if-not-good_shape.false in
    let lines = c.are_lines.ensures c.args.tables.now.singles.now c.args.tables.now.pairs.now ∙ lines_acceptable _ _ _ _ in
    sym (check_refused _ _ _ _ good c.if-text-gt-PIECE_LIMIT.false (sym lines ∙ c.if-not-are_lines.true))

pub returns : goal.returns
returns c =
    let good = sym c.good_shape.ensures ∙ c.if-not-good_shape.false in
    let lines = c.are_lines.ensures c.args.tables.now.singles.now c.args.tables.now.pairs.now ∙ lines_acceptable _ _ _ _ in
    sym (check_accepted _ _ _ _ good c.if-text-gt-PIECE_LIMIT.false (sym lines ∙ c.if-not-are_lines.false))
