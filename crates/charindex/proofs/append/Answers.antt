use mathlib.Core.Path.{sym, ◌∙◌}
use native.Mathlib.Omega.{arith}
use Rattle.charindex.proofs.CallLaws.{classes_size, append_bad, append_long, append_former, append_short, appended_on, appended_refused}
use Rattle.charindex.proofs.append.Goals as goal

pub returns-then-not-good_shape : goal.returns-then-not-good_shape
returns-then-not-good_shape c = appended_refused _ _ _ _ _ (append_bad _ _ _ _ (sym c.good_shape.ensures ∙ c.if-not-good_shape.true))

pub returns-then-journal-gt-PIECE_LIMIT : goal.returns-then-journal-gt-PIECE_LIMIT
returns-then-journal-gt-PIECE_LIMIT c =
    let good = sym c.good_shape.ensures ∙ c.if-not-good_shape.false in
    appended_refused _ _ _ _ _ (append_long _ _ _ _ good c.if-journal-gt-PIECE_LIMIT.true)

pub returns-then-journal-former : goal.returns-then-journal-former
returns-then-journal-former c =
    let good = sym c.good_shape.ensures ∙ c.if-not-good_shape.false in
    appended_refused _ _ _ _ _ (append_former _ _ _ _ good c.if-journal-gt-PIECE_LIMIT.false c.if-journal-former.true)

pub returns-then-entries-blocks_of : goal.returns-then-entries-blocks_of
returns-then-entries-blocks_of c =
    let good = sym c.good_shape.ensures ∙ c.if-not-good_shape.false in
    appended_refused _ _ _ _ _ (append_short _ _ _ _ good c.if-journal-gt-PIECE_LIMIT.false c.if-journal-former.false (omega (arith, c.if-entries-blocks_of.true, c.blocks_of.ensures)))

pub append_entries-requires : goal.append_entries-requires
append_entries-requires c =
    let good = sym c.good_shape.ensures ∙ c.if-not-good_shape.false in
    (classes_size _ good, c.if-journal-former.false, c.if-journal-gt-PIECE_LIMIT.false, omega (arith, c.if-entries-blocks_of.false, c.blocks_of.ensures))

pub returns : goal.returns
returns c =
    let good = sym c.good_shape.ensures ∙ c.if-not-good_shape.false in
    appended_on _ _ _ _ good c.if-journal-gt-PIECE_LIMIT.false c.if-journal-former.false (omega (arith, c.if-entries-blocks_of.false, c.blocks_of.ensures)) _ _
    (c.append_entries.ensures c.args.tables.now.singles.now c.args.tables.now.pairs.now)
