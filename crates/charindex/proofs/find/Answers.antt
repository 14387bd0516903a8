use mathlib.Core.Path.{sym, ap, ◌∙◌}
use Rattle.std.proofs.Common.{Option, ok_or}
use Rattle.charindex.specs.declared.Found.{Found}
use Rattle.charindex.specs.declared.Refusal.TheVariants.{NoSuchCode}
use Rattle.charindex.proofs.FindLaws.{or29}
use native.Mathlib.Omega.{arith}
use Rattle.charindex.proofs.CallLaws.{classes_size, find_bad, find_long, find_short, find_given}
use Rattle.charindex.proofs.find.Goals as goal

pub returns-then-not-good_shape : goal.returns-then-not-good_shape
returns-then-not-good_shape c = sym (find_bad _ _ _ _ (sym c.good_shape.ensures ∙ c.if-not-good_shape.true))

pub returns-then-journal-gt-PIECE_LIMIT : goal.returns-then-journal-gt-PIECE_LIMIT
returns-then-journal-gt-PIECE_LIMIT c =
    let good = sym c.good_shape.ensures ∙ c.if-not-good_shape.false in
    sym (find_long _ _ _ _ good c.if-journal-gt-PIECE_LIMIT.true)

pub returns-then-entries-blocks_of : goal.returns-then-entries-blocks_of
returns-then-entries-blocks_of c =
    let good = sym c.good_shape.ensures ∙ c.if-not-good_shape.false in
    sym (find_short _ _ _ _ good c.if-journal-gt-PIECE_LIMIT.false (omega (arith, c.if-entries-blocks_of.true, c.blocks_of.ensures)))

pub find_code-requires : goal.find_code-requires
find_code-requires c =
    let good = sym c.good_shape.ensures ∙ c.if-not-good_shape.false in
    (classes_size _ good, c.if-journal-gt-PIECE_LIMIT.false, omega (arith, c.if-entries-blocks_of.false, c.blocks_of.ensures))

pub returns : goal.returns
returns c =
    let good = sym c.good_shape.ensures ∙ c.if-not-good_shape.false in
    c.ok_or.ensures.value ∙ ap (λ (o : Option Found). ok_or o NoSuchCode) (c.find_code.ensures c.args.tables.now.singles.now c.args.tables.now.pairs.now) ∙ or29 _
    ∙ sym (find_given _ _ _ _ good c.if-journal-gt-PIECE_LIMIT.false (omega (arith, c.if-entries-blocks_of.false, c.blocks_of.ensures)))
