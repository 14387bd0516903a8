use mathlib.Core.Path.{sym, ◌∙◌}
use native.Mathlib.Omega.{arith}
use Rattle.linebreak.proofs.CallLaws.{good_classes, propose_bad, propose_long, propose_none, propose_short, propose_accepted, proposed_refused, proposed_given}
use Rattle.linebreak.proofs.Theorems.{sure_fits}
use Rattle.linebreak.proofs.LoopLaws.{counted_none, counted_some}
use Rattle.linebreak.proofs.propose_breaks.Goals as goal

pub returns-then-not-good_shape : goal.returns-then-not-good_shape
returns-then-not-good_shape c = proposed_refused _ _ _ _ _ _ (propose_bad _ _ _ _ (sym c.good_shape.ensures ∙ c.if-not-good_shape.true))

pub returns-then-text-gt-PIECE_LIMIT : goal.returns-then-text-gt-PIECE_LIMIT
returns-then-text-gt-PIECE_LIMIT c = proposed_refused _ _ _ _ _ _ (propose_long _ _ _ _ (sym c.good_shape.ensures ∙ c.if-not-good_shape.false) c.if-text-gt-PIECE_LIMIT.true)

pub write_breaks-requires : goal.write_breaks-requires
write_breaks-requires c = let good = sym c.good_shape.ensures ∙ c.if-not-good_shape.false in let sure = sym c.sure_to_fit.ensures ∙ c.if-sure_to_fit.true in record { good_classes = (good_classes _ good, c.if-text-gt-PIECE_LIMIT.false); for_classes = λ singles pairs. sure_fits _ _ _ _ sure }

pub returns-then-sure_to_fit : goal.returns-then-sure_to_fit
returns-then-sure_to_fit c =
    let good = sym c.good_shape.ensures ∙ c.if-not-good_shape.false in
    let (exist, fits) = sure_fits _ _ _ _ (sym c.sure_to_fit.ensures ∙ c.if-sure_to_fit.true) in
    let (lent, count) = c.write_breaks.ensures c.args.tables.now.singles.now c.args.tables.now.pairs.now in
    proposed_given _ _ _ _ _ _ _ (propose_accepted _ _ _ _ good c.if-text-gt-PIECE_LIMIT.false exist fits) count lent

pub count_breaks-requires : goal.count_breaks-requires
count_breaks-requires c =
    (good_classes _ (sym c.good_shape.ensures ∙ c.if-not-good_shape.false), c.if-text-gt-PIECE_LIMIT.false)

pub returns-in_default : goal.returns-in_default
returns-in_default c =
    let good = sym c.good_shape.ensures ∙ c.if-not-good_shape.false in
    let none = counted_none _ _ _ (sym (c.in_default.ensures c.args.tables.now.singles.now c.args.tables.now.pairs.now)) in
    proposed_refused _ _ _ _ _ _ (propose_none _ _ _ _ good c.if-text-gt-PIECE_LIMIT.false none)

pub returns-then-out-count : goal.returns-then-out-count
returns-then-out-count c =
    let good = sym c.good_shape.ensures ∙ c.if-not-good_shape.false in
    let (exist, count) = counted_some _ _ _ _ (sym (c.in-Some.ensures c.args.tables.now.singles.now c.args.tables.now.pairs.now)) in
    proposed_refused _ _ _ _ _ _ (propose_short _ _ _ _ good c.if-text-gt-PIECE_LIMIT.false exist (omega (arith, count, c.if-out-count.true)))

pub write_breaks-requires-2 : goal.write_breaks-requires-2
write_breaks-requires-2 c = let good = sym c.good_shape.ensures ∙ c.if-not-good_shape.false in record {
  good_classes = (good_classes _ good, c.if-text-gt-PIECE_LIMIT.false);
  for_classes = λ singles pairs. let (exist, count) = counted_some _ _ _ _ (sym (c.in-Some.ensures singles pairs)) in
      (exist, omega (arith, count, c.if-out-count.false));
}

pub returns : goal.returns
returns c =
    let good = sym c.good_shape.ensures ∙ c.if-not-good_shape.false in
    let (exist, fits) = counted_some _ _ _ _ (sym (c.in-Some.ensures c.args.tables.now.singles.now c.args.tables.now.pairs.now)) in
    let (lent, count) = c.write_breaks-2.ensures c.args.tables.now.singles.now c.args.tables.now.pairs.now in
    proposed_given _ _ _ _ _ _ _ (propose_accepted _ _ _ _ good c.if-text-gt-PIECE_LIMIT.false exist (omega (arith, fits, c.if-out-count.false))) count lent
