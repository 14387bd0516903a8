use Rattle.std.proofs.Common.{sym, ap, ◌∙◌}
use native.Mathlib.Omega.{arith}
use Rattle.console_script.specs.Words.{limited, answered}
use Rattle.console_script.proofs.WordLaws.{none_turn, over_turn, end_turn, spelled_turn, answered_none, answered_some}
use Rattle.console_script.proofs.words.decimal_value.Goals as goal

pub returns-in_err-digit-clause-value : goal.returns-in_err-digit-clause-value
returns-in_err-digit-clause-value c =
    c.from_residual.ensures
    ∙ sym (ap answered (c.loop-byte.invariant.1 ∙ none_turn _ c.args.word.now c.loop-byte.value c.loop-byte.byte-index (omega arith) (answered_none _ c.in_err-digit.ensures)))

pub returns-then-limit-value-clause-value : goal.returns-then-limit-value-clause-value
returns-then-limit-value-clause-value c =
    sym (ap answered (c.loop-byte.invariant.1 ∙ over_turn _ c.args.word.now c.loop-byte.value c.loop-byte.byte-index _ (omega arith) (answered_some _ _ c.in_ok-digit.ensures) (omega arith)))

pub returns-then-limit-value-2-clause-value : goal.returns-then-limit-value-2-clause-value
returns-then-limit-value-2-clause-value c =
    sym (ap answered (c.loop-byte.invariant.1 ∙ over_turn _ c.args.word.now c.loop-byte.value c.loop-byte.byte-index _ (omega arith) (answered_some _ _ c.in_ok-digit.ensures) (omega arith)))

pub loop-byte-preserved : goal.loop-byte-preserved
loop-byte-preserved c =
    (omega arith, c.loop-byte.invariant.1 ∙ ap (limited _) (spelled_turn c.args.word.now c.loop-byte.value c.loop-byte.byte-index _ (omega arith) (answered_some _ _ c.in_ok-digit.ensures)))

pub returns-clause-value : goal.returns-clause-value
returns-clause-value c = sym (ap answered (c.loop-byte.invariant.1 ∙ end_turn _ c.args.word.now c.loop-byte.value _ (omega arith) c.loop-byte.invariant.0))
