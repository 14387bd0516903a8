use Rattle.std.proofs.Common.{sym, ◌∙◌}
use Rattle.console_script.proofs.WordLaws.{no_number, not_digits, not_plain, is_number}
use Rattle.console_script.proofs.words.Words.number.Goals as goal

pub returns-in_err-word-clause-value : goal.returns-in_err-word-clause-value
returns-in_err-word-clause-value c = c.from_residual.ensures ∙ no_number _ _ _ c.in_err-word.ensures.word

pub returns-in_err-number-clause-value : goal.returns-in_err-number-clause-value
returns-in_err-number-clause-value c =
    let word = c.in_ok-word.ensures.word in
    c.from_residual-in_err-number.ensures ∙ not_digits _ _ _ _ word.0 word.1 c.in_err-number.ensures.value

pub returns-then-not-is_plain-clause-value : goal.returns-then-not-is_plain-clause-value
returns-then-not-is_plain-clause-value c =
    let word = c.in_ok-word.ensures.word in
    not_plain _ _ _ _ word.0 word.1 (sym c.if-not-is_plain.true ∙ c.is_plain.ensures)

pub returns-clause-value : goal.returns-clause-value
returns-clause-value c =
    let word = c.in_ok-word.ensures.word in
    is_number _ _ _ _ word.0 word.1 _ c.in_ok-number.ensures.value (sym c.if-not-is_plain.false ∙ c.is_plain.ensures)
