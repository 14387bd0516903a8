use Rattle.console_script.proofs.WordLaws.{digit_read, digit_out}
use Rattle.console_script.proofs.words.nibble.Goals as goal

pub returns-then-at-digits-clause-value : goal.returns-then-at-digits-clause-value
returns-then-at-digits-clause-value c = digit_read c.args.digits.now c.args.at c.hex_value.ensures c.unwrap_or.ensures

pub returns-clause-value : goal.returns-clause-value
returns-clause-value c = digit_out _ _ c.if-at-digits.false
