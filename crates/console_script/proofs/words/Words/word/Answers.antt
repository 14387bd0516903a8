use native.Mathlib.Omega.{arith}
use Rattle.console_script.proofs.WordLaws.{the_word, next_word, no_next}
use Rattle.console_script.proofs.words.Words.word.Goals as goal

pub returns-then-line-at-clause-next : goal.returns-then-line-at-clause-next
returns-then-line-at-clause-next c = no_next _ _ c.if-line-at.true

pub returns-clause-word : goal.returns-clause-word
returns-clause-word c = (omega arith, the_word c.args.self.now.line.now c.args.self.now.at _ c.word_end-end.ensures.value)

pub returns-clause-next : goal.returns-clause-next
returns-clause-next c = next_word _ _ _ (omega arith) c.word_end-end.ensures.value
