use native.Mathlib.Omega.{arith}
use Rattle.console_script.proofs.WordLaws.{word_space, word_more, word_over}
use Rattle.console_script.proofs.words.word_end.Goals as goal

pub returns-then-line-i-eq32-clause-value : goal.returns-then-line-i-eq32-clause-value
returns-then-line-i-eq32-clause-value c = omega (arith, word_space c.args.line.now c.loop-i.i c.loop-i-test.true c.if-line-i-eq32.true)

pub loop-i-preserved : goal.loop-i-preserved
loop-i-preserved c = omega (arith, word_more c.args.line.now c.loop-i.i c.loop-i-test.true c.if-line-i-eq32.false)

pub returns-clause-value : goal.returns-clause-value
returns-clause-value c = omega (arith, word_over c.args.line.now c.loop-i.i (omega arith))
