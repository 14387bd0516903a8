use Rattle.std.proofs.Common.{◌≡◌, ◌+◌, length, drop}
use Rattle.console_script.specs.Words.{first_word}
use Rattle.console_script.proofs.words.word_end.Given as goal

abbrev pub invariant-loop-i : goal.invariant-loop-i
invariant-loop-i l = l.at + length (first_word (drop l.at l.line)) ≡ l.i + length (first_word (drop l.i l.line))
