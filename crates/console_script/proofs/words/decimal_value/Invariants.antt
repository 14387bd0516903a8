use Rattle.std.proofs.Common.{◌≡◌, ◌≤◌, drop}
use Rattle.console_script.specs.Words.{limited, spelled}
use Rattle.console_script.proofs.words.decimal_value.Given as goal

abbrev pub invariant-loop-byte : goal.invariant-loop-byte
invariant-loop-byte l = (l.value ≤ l.limit) × (limited l.limit (spelled 0 l.word) ≡ limited l.limit (spelled l.value (drop l.byte-index l.word)))
