use Rattle.std.proofs.Common.{◌≡◌, drop}
use Rattle.console_script.specs.Words.{all_hex}
use Rattle.console_script.proofs.words.is_hex.Given as goal

abbrev pub invariant-loop-byte : goal.invariant-loop-byte
invariant-loop-byte l = all_hex l.word ≡ all_hex (drop l.byte-index l.word)
