use mathlib.Core.Path.{◌≡◌}
use Prim.Native.Nat.{◌+◌}
use lib.ListN.{drop}
use Rattle.checkpoint.specs.Line.{same_bytes}
use Rattle.checkpoint.proofs.reader.rest_is.Given as goal

abbrev pub invariant-loop-i : goal.invariant-loop-i
invariant-loop-i l = same_bytes (drop l.at l.line) l.word ≡ same_bytes (drop (l.at + l.i) l.line) (drop l.i l.word)
