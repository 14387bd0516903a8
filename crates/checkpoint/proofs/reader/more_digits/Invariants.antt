use mathlib.Core.Path.{◌≡◌}
use Prim.Native.Nat.{◌≤◌}
use Rattle.checkpoint.specs.Line.{more_digits}
use Rattle.checkpoint.specs.Places.{read_at, up_to}
use Rattle.checkpoint.proofs.reader.more_digits.Given as goal

abbrev pub invariant-loop-i : goal.invariant-loop-i
invariant-loop-i l = (l.value ≤ l.limit) × (read_at (up_to l.limit (more_digits l.first)) l.line l.at ≡ read_at (up_to l.limit (more_digits l.value)) l.line l.i)
