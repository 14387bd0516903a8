use mathlib.Core.Path.{◌≡◌}
use Prim.Native.Nat.{◌+◌, ◌≤◌}
use lib.ListN.{length}
use lib.Seq.{sets}
use Rattle.checkpoint.specs.Line.{decimal}
use Rattle.checkpoint.proofs.DecimalLaws.{places}
use Rattle.checkpoint.proofs.writer.put_number.Given as goal

abbrev pub invariant-loop-i : goal.invariant-loop-i
invariant-loop-i l = (l.i ≤ l.size) × (l.at + l.size + 1 ≤ length l.initial.out) × (length l.out ≡ length l.initial.out) × (sets l.out l.at (places l.i l.rest) ≡ sets l.initial.out l.at (decimal l.number))

abbrev pub decreases-loop-i : goal.decreases-loop-i
decreases-loop-i l = l.i
