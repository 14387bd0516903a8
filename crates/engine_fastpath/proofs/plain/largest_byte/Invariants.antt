use Rattle.codepage.specs.CodePage.{entry_at}
use lib.ListN.{length}
use Prim.Native.Nat.{ℕ, ◌<◌, ◌≤◌, ◌-◌}
use Rattle.engine_fastpath.proofs.plain.largest_byte.Given as goal

abbrev pub invariant-loop-i : goal.invariant-loop-i
invariant-loop-i l = (l.i ≤ length l.piece) × ((k : ℕ) → k < l.i → entry_at l.piece k ≤ l.most)
