use Rattle.codepage.specs.CodePage.{entry_at}
use mathlib.Core.Path.{◌≡◌}
use Prim.Native.Nat.{ℕ, ◌≤◌, ◌<◌, ◌-◌, ◌+◌}
use Rattle.codepage_lookup.proofs.profile.is_empty.Given as goal

abbrev pub invariant-loop-i : goal.invariant-loop-i
invariant-loop-i l = (l.i ≤ 256) × (l.mark < 65536) × (l.mark ≡ 0xFFFF → (k : ℕ) → k < l.i → entry_at l.blocks (l.from + k) ≡ 0xFFFF)
