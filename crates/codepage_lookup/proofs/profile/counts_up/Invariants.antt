use Rattle.codepage.specs.CodePage.{entry_at}
use mathlib.Core.Path.{◌≡◌}
use Prim.Native.Nat.{ℕ, ◌≤◌, ◌<◌, ◌-◌, ◌+◌}
use Rattle.codepage_lookup.proofs.profile.counts_up.Given as goal

abbrev pub invariant-loop-i : goal.invariant-loop-i
invariant-loop-i l = (l.i ≤ 128) × (l.mark ≡ 0 → (k : ℕ) → k < l.i → entry_at l.table (l.from + k) ≡ k)
