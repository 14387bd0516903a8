use Rattle.codepage.specs.CodePage.{entry_at, is_single}
use mathlib.Core.Path.{◌≡◌}
use mathlib.Core.Bool.{true}
use Prim.Native.Nat.{ℕ, ◌≤◌, ◌<◌, ◌-◌}
use Rattle.codepage_lookup.proofs.profile.singles_below.Given as goal

abbrev pub invariant-loop-i : goal.invariant-loop-i
invariant-loop-i l = (l.i ≤ l.to) × (l.mark ≡ 0 → (k : ℕ) → k < l.i → is_single (entry_at l.classes k) ≡ true)
