use Rattle.codepage.specs.CodePage.{entry_at, is_single}
use mathlib.Core.Path.{◌≡◌}
use mathlib.Core.Bool.{true}
use mathlib.Core.List.{List}
use Prim.Native.Nat.{ℕ, ◌≤◌, ◌<◌, ◌-◌}
use Rattle.codepage_lookup.proofs.profile.clear_from_80.Given as goal

abbrev Clear : (classes singles : List ℕ) → ℕ → Type 0
Clear classes singles byte = 0x80 ≤ byte → (entry_at singles byte ≡ 0xFFFF → ⊥) → is_single (entry_at classes byte) ≡ true

abbrev pub invariant-loop-i : goal.invariant-loop-i
invariant-loop-i l = (128 ≤ l.i) × (l.i ≤ 256) × (l.mark ≡ 0 → (k : ℕ) → k < l.i → Clear l.classes l.singles k)
