use mathlib.Core.Bool.{true}
use mathlib.Core.Path.{◌≡◌}
use Prim.Native.Nat.{ℕ, ◌≤◌, ◌<◌}
use Rattle.codepage.specs.CodePage.{entry_at, is_lead}
use Rattle.linebreak.proofs.leads_before.Given as goal

abbrev pub invariant-loop-place : goal.invariant-loop-place
invariant-loop-place l = (l.from ≤ l.place) × (l.place ≤ l.to) × ((k : ℕ) → l.place ≤ k → k < l.to → is_lead (entry_at l.classes (entry_at l.text k)) ≡ true)
