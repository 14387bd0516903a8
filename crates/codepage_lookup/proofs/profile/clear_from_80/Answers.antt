use Rattle.codepage.proofs.MarkLaws.{or_none_lem}
use Rattle.codepage.specs.CodePage.{entry_at, is_single}
use borrow.Author.Count.{below_more}
use native.Mathlib.Omega.{arith}
use mathlib.Core.Path.{◌≡◌}
use mathlib.Core.Bool.{true}
use mathlib.Core.List.{List}
use Prim.Native.Nat.{ℕ, ◌≤◌}
use Rattle.codepage_lookup.proofs.profile.clear_from_80.Goals as goal

abbrev Clear : (classes singles : List ℕ) → ℕ → Type 0
Clear classes singles byte = 0x80 ≤ byte → (entry_at singles byte ≡ 0xFFFF → ⊥) → is_single (entry_at classes byte) ≡ true

pub loop-i-preserved : goal.loop-i-preserved
loop-i-preserved c = (
  omega arith,
  omega arith,
  λ e. let none = or_none_lem c.loop-i.mark _ e in below_more (Clear c.args.classes.now c.args.singles.now) c.loop-i.i (c.loop-i.invariant.2 none.0) (λ l. c.entry_mark-mark.ensures none.1),
)
