use Rattle.codepage.proofs.MarkLaws.{or_none_lem}
use Rattle.codepage_lookup.proofs.ProfileLaws.{xor_none}
use Rattle.codepage.specs.CodePage.{entry_at}
use borrow.Author.Count.{below_more}
use native.Mathlib.Omega.{arith}
use mathlib.Core.Path.{◌≡◌}
use Prim.Native.Nat.{ℕ, ◌+◌}
use Rattle.codepage_lookup.proofs.profile.counts_up.Goals as goal

pub loop-i-preserved : goal.loop-i-preserved
loop-i-preserved c = (
  omega arith,
  λ e. let none = or_none_lem c.loop-i.mark _ e in
      below_more (λ (k : ℕ). entry_at c.args.table.now (c.args.from + k) ≡ k) c.loop-i.i (c.loop-i.invariant.1 none.0) (xor_none _ c.loop-i.i none.1),
)
