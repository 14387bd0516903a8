use mathlib.Core.Path.{sym, ap₂, ◌∙◌}
use Prim.Native.Nat.{ℕ, ◌+◌}
use borrow.Author.Tests.{lt-ltb, le-ltb}
use Rattle.codepage_lookup.specs.Profile.{block_of}
use Rattle.codepage_lookup.proofs.profile.block_counted.Goals as goal

pub returns-then-lead-lt192 : goal.returns-then-lead-lt192
unfolding block_of
returns-then-lead-lt192 c = c.ones_below.ensures.0 ∙ sym (rw (lt-ltb _ _ c.if-lead-lt192.true))

pub returns : goal.returns
unfolding block_of
returns c = ap₂ (λ (x y : ℕ). x + y) c.ones_of.ensures.0 c.ones_below-2.ensures.0 ∙ sym (rw (le-ltb _ _ c.if-lead-lt192.false))
