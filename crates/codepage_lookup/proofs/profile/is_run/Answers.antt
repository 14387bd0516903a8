use mathlib.Core.Path.{sym}
use borrow.Author.Tests.{ne_eqb}
use Rattle.codepage_lookup.specs.Profile.{side_by_side}
use Rattle.codepage_lookup.proofs.profile.is_run.Goals as goal

pub returns-then-word-eq0 : goal.returns-then-word-eq0
unfolding side_by_side
returns-then-word-eq0 c = sym (rw c.if-word-eq0.true)

pub returns : goal.returns
unfolding side_by_side
returns c = sym (rw (ne_eqb _ _ c.if-word-eq0.false))
