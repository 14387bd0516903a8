use borrow.Author.Tests.{eq-eqb, ne_eqb}
use Rattle.codepage.specs.Reading.{lookup}
use Rattle.codepage_lookup.proofs.found.Goals as goal

pub returns-then-value-eq65535 : goal.returns-then-value-eq65535
unfolding lookup
returns-then-value-eq65535 c = rw (eq-eqb _ _ c.if-value-eq65535.true)

pub returns-else-value-eq65535 : goal.returns-else-value-eq65535
unfolding lookup
returns-else-value-eq65535 c = rw (ne_eqb _ _ c.if-value-eq65535.false)
