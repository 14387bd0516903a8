use Rattle.codepage.proofs.ReadingLaws.{below_surrogates, from_surrogates}
use mathlib.Core.Path.{sym}
use Rattle.spelling.proofs.is_surrogate.Goals as goal

pub returns-then-unit-lt55296 : goal.returns-then-unit-lt55296
returns-then-unit-lt55296 c = sym (below_surrogates _ c.if-unit-lt55296.true)

pub returns : goal.returns
returns c = sym (from_surrogates _ c.if-unit-lt55296.false)
