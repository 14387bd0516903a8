use borrow.Author.Tests.{not-true, not-false}
use mathlib.Core.Path.{refl}
use Rattle.engine_loops.proofs.CountLaws.{count_end, count_last}
use Rattle.engine_loops.proofs.counter.end_encoded.Goals as goal

pub returns-then-not-t : goal.returns-then-not-t
returns-then-not-t c = count_end c.requires.0 (not-true _ c.if-not-t.true) c.requires.1

pub returns : goal.returns
returns c =
    count_last c.requires.0 c.alone_encoded.ensures (not-false _ c.if-not-t.false) c.requires.1 refl
