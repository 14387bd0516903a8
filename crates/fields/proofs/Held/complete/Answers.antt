use mathlib.Core.Path.{refl}
use Rattle.fields.proofs.CallLaws.{found_here, found_held}
use Rattle.fields.proofs.Held.complete.Goals as goal

pub returns-then-held-eq0 : goal.returns-then-held-eq0
returns-then-held-eq0 c = found_here _ _ _ _ _ _ _ _ refl c.read_with-read.ensures c.fresh.ensures c.if-held-eq0.true refl

pub returns : goal.returns
returns c = found_held _ _ _ _ _ _ _ _ refl c.read_with-read.ensures c.fresh.ensures c.if-held-eq0.false c.lay.ensures
