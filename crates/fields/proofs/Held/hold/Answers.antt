use mathlib.Core.Path.{refl}
use Rattle.fields.specs.Fields.{held_call}
use Rattle.fields.proofs.Held.hold.Goals as goal

pub returns : goal.returns
unfolding held_call
returns c = record { answer = refl; state = refl; buffer = c.lay.ensures }
