use mathlib.Core.Path.{refl}
use Rattle.capi.specs.Cutting.{refused_field}
use Rattle.capi.proofs.cutting.refused_field.Goals as goal

pub returns : goal.returns
unfolding refused_field
returns c = refl
