use Rattle.codepage.specs.CodePage.{is_trail}
use mathlib.Core.Path.{refl}
use Rattle.codepage.proofs.is_trail_class.Goals as goal

pub returns : goal.returns
unfolding is_trail
returns c = refl
