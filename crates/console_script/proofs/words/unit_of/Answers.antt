use native.Mathlib.Omega.{arith}
use Rattle.console_script.proofs.WordLaws.{unit_of}
use Rattle.console_script.proofs.words.unit_of.Goals as goal

pub returns-then-place-digits : goal.returns-then-place-digits
returns-then-place-digits c = λ h. unit_of _ _ _ _ (c.byte_of-high.ensures (omega arith)) (c.byte_of-low.ensures (omega arith))
