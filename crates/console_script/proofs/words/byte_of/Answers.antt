use Rattle.console_script.proofs.WordLaws.{byte_of}
use Rattle.console_script.proofs.words.byte_of.Goals as goal

pub returns-then-place-digits : goal.returns-then-place-digits
returns-then-place-digits c = λ h. byte_of _ _ _ _ c.nibble.ensures.value c.nibble-then-place-digits.ensures.value
