use mathlib.Core.Path.{◌≡◌}
use lib.ListN.{drop}
use Rattle.codepage.specs.CodePage.{first_bad, bad_class}
use Rattle.codepage.proofs.first_bad_class.Given as goal

abbrev pub invariant-loop-byte : goal.invariant-loop-byte
invariant-loop-byte l = first_bad bad_class 0 l.classes ≡ first_bad bad_class l.byte (drop l.byte l.classes)
