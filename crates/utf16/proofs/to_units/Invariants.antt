use Rattle.utf16.specs.Utf16.{utf16_units}
use lib.ListN.{length, take, drop}
use mathlib.Core.List.{◌++◌}
use mathlib.Core.Path.{◌≡◌}
use Rattle.utf16.proofs.to_units.Given as goal

abbrev pub invariant-loop-i : goal.invariant-loop-i
invariant-loop-i l = l.units ≡ take l.i (take (length l.initial.units) (utf16_units l.bytes)) ++ drop l.i l.initial.units
