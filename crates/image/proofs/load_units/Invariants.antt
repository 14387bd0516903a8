use mathlib.Core.Path.{◌≡◌}
use mathlib.Core.List.{◌++◌}
use Prim.Native.Nat.{◌*◌}
use lib.ListN.{take, drop}
use Rattle.image.specs.Image.{part, units}
use Rattle.image.proofs.load_units.Given as goal

abbrev pub invariant-loop-i : goal.invariant-loop-i
invariant-loop-i l = l.table ≡ take l.i (units (part l.bytes l.at (2 * l.count))) ++ drop l.i l.initial.table
