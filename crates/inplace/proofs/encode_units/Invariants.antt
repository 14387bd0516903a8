use mathlib.Core.Path.{◌≡◌}
use Prim.Native.Nat.{◌-◌}
use lib.ListN.{length}
use Rattle.engine.specs.Converters.{by_units}
use Rattle.inplace.specs.Steps.{PartDone}
use Rattle.inplace.proofs.encode_units.Given as goal

abbrev pub invariant-loop-s : goal.invariant-loop-s
invariant-loop-s l = PartDone (by_units l.v) l.initial.buffer l.s l.buffer × (length l.chunk ≡ 384)

abbrev pub decreases-loop-s : goal.decreases-loop-s
decreases-loop-s l = length l.initial.buffer - l.s.used
