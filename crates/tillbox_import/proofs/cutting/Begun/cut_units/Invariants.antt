use Rattle.std.proofs.Common.{◌-◌, ◌≤◌, length}
use Rattle.tillbox_import.proofs.cutting.Begun.cut_units.Given as goal

abbrev pub invariant-loop-read : goal.invariant-loop-read
invariant-loop-read l = l.at ≤ length l.units

abbrev pub decreases-loop-read : goal.decreases-loop-read
decreases-loop-read l = length l.units - l.at
