use mathlib.Core.Path.{◌≡◌}
use Prim.Native.Nat.{◌+◌, ◌≤◌}
use lib.ListN.{length, take}
use Rattle.rfc4180.specs.Csv.{escaped_field}
use Rattle.rfc4180.specs.Steps.{LaidAt}
use Rattle.rfc4180.proofs.lay_field.Given as goal

abbrev pub invariant-loop-unit : goal.invariant-loop-unit
invariant-loop-unit l = (length l.out ≡ length l.initial.out) × (l.place + length (escaped_field l.field) ≤ length l.initial.out) × LaidAt l.initial.out l.out l.place (escaped_field (take l.unit-index l.field)) l.at
