use Rattle.codepage_lookup.specs.Profile.{lead_bits}
use mathlib.Core.Path.{◌≡◌}
use Prim.Native.Nat.{◌+◌, ◌-◌, ◌%◌, ◌≤◌}
use Rattle.codepage_lookup.proofs.profile.leads_of.Given as goal

abbrev pub invariant-loop-i : goal.invariant-loop-i
invariant-loop-i l = (l.i ≤ 64) × (l.i % 8 ≡ 0) × (l.low ≡ lead_bits l.classes (0x80 + l.i) (64 - l.i)) × (l.high ≡ lead_bits l.classes (0xC0 + l.i) (64 - l.i))

abbrev pub decreases-loop-i : goal.decreases-loop-i
decreases-loop-i l = l.i
