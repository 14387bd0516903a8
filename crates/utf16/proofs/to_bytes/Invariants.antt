use Rattle.utf16.specs.Utf16.{utf16_bytes}
use lib.ListN.{length, take, drop}
use Prim.Native.Nat.{◌*◌, ◌/◌}
use mathlib.Core.List.{◌++◌}
use mathlib.Core.Path.{◌≡◌}
use Rattle.utf16.proofs.to_bytes.Given as goal

abbrev pub invariant-loop-i : goal.invariant-loop-i
invariant-loop-i l = l.bytes ≡ take (2 * l.i) (utf16_bytes (take (length l.initial.bytes / 2) l.units)) ++ drop (2 * l.i) l.initial.bytes
