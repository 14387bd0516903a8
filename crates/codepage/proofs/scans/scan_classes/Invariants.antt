use Rattle.codepage.proofs.MarkLaws.{MarkedHalves}
use Rattle.codepage.specs.CodePage.{bad_class, leads_below}
use mathlib.Core.Path.{◌≡◌}
use Prim.Native.Nat.{◌≤◌, ◌+◌}
use Rattle.codepage.proofs.scans.scan_classes.Given as goal

abbrev pub invariant-loop-i : goal.invariant-loop-i
invariant-loop-i l = (l.leads ≤ l.i) × MarkedHalves bad_class l.classes l.i l.mark × (leads_below l.classes (128 + l.i) ≡ leads_below l.classes 128 + l.leads)
