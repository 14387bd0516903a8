use mathlib.Core.Path.{◌≡◌}
use Prim.Native.Nat.{◌<◌}
use Rattle.listing.specs.Form.{decimal_at}
use Rattle.listing.proofs.FormLaws.{room}
use Rattle.listing.proofs.form.page_at.Given as goal

abbrev pub invariant-loop-i : goal.invariant-loop-i
invariant-loop-i l = (l.page ≡ decimal_at l.i l.line 2) × (l.page < room l.i)
