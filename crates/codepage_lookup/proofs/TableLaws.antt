-- What the shape of the tables gives of a lead byte.
use mathlib.Core.Bool.{true}
use mathlib.Core.List.{List, [], ◌∷◌}
use mathlib.Core.Path.{◌≡◌}
use Prim.Native.Nat.{ℕ, zero, suc, ◌+◌, ◌*◌, ◌<◌, ◌≤◌}
use native.Mathlib.Omega.{arith}
use lib.ListN.{length}
use Rattle.codepage.specs.CodePage.{entry_at, is_lead, leads, leads_below}
use Rattle.codepage.proofs.ShapeLaws.{block_there}

-- only a class that is there is a lead's
pub lead_there : (classes : List ℕ) (byte : ℕ) → is_lead (entry_at classes byte) ≡ true → byte < length classes
unfolding is_lead
lead_there [] byte e = let z : ◌≡◌ {A = ℕ} 0 1 = cc in omega arith
lead_there (c ∷ classes) zero e = omega arith
lead_there (c ∷ classes) (suc byte) e = omega (arith, lead_there classes byte e)

-- a lead is a byte: it is below 256
pub lead_below : (classes : List ℕ) (byte : ℕ) → length classes ≡ 256 → is_lead (entry_at classes byte) ≡ true → byte < 256
lead_below classes byte h e = omega (arith, lead_there classes byte e)

-- a lead's block is there
pub pair_room : (classes pairs : List ℕ) (lead : ℕ) → length pairs ≡ 256 * leads classes → is_lead (entry_at classes lead) ≡ true → 256 * leads_below classes lead + 256 ≤ length pairs
pair_room classes pairs lead h e = omega (arith, block_there classes lead (lead_there classes lead e) e, h)
