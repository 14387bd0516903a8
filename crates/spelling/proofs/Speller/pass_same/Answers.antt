use Prim.Native.Nat.{◌+◌}
use native.Mathlib.Omega.{arith}
use Rattle.spelling.proofs.SameLaws.{same_turn}
use Rattle.spelling.proofs.Speller.pass_same.Goals as goal

pub loop-place-preserved : goal.loop-place-preserved
loop-place-preserved c =
    same_turn _ _ _ _ _ _ _ _ _ c.loop-place.invariant c.args.self.now.bytes.tables.no_low_lead (omega arith) (omega (arith, c.type_inv.text c.loop-place.place)) (omega (arith, c.type_inv.text (c.loop-place.place + 1))) c.in-Some.ensures
