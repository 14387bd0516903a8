use Prim.Native.Nat.{ℕ}
use native.Mathlib.Omega.{arith}
use Rattle.listing.proofs.TableLaws.{filled_by}
use Rattle.listing.proofs.change.clear.Goals as goal

pub returns : goal.returns
returns c = filled_by c.args.table.now c.fill.new.self 0 256 0 256 c.requires (omega arith) (c.fill.ensures.after (λ (y : ℕ) h. h))
