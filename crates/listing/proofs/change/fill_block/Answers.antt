use Prim.Native.Nat.{ℕ, ◌*◌}
use native.Mathlib.Omega.{arith}
use Rattle.listing.proofs.TableLaws.{filled_by}
use Rattle.listing.proofs.change.fill_block.Goals as goal

pub returns : goal.returns
returns c = filled_by c.args.table.now c.fill.new.self (256 * c.args.block) 256 c.args.value _ c.requires (omega arith) (c.fill.ensures.after (λ (y : ℕ) h. h))
