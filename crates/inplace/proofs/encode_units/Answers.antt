use Prim.Native.Nat.{ℕ}
use lib.ListN.{length-replicate}
use native.Mathlib.Omega.{arith}
use Rattle.utf16.proofs.Utf16Laws.{units_length}
use Rattle.inplace.proofs.CallLaws.{ends_whole}
use Rattle.inplace.proofs.ChunkLaws.{part_none, part_all}
use Rattle.inplace.proofs.encode_units.Goals as goal

pub loop-s-init : goal.loop-s-init
loop-s-init c = (part_none _ _, length-replicate {A = ℕ} 384 0)

pub returns-then-s-ne0 : goal.returns-then-s-ne0
returns-then-s-ne0 c = ends_whole _ _ _ _ _ _ _ ((c.take_chunk-s.ensures _ c.loop-s.invariant.0).ends c.if-s-ne0.true)

pub returns : goal.returns
returns c = ends_whole _ _ _ _ _ _ _ (part_all _ _ _ _ c.loop-s.invariant.0 (omega (arith, c.loop-s-test.false, c.loop-s.invariant.0.same, units_length c.args.buffer.now)))
