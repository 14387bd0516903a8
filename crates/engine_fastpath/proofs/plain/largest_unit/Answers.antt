use Rattle.engine_fastpath.proofs.PlainLaws.{bounded_more, or_over}
use native.Mathlib.Omega.{arith}
use Rattle.engine_fastpath.proofs.plain.largest_unit.Goals as goal

pub loop-i-preserved : goal.loop-i-preserved
loop-i-preserved c = (omega arith, bounded_more c.args.piece.now c.loop-i.i c.loop-i.most _ c.loop-i.invariant.1 (or_over _ _).0 (or_over c.loop-i.most _).1)
