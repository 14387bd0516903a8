use lib.Seq.{length-take-le}
use native.Mathlib.Omega.{arith}
use mathlib.Core.Path.{sym}
use Rattle.engine_fastpath.proofs.plain.bound_of_units.Goals as goal

pub slice_bounds-largest_unit-end : goal.slice_bounds-largest_unit-end
slice_bounds-largest_unit-end c = sym (length-take-le 64 c.args.piece.now (omega arith))
