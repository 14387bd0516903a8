use lib.Seq.{length-take-le}
use native.Mathlib.Omega.{arith}
use mathlib.Core.Path.{sym}
use Rattle.engine_fastpath.proofs.plain.bytes_below_80.Goals as goal

pub slice_bounds-largest_byte-end : goal.slice_bounds-largest_byte-end
slice_bounds-largest_byte-end c = sym (length-take-le 64 c.args.piece.now (omega arith))
