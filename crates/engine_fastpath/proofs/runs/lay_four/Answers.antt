use mathlib.Core.List.{◌++◌}
use native.Mathlib.Omega.{arith}
use Rattle.codepage.specs.Reading.{bytes_of}
use Rattle.engine_fastpath.proofs.RunLaws.{laid_both, four_bytes}
use Rattle.engine_fastpath.proofs.runs.lay_four.Goals as goal

pub overflow_add-w : goal.overflow_add-w
overflow_add-w c = omega (arith, c.lay_two-count.ensures.0, four_bytes c.args.a c.args.b)

pub lay_two-requires : goal.lay_two-requires
lay_two-requires c = omega (arith, c.lay_two-count.ensures.0, four_bytes c.args.a c.args.b)

pub overflow_add-result : goal.overflow_add-result
overflow_add-result c =
    omega (arith, c.lay_two-count.ensures.0, c.lay_two.ensures.0, four_bytes c.args.a c.args.b, four_bytes c.args.c c.args.d)

pub returns : goal.returns
returns c =
    laid_both _ _ (bytes_of c.args.a ++ bytes_of c.args.b) (bytes_of c.args.c ++ bytes_of c.args.d) c.lay_two-count.ensures c.lay_two.ensures
