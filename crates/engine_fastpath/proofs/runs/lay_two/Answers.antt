use native.Mathlib.Omega.{arith}
use Rattle.codepage.specs.Reading.{bytes_of}
use Rattle.engine_fastpath.proofs.RunLaws.{laid_both, two_bytes}
use Rattle.engine_fastpath.proofs.runs.lay_two.Goals as goal

pub overflow_add-w : goal.overflow_add-w
overflow_add-w c = omega (arith, c.lay_code-count.ensures.0, two_bytes c.args.a)

pub lay_code-requires : goal.lay_code-requires
lay_code-requires c = omega (arith, c.lay_code-count.ensures.0, two_bytes c.args.a)

pub overflow_add-result : goal.overflow_add-result
overflow_add-result c =
    omega (arith, c.lay_code-count.ensures.0, c.lay_code.ensures.0, two_bytes c.args.a, two_bytes c.args.b)

pub returns : goal.returns
returns c =
    laid_both _ _ (bytes_of c.args.a) (bytes_of c.args.b) c.lay_code-count.ensures c.lay_code.ensures
