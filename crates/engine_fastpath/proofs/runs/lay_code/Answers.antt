use Rattle.engine_fastpath.proofs.RunLaws.{code_laid, two_bytes, some_bytes}
use lib.ListN.{length-set}
use native.Mathlib.Omega.{arith}
use Rattle.engine_fastpath.proofs.runs.lay_code.Goals as goal

pub overflow_add-out : goal.overflow_add-out
overflow_add-out c = omega (arith, c.byte_count-count.ensures, two_bytes c.args.code)

pub overflow_sub-out : goal.overflow_sub-out
overflow_sub-out c = omega (arith, c.byte_count-count.ensures, some_bytes c.args.code)

pub bounds-out-w-2 : goal.bounds-out-w-2
bounds-out-w-2 c = simp length-set (omega (arith, c.byte_count-count.ensures, two_bytes c.args.code, some_bytes c.args.code))

pub returns : goal.returns
returns c = (c.byte_count-count.ensures, code_laid _ _ _ _ c.byte_count-count.ensures)
