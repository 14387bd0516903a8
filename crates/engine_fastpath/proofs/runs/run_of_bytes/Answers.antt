use mathlib.Core.Path.{refl, ◌∙◌}
use native.Mathlib.Omega.{arith}
use Rattle.engine_fastpath.proofs.RunLaws.{ran_start, ran_at, ran_then}
use Rattle.engine_fastpath.proofs.runs.run_of_bytes.Goals as goal

pub loop-k-init : goal.loop-k-init
loop-k-init c =
    (omega arith, refl, ran_at (ran_start c.requires.from_in_bounds.0 c.requires.from_in_bounds.1) (omega arith) (omega arith))

pub returns-then-taken-lt4 : goal.returns-then-taken-lt4
returns-then-taken-lt4 c = ran_then c.loop-k.invariant.2 c.four_bytes-taken.ensures.1 refl refl (omega arith) (omega arith)

pub loop-k-preserved : goal.loop-k-preserved
loop-k-preserved c = (
  omega arith,
  c.four_bytes-taken.ensures.1.same ∙ c.loop-k.invariant.1,
  ran_then c.loop-k.invariant.2 c.four_bytes-taken.ensures.1 refl refl (omega arith) (omega arith),
)
