use native.Mathlib.Omega.{arith}
use mathlib.Core.Path.{refl, ◌∙◌, ap}
use Rattle.convert.specs.Calls.{run_after, ended_after}
use Rattle.convert.proofs.CallLaws.{read_le}
use Rattle.convert.proofs.Outcome.accepted.Goals as goal

pub overflow_add-next : goal.overflow_add-next
overflow_add-next c =
    omega (arith, c.requires.used_bound, c.read_of-read.ensures, read_le c.args.run.pending c.args.count c.args.s.answer c.args.s.used c.requires.used_bound.0)

pub returns : goal.returns
unfolding run_after
returns c =
    let ended = c.ended_after.ensures ∙ ap (ended_after c.args.last) c.answer_of-answer.ensures in
    record { number = c.answer_of-answer.ensures; read = c.read_of-read.ensures; written = refl; run' = rw (← c.read_of-read.ensures, ← ended) }
