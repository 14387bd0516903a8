use Rattle.engine_fastpath.proofs.RunLaws.{ran_join, ran_start}
use Rattle.engine_fastpath.proofs.runs.run_of_coded.Goals as goal

pub returns-then-not-asked : goal.returns-then-not-asked
returns-then-not-asked c =
    ran_start c.requires.from_in_bounds.0 c.requires.from_in_bounds.1

pub returns : goal.returns
returns c = ran_join (ran_join c.run_of_some-few.ensures c.run_of_bytes-count.ensures) c.run_of_units.ensures
