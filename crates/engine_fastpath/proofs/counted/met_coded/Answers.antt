use Rattle.engine_fastpath.proofs.MetLaws.{met_start, met_join}
use Rattle.engine_fastpath.proofs.counted.met_coded.Goals as goal

pub returns-then-not-asked : goal.returns-then-not-asked
returns-then-not-asked c = met_start c.requires.from_in_bounds

pub returns : goal.returns
returns c = met_join c.met_bytes-count.ensures c.met_units-units.ensures
