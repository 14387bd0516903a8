use Rattle.engine_fastpath.proofs.MetLaws.{met_join}
use Rattle.engine_fastpath.proofs.counted.met_codes.Goals as goal

pub returns : goal.returns
returns c = met_join c.met_few-few.ensures c.met_long-rest.ensures
