use Rattle.engine_fastpath.proofs.MetLaws.{met_start, met_join}
use Rattle.engine_fastpath.proofs.counted.met_long.Goals as goal

pub loop-i-init : goal.loop-i-init
loop-i-init c = met_start c.requires.from_in_bounds

pub loop-i-preserved : goal.loop-i-preserved
loop-i-preserved c = met_join c.loop-i.invariant c.met_mixed-place.ensures
