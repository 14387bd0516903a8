use Rattle.engine_fastpath.proofs.MetLaws.{met_join}
use Rattle.engine_fastpath.proofs.counted.met_mixed.Goals as goal

pub returns-then-count-kept-gt0 : goal.returns-then-count-kept-gt0
returns-then-count-kept-gt0 c = met_join c.met_pairs-count.ensures.1 (c.met_plain-kept.ensures.1 _ _ _ c.requires.plain_page)
