use Rattle.engine.proofs.DecodeLaws.{decoded_settled}
use Rattle.engine.proofs.SettledLaws.{settled_more, settled_size}
use Rattle.engine.proofs.converters.LeadConverter.settled.Goals as goal

pub returns-clause-effect : goal.returns-clause-effect
returns-clause-effect c = decoded_settled _ _ _ _ _ _ _ c.settle-code.ensures _ c.decoded-effect.ensures

pub returns-clause-more : goal.returns-clause-more
returns-clause-more c = (settled_more _ _ _ c.settle-code.ensures, settled_size _ _ _ _ _ c.settle-code.ensures)
