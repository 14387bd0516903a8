use Rattle.engine.specs.Engine.{effect_of}
use Rattle.engine.specs.Steps.{unit_effect}
use Rattle.engine.proofs.EffectLaws.{unit_lacking}
use Rattle.engine.proofs.policies.decoded.Goals as goal

pub returns-in-Ok : goal.returns-in-Ok
unfolding unit_effect effect_of
returns-in-Ok c = rw c.in-Ok.is

pub returns-in-Err : goal.returns-in-Err
returns-in-Err c = rw c.in-Err.is (unit_lacking _ _ _ _ _ c.lacking.ensures)
