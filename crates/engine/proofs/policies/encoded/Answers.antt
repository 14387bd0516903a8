use mathlib.Core.Path.{◌∙◌, ap}
use Rattle.engine.specs.Steps.{byte_effect}
use Rattle.engine.proofs.EffectLaws.{byte_lacking}
use borrow.Author.Rules.{rules}
use Rattle.engine.proofs.policies.encoded.Goals as goal

pub returns-in-Err : goal.returns-in-Err
returns-in-Err c = λ unit. rw c.in-Err.is (ap byte_effect c.lacking.ensures ∙ byte_lacking c.args.policy c.args.default unit _ c.requires (search rules))
