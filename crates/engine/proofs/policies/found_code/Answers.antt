use Rattle.engine.proofs.EffectLaws.{byte_one, byte_two}
use Rattle.engine.proofs.policies.found_code.Goals as goal

pub returns-then-code-le255 : goal.returns-then-code-le255
returns-then-code-le255 c = λ policy default unit. byte_one policy default unit _ c.if-code-le255.true

pub returns : goal.returns
returns c = λ policy default unit. byte_two policy default unit _ c.if-code-le255.false
