use Rattle.oneshot.specs.Texts.{text_fed}
use Rattle.oneshot.proofs.TextLaws.{whole_made}
use Rattle.oneshot.proofs.whole_of.Goals as goal

pub returns-then-made-ne2 : goal.returns-then-made-ne2
unfolding text_fed
returns-then-made-ne2 g c = λ room e. whole_made _ room _ _ e c.if-made-ne2.true
