use mathlib.Core.Bool.{true}
use mathlib.Core.Path.{ap, ◌∙◌}
use Rattle.codepage.specs.Lent.{over}
use Rattle.engine.specs.Engine.{Converter, limit, endless, feed_from}
use Rattle.engine.specs.Steps.{summary}
use Rattle.engine.specs.declared.Direction.TheVariants.{Encoding}
use Rattle.std.proofs.Math.Option.{none}
use lib.ListN.{length}
use Rattle.oneshot.specs.Texts.{text_fed}
use Rattle.oneshot.proofs.TextLaws.{text_accepted}
use Rattle.oneshot.proofs.text.U16Text.count.Goals as goal

pub unit_converter-converter-requires : goal.unit_converter-converter-requires
unit_converter-converter-requires c =
    let accepted = text_accepted Encoding _ _ _ c.requires.accepted in
    record { good = accepted.good; allowed = accepted.policy_allowed }

pub returns : goal.returns
unfolding text_fed
returns c = c.count_encoded.ensures ∙ ap (λ (v : Converter). summary (feed_from v true endless none c.args.text.now)) c.unit_converter-converter.ensures
