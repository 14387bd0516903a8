use mathlib.Core.Bool.{true}
use mathlib.Core.Path.{ap, ◌∙◌}
use Rattle.codepage.specs.Lent.{over}
use Rattle.engine.specs.Engine.{Converter, limit, endless, feed_from}
use Rattle.engine.specs.Steps.{summary}
use Rattle.engine.specs.declared.Direction.TheVariants.{Decoding}
use Rattle.std.proofs.Math.Option.{none}
use lib.ListN.{length}
use Rattle.oneshot.specs.Texts.{text_fed}
use Rattle.oneshot.proofs.TextLaws.{text_accepted}
use Rattle.oneshot.proofs.text.U8Text.count.Goals as goal

pub byte_converter-converter-requires : goal.byte_converter-converter-requires
byte_converter-converter-requires c = (text_accepted Decoding _ _ _ c.requires.accepted).good

pub returns : goal.returns
unfolding text_fed
returns c = c.count_decoded.ensures ∙ ap (λ (v : Converter). summary (feed_from v true endless none c.args.text.now)) c.byte_converter-converter.ensures.converts
