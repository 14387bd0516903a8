use mathlib.Core.Bool.{true}
use mathlib.Core.Path.{ap, ◌∙◌}
use Rattle.codepage.specs.Lent.{over}
use Rattle.engine.specs.Engine.{Converter, limit, endless, feed_from}
use Rattle.engine.specs.Steps.{summary}
use Rattle.engine.specs.declared.Direction.TheVariants.{Decoding}
use Rattle.std.proofs.Math.Option.{none}
use lib.ListN.{length}
use Rattle.oneshot.specs.Texts.{text_fed}
use Rattle.oneshot.proofs.TextLaws.{text_accepted}
use Rattle.oneshot.proofs.text.U8Text.convert.Goals as goal

pub byte_converter-converter-requires : goal.byte_converter-converter-requires
byte_converter-converter-requires c = (text_accepted Decoding _ _ _ c.requires.accepted).good

pub decode_loop-requires : goal.decode_loop-requires
decode_loop-requires c = record { lead_value = λ lead e. cc }

pub returns : goal.returns
unfolding text_fed
returns c =
    let fed = ap (λ (v : Converter). feed_from v true (limit (length c.args.out.now)) none c.args.text.now) c.byte_converter-converter.ensures.converts in
    record { value = c.decode_loop.ensures.value ∙ ap summary fed; out_after = c.decode_loop.ensures.out_after ∙ ap (λ f. over c.args.out.now f.output) fed }
