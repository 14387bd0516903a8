use mathlib.Core.Bool.{true}
use mathlib.Core.Path.{ap, ◌∙◌}
use Rattle.codepage.specs.Lent.{over}
use Rattle.engine.specs.Engine.{Converter, limit, endless, feed_from}
use Rattle.engine.specs.Steps.{summary}
use Rattle.engine.specs.declared.Direction.TheVariants.{Encoding}
use Rattle.std.proofs.Math.Option.{none}
use lib.ListN.{length}
use Rattle.oneshot.specs.Texts.{text_fed}
use Rattle.oneshot.proofs.TextLaws.{text_accepted}
use Rattle.oneshot.proofs.text.U16Text.convert.Goals as goal

pub unit_converter-converter-requires : goal.unit_converter-converter-requires
unit_converter-converter-requires c =
    let accepted = text_accepted Encoding _ _ _ c.requires.accepted in
    record { good = accepted.good; allowed = accepted.policy_allowed }

pub returns : goal.returns
unfolding text_fed
returns c =
    let fed = ap (λ (v : Converter). feed_from v true (limit (length c.args.out.now)) none c.args.text.now) c.unit_converter-converter.ensures in
    record { value = c.encode_whole.ensures.value ∙ ap summary fed; out_after = c.encode_whole.ensures.out_after ∙ ap (λ f. over c.args.out.now f.output) fed }
