use mathlib.Core.Path.{ap, ◌∙◌, sym}
use Rattle.codepage.specs.Lent.{over}
use Rattle.engine.specs.Engine.{Fed}
use Rattle.engine.specs.Pending.{waiting}
use Rattle.engine.specs.Steps.{summary}
use Rattle.engine.specs.declared.Direction.TheVariants.{Decoding}
use Rattle.convert.proofs.CallLaws.{accepted_facts, call_in, byte_waits, byte_leads, loop_fed}
use Rattle.convert.proofs.units.U8Input.feed.Goals as goal

pub byte_converter-converter-requires : goal.byte_converter-converter-requires
byte_converter-converter-requires c = (accepted_facts Decoding _ _ _ c.requires.accepted).good

pub decode_loop-requires : goal.decode_loop-requires
decode_loop-requires c =
    let accepted = accepted_facts Decoding _ _ _ c.requires.accepted in
    record { lead_value = λ lead e. rw c.byte_converter-converter.ensures.classes (byte_leads _ _ accepted.lead lead (sym c.byte.ensures ∙ e)) }

pub returns : goal.returns
returns c =
    let pending = ap waiting c.byte.ensures ∙ byte_waits _ (call_in Decoding _ _ _ (accepted_facts Decoding _ _ _ c.requires.accepted)) in
    let fed = loop_fed Decoding c.args.run _ c.args.piece.now c.args.last _ c.byte_converter-converter.ensures.converts pending in
    record { value = c.decode_loop.ensures.value ∙ ap summary fed; out_after = c.decode_loop.ensures.out_after ∙ ap (λ (f : Fed). over c.args.out.now f.output) fed }
