use mathlib.Core.Path.{ap, ◌∙◌, sym}
use Rattle.codepage.specs.Lent.{over}
use Rattle.engine.specs.Engine.{Fed}
use Rattle.engine.specs.Pending.{waiting}
use Rattle.engine.specs.Steps.{summary}
use Rattle.engine.specs.declared.Direction.TheVariants.{Encoding}
use Rattle.convert.proofs.CallLaws.{accepted_facts, call_in, high_waits, high_is, loop_fed}
use Rattle.convert.proofs.units.U16Input.feed.Goals as goal

pub unit_converter-converter-requires : goal.unit_converter-converter-requires
unit_converter-converter-requires c =
    let accepted = accepted_facts Encoding _ _ _ c.requires.accepted in
    record { good = accepted.good; allowed = rw accepted.same accepted.valid.policy }

pub encode_loop-requires : goal.encode_loop-requires
encode_loop-requires c =
    let accepted = accepted_facts Encoding _ _ _ c.requires.accepted in
    record { high_value = λ high e. high_is _ (call_in Encoding _ _ _ accepted) high (sym c.high.ensures ∙ e) }

pub returns : goal.returns
returns c =
    let pending = ap waiting c.high.ensures ∙ high_waits _ (call_in Encoding _ _ _ (accepted_facts Encoding _ _ _ c.requires.accepted)) in
    let fed = loop_fed Encoding c.args.run _ c.args.piece.now c.args.last _ c.unit_converter-converter.ensures pending in
    record { value = c.encode_loop.ensures.value ∙ ap summary fed; out_after = c.encode_loop.ensures.out_after ∙ ap (λ (f : Fed). over c.args.out.now f.output) fed }
