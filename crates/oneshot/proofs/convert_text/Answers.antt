use mathlib.Core.Path.{◌≡◌, sym}
use lib.ListN.{length}
use Rattle.std.proofs.Common.{rules, Err}
use Rattle.engine.specs.Engine.{limit}
use Rattle.convert.proofs.CallLaws.{units_count}
use Rattle.oneshot.proofs.TextLaws.{text_answer, checked_as, converted_refused, converted_accepted}
use Rattle.oneshot.proofs.convert_text.Goals as goal

pub returns-in_err-check : goal.returns-in_err-check
returns-in_err-check g c =
    let count = units_count g.I.Input.unit c.args.text.now _ (g.met.I.Input.each_unit c.args.text.now) in
    let refused : c.from_residual.result ≡ Err c.in_err-check.field-0.0 = search rules in
    rw refused (converted_refused _ _ _ _ c.in_err-check.field-0.0 _ (sym (checked_as _ _ c.direction.ensures count (sym c.in_err-check.ensures))))

pub convert-made-requires : goal.convert-made-requires
convert-made-requires g c =
    let count = units_count g.I.Input.unit c.args.text.now _ (g.met.I.Input.each_unit c.args.text.now) in
    record { accepted = checked_as _ _ c.direction.ensures count (sym c.in_ok-check.ensures) }

pub whole_of-whole-requires : goal.whole_of-whole-requires
whole_of-whole-requires g c =
    let count = units_count g.I.Input.unit c.args.text.now _ (g.met.I.Input.each_unit c.args.text.now) in
    record { accepted = checked_as _ _ c.direction.ensures count (sym c.in_ok-check.ensures) }

pub accepted_conversion-requires : goal.accepted_conversion-requires
accepted_conversion-requires g c = text_answer _ _ _ (limit (length _)) _ _ c.convert-made.ensures.value

pub returns : goal.returns
returns g c =
    let count = units_count g.I.Input.unit c.args.text.now _ (g.met.I.Input.each_unit c.args.text.now) in
    let accepted = checked_as _ _ c.direction.ensures count (sym c.in_ok-check.ensures) in
    converted_accepted _ _ _ _ _ _ _ _ _ accepted (c.whole_of-whole.ensures _ c.convert-made.ensures.value) c.convert-made.ensures.value c.convert-made.ensures.out_after c.accepted_conversion.ensures.0 c.accepted_conversion.ensures.1
