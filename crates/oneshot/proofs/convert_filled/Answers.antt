use mathlib.Core.Path.{◌≡◌, refl}
use Rattle.std.proofs.Common.{rules, Err}
use Rattle.oneshot.proofs.TextLaws.{filled_count, filled_as, filled_refused}
use Rattle.oneshot.proofs.convert_filled.Goals as goal

pub returns-in_err-converted : goal.returns-in_err-converted
returns-in_err-converted g c =
    let refused : c.from_residual.result ≡ Err c.in_err-converted.field-0.0 = search rules in
    rw refused (filled_refused g.I.Input.output g.I.Input.written g.met.I.Input.each_output _ _ _ _ c.args.out.now _ c.in_err-converted.field-0.0 c.in_err-converted.ensures c.args.out)

pub slice_bounds-result-end : goal.slice_bounds-result-end
slice_bounds-result-end g c = rw c.filled_len-filled.ensures (filled_count g.I.Input.output g.I.Input.written g.met.I.Input.each_output _ _ _ _ c.args.out.now c.convert_text.new.out c.in_ok-converted.converted c.in_ok-converted.ensures)

pub returns : goal.returns
returns g c = filled_as g.I.Input.output g.I.Input.written g.met.I.Input.each_output _ _ _ _ c.args.out.now c.convert_text.new.out c.in_ok-converted.converted c.in_ok-converted.ensures c.args.out _ refl (rw c.filled_len-filled.ensures refl)
