use mathlib.Core.Path.{◌∙◌, sym}
use native.Mathlib.Omega.{arith}
use Rattle.checkpoint.proofs.WriteLaws.{saved_invalid, saved_full, saved_line}
use Rattle.checkpoint.proofs.write.Goals as goal

pub returns-then-not-valid : goal.returns-then-not-valid
returns-then-not-valid c = saved_invalid _ _ (sym c.valid_run-valid.ensures ∙ c.if-not-valid.true)

pub returns-then-out-size : goal.returns-then-out-size
returns-then-out-size c = saved_full _ _ _ (sym c.valid_run-valid.ensures ∙ c.if-not-valid.false) c.line_len-size.ensures c.if-out-size.true

pub put_line-requires : goal.put_line-requires
put_line-requires c = record { run_value = sym c.valid_run-valid.ensures ∙ c.if-not-valid.false; run_in_bounds = omega (arith, c.line_len-size.ensures, c.if-out-size.false) }

pub returns : goal.returns
returns c =
    saved_line _ _ _ _ _ (sym c.valid_run-valid.ensures ∙ c.if-not-valid.false) c.line_len-size.ensures c.if-out-size.false c.put_line.ensures
