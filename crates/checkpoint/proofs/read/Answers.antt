use mathlib.Core.Path.{sym, ap, ◌∙◌}
use Rattle.convert.specs.Runs.{read_limit, written_limit}
use Rattle.checkpoint.specs.Line.{field, letter, number, three_digits, pending_field, closing, restored_as}
use Rattle.checkpoint.specs.Places.{up_to}
use Rattle.checkpoint.proofs.PlaceLaws.{read_then, read_then_none}
use Rattle.checkpoint.proofs.ReadLaws.{limited, not_a_line, not_valid, a_line, all_found}
use Rattle.checkpoint.proofs.read.Goals as goal

pub returns-in_err-letter : goal.returns-in_err-letter
unfolding limited
returns-in_err-letter c = ap restored_as c.from_residual.ensures ∙ sym (not_a_line _ (read_then_none (field letter) _ _ _ (sym c.in_err-letter.ensures)))

pub returns-in_err-page : goal.returns-in_err-page
unfolding limited
returns-in_err-page c = ap restored_as c.from_residual-in_err-page.ensures ∙ sym (not_a_line _ (read_then (field letter) _ _ _ _ _ c.in_ok-letter.ensures ∙ read_then_none (field (up_to 65535 number)) _ _ _ (sym c.in_err-page.ensures.value)))

pub returns-in_err-digits : goal.returns-in_err-digits
unfolding limited
returns-in_err-digits c = ap restored_as c.from_residual-in_err-digits.ensures ∙ sym (not_a_line _ (read_then (field letter) _ _ _ _ _ c.in_ok-letter.ensures ∙ read_then (field (up_to 65535 number)) _ _ _ _ _ c.in_ok-page.ensures.value ∙ read_then_none (field three_digits) _ _ _ (sym c.in_err-digits.ensures)))

pub returns-in_err-pending : goal.returns-in_err-pending
unfolding limited
returns-in_err-pending c = ap restored_as c.from_residual-in_err-pending.ensures ∙ sym (not_a_line _ (read_then (field letter) _ _ _ _ _ c.in_ok-letter.ensures ∙ read_then (field (up_to 65535 number)) _ _ _ _ _ c.in_ok-page.ensures.value ∙ read_then (field three_digits) _ _ _ _ _ c.in_ok-digits.ensures ∙ read_then_none (field (pending_field _)) _ _ _ (sym c.in_err-pending.ensures)))

pub returns-in_err-flags : goal.returns-in_err-flags
unfolding limited
returns-in_err-flags c = ap restored_as c.from_residual-in_err-flags.ensures ∙ sym (not_a_line _ (read_then (field letter) _ _ _ _ _ c.in_ok-letter.ensures ∙ read_then (field (up_to 65535 number)) _ _ _ _ _ c.in_ok-page.ensures.value ∙ read_then (field three_digits) _ _ _ _ _ c.in_ok-digits.ensures ∙ read_then (field (pending_field _)) _ _ _ _ _ c.in_ok-pending.ensures ∙ read_then_none (field (up_to 255 number)) _ _ _ (sym c.in_err-flags.ensures.value)))

pub returns-in_err-read : goal.returns-in_err-read
unfolding limited
returns-in_err-read c = ap restored_as c.from_residual-in_err-read.ensures ∙ sym (not_a_line _ (read_then (field letter) _ _ _ _ _ c.in_ok-letter.ensures ∙ read_then (field (up_to 65535 number)) _ _ _ _ _ c.in_ok-page.ensures.value ∙ read_then (field three_digits) _ _ _ _ _ c.in_ok-digits.ensures ∙ read_then (field (pending_field _)) _ _ _ _ _ c.in_ok-pending.ensures ∙ read_then (field (up_to 255 number)) _ _ _ _ _ c.in_ok-flags.ensures.value ∙ read_then_none (field (up_to read_limit number)) _ _ _ (sym c.in_err-read.ensures.value)))

pub returns-in_err-written : goal.returns-in_err-written
unfolding limited
returns-in_err-written c = ap restored_as c.from_residual-in_err-written.ensures ∙ sym (not_a_line _ (read_then (field letter) _ _ _ _ _ c.in_ok-letter.ensures ∙ read_then (field (up_to 65535 number)) _ _ _ _ _ c.in_ok-page.ensures.value ∙ read_then (field three_digits) _ _ _ _ _ c.in_ok-digits.ensures ∙ read_then (field (pending_field _)) _ _ _ _ _ c.in_ok-pending.ensures ∙ read_then (field (up_to 255 number)) _ _ _ _ _ c.in_ok-flags.ensures.value ∙ read_then (field (up_to read_limit number)) _ _ _ _ _ c.in_ok-read.ensures.value ∙ read_then_none (field (up_to written_limit number)) _ _ _ (sym c.in_err-written.ensures.value)))

pub returns-in_err-ended : goal.returns-in_err-ended
unfolding limited
returns-in_err-ended c = ap restored_as c.from_residual-in_err-ended.ensures ∙ sym (not_a_line _ (read_then (field letter) _ _ _ _ _ c.in_ok-letter.ensures ∙ read_then (field (up_to 65535 number)) _ _ _ _ _ c.in_ok-page.ensures.value ∙ read_then (field three_digits) _ _ _ _ _ c.in_ok-digits.ensures ∙ read_then (field (pending_field _)) _ _ _ _ _ c.in_ok-pending.ensures ∙ read_then (field (up_to 255 number)) _ _ _ _ _ c.in_ok-flags.ensures.value ∙ read_then (field (up_to read_limit number)) _ _ _ _ _ c.in_ok-read.ensures.value ∙ read_then (field (up_to written_limit number)) _ _ _ _ _ c.in_ok-written.ensures.value ∙ read_then_none (closing) _ _ _ (sym c.in_err-ended.ensures)))

pub returns-then-not-valid_run : goal.returns-then-not-valid_run
returns-then-not-valid_run c = sym (not_valid _ _ (all_found _ _ _ _ _ _ _ _ _ c.in_ok-letter.ensures c.in_ok-page.ensures.value c.in_ok-digits.ensures c.in_ok-pending.ensures c.in_ok-flags.ensures.value c.in_ok-read.ensures.value c.in_ok-written.ensures.value c.in_ok-ended.ensures) (sym c.valid_run.ensures ∙ c.if-not-valid_run.true))

pub returns : goal.returns
returns c = sym (a_line _ _ (all_found _ _ _ _ _ _ _ _ _ c.in_ok-letter.ensures c.in_ok-page.ensures.value c.in_ok-digits.ensures c.in_ok-pending.ensures c.in_ok-flags.ensures.value c.in_ok-read.ensures.value c.in_ok-written.ensures.value c.in_ok-ended.ensures) c.in_ok-page.ensures.upper_bound (sym c.valid_run.ensures ∙ c.if-not-valid_run.false))
