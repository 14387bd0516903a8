use mathlib.Core.Path.{sym, ap, ◌∙◌}
use mathlib.Core.Option.{some}
use Prim.Native.Nat.{ℕ, ◌+◌}
use native.Mathlib.Omega.{arith}
use Rattle.checkpoint.specs.Line.{number, more_digits}
use Rattle.checkpoint.specs.Places.{read_at, up_to}
use Rattle.checkpoint.proofs.PlaceLaws.{nothing, field_found, field_none, limited_end, limited_none, limited_zero, limited_first}
use Rattle.checkpoint.proofs.reader.number_at.Goals as goal

pub returns-then-line-at-clause-value : goal.returns-then-line-at-clause-value
returns-then-line-at-clause-value c = sym (field_none (up_to c.args.limit number) _ _ (limited_end _ _ _ c.if-line-at.true))

pub returns-in_err-first-clause-value : goal.returns-in_err-first-clause-value
returns-in_err-first-clause-value c = nothing _ _ _ c.from_residual.ensures (field_none (up_to c.args.limit number) _ _ (limited_none _ _ _ c.if-line-at.false (sym c.in_err-first.ensures.value)))

pub returns-then-first-eq0-clause-value : goal.returns-then-first-eq0-clause-value
returns-then-first-eq0-clause-value c = field_found (up_to c.args.limit number) _ _ 0 _ _ (limited_zero _ _ _ c.if-line-at.false (sym c.in_ok-first.ensures.value ∙ ap some c.if-first-eq0.true)) c.tabbed.ensures.value

pub returns-in_err-whole-clause-value : goal.returns-in_err-whole-clause-value
returns-in_err-whole-clause-value c = nothing _ _ _ c.from_residual-in_err-whole.ensures (field_none (up_to c.args.limit number) _ _ (limited_first _ _ _ _ c.if-line-at.false (sym c.in_ok-first.ensures.value) (omega arith) ∙ ap (λ (n : ℕ). read_at (up_to c.args.limit (more_digits n)) c.args.line.now (c.args.at + 1)) (sym c.from.ensures) ∙ sym c.in_err-whole.ensures.value))

pub returns-clause-value : goal.returns-clause-value
returns-clause-value c = field_found (up_to c.args.limit number) _ _ _ _ _ (c.in_ok-whole.ensures.value ∙ ap (λ (n : ℕ). read_at (up_to c.args.limit (more_digits n)) c.args.line.now (c.args.at + 1)) c.from.ensures ∙ sym (limited_first _ _ _ _ c.if-line-at.false (sym c.in_ok-first.ensures.value) (omega arith))) c.tabbed-2.ensures.value
