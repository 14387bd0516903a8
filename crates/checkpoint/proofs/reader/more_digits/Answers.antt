use mathlib.Core.Path.{◌≡◌, sym, ap, ◌∙◌}
use mathlib.Core.Option.{some}
use Prim.Native.Nat.{ℕ}
use native.Mathlib.Omega.{arith}
use lib.ListN.{length}
use Rattle.checkpoint.specs.Places.{found_at, given}
use Rattle.checkpoint.proofs.PlaceLaws.{digits_turn, digits_stop, digits_end, digits_over}
use Rattle.checkpoint.proofs.reader.more_digits.Goals as goal

pub returns-in_default-clause-value : goal.returns-in_default-clause-value
returns-in_default-clause-value c = digits_stop _ _ _ _ c.loop-i-test.true c.loop-i.invariant.0 (sym c.digit_value.ensures.value ∙ ap given c.in_default.is) ∙ sym c.loop-i.invariant.1

pub returns-then-limit-value-clause-value : goal.returns-then-limit-value-clause-value
returns-then-limit-value-clause-value c = sym (c.loop-i.invariant.1 ∙ digits_turn _ _ c.loop-i.value c.loop-i.i c.from.result c.loop-i-test.true (sym c.in-Some.ensures.value ∙ ap some (sym c.from.ensures)) ∙ digits_over _ _ _ _ (omega arith) c.if-limit-value.true)

pub loop-i-preserved : goal.loop-i-preserved
loop-i-preserved c = (omega arith, c.loop-i.invariant.1 ∙ digits_turn _ _ c.loop-i.value c.loop-i.i c.from.result c.loop-i-test.true (sym c.in-Some.ensures.value ∙ ap some (sym c.from.ensures)))

pub returns-clause-value : goal.returns-clause-value
returns-clause-value c =
    let end : length c.args.line.now ≡ c.loop-i.i = omega arith in
    ap (λ (n : ℕ). found_at c.loop-i.value c.args.line.now n) end ∙ digits_end _ _ _ _ c.loop-i-test.false (omega arith) c.loop-i.invariant.0 ∙ sym c.loop-i.invariant.1
