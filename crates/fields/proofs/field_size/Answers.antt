use mathlib.Core.Path.{◌≡◌, ap, ◌∙◌, subst}
use Prim.Native.Nat.{ℕ, ◌+◌, ◌-◌, ◌*◌, ◌/◌}
use native.Mathlib.Omega.{arith}
use lib.ListN.{length, take, drop, length-take, length-drop}
use Rattle.fields.specs.Steps.{NoSeparator, four_at}
use Rattle.fields.proofs.WordLaws.{four_found, four_passed, four_length}
use Rattle.fields.proofs.CallLaws.{units_fit}
use Rattle.fields.proofs.field_size.Goals as goal

pub returns-then-marks : goal.returns-then-marks
returns-then-marks c =
    let i = 4 * c.loop-word.word in
    ap (λ (n : ℕ). i + n) (c.first_unmarked.ensures.1 (four_at c.args.block.now i) (four_length c.args.block.now i (omega arith)) c.marks_of-marks.ensures)
    ∙ four_found c.args.block.now i c.marks_of-marks.result c.loop-word.invariant (omega arith) c.marks_of-marks.ensures c.if-marks.true

pub loop-word-preserved : goal.loop-word-preserved
loop-word-preserved c =
    let i = 4 * c.loop-word.word in
    let next : i + 4 ≡ 4 * (c.loop-word.word + 1) = omega arith in
    subst (NoSeparator c.args.block.now) next (four_passed c.args.block.now i c.marks_of-marks.result c.loop-word.invariant (omega arith) c.marks_of-marks.ensures c.if-marks.false)

pub overflow_add-result-2 : goal.overflow_add-result-2
overflow_add-result-2 c =
    let i = 4 * (length c.args.block.now / 4) in
    let rest = take (length c.args.block.now - i) (drop i c.args.block.now) in
    omega (arith, c.scan.ensures, units_fit rest, length-take (length c.args.block.now - i) (drop i c.args.block.now), length-drop i c.args.block.now)
