use mathlib.Core.Path.{◌≡◌}
use Rattle.std.specs.Prelude.{None}
use Rattle.std.proofs.lemmas.Result.{err_from_is_err_and}
use Rattle.spelling.specs.declared.Refusal.TheVariants.{AtFault}
use native.Mathlib.Omega.{arith}
use Rattle.spelling.proofs.SpellLaws.{bytes_few}
use Rattle.spelling.proofs.LoopLaws.{size_inside, read_fault, read_passed, counting_more, counting_fault, counting_end}
use Rattle.spelling.proofs.SameLaws.{same_count, counting_same}
use Rattle.spelling.proofs.Speller.count_spelling.Goals as goal

pub loop-place-init : goal.loop-place-init
loop-place-init c = (c.requires.span_same.inside, omega arith, counting_same _ _ _ _ _ c.requires.span_same)

pub returns-in_err-code : goal.returns-in_err-code
returns-in_err-code c =
    let p = err_from_is_err_and c.from_residual.result c.from_residual.ensures.1 in
    let at_fault : c.spelled_at-next.result.code ≡ None = grind (arith, c.in_err-code.was, c.ok_or.ensures) in
    let why : c.in_err-code.field-0.0 ≡ AtFault c.loop-place.place = grind (arith, c.in_err-code.was, c.ok_or.ensures) in
    rw (p.1, p.2, why) (counting_fault _ _ _ _ _ _ c.loop-place.invariant.2 (read_fault _ _ _ _ _ _ c.spelled_at-next.ensures at_fault))

pub overflow_add-after : goal.overflow_add-after
overflow_add-after c = let (low, high, inside) = size_inside _ _ _ _ _ _ c.spelled_at-next.ensures in omega arith

pub pass_same-place-requires : goal.pass_same-place-requires
pass_same-place-requires c = let (low, high, inside) = size_inside _ _ _ _ _ _ c.spelled_at-next.ensures in inside

pub overflow_add-bytes : goal.overflow_add-bytes
overflow_add-bytes c =
    let (low, high, inside) = size_inside _ _ _ _ _ _ c.spelled_at-next.ensures in
    let few = (bytes_few c.in_ok-code.code).1 in
    omega (arith, c.loop-place.invariant.1, few, c.byte_count.ensures, c.pass_same-place.ensures.from_on, c.pass_same-place.ensures.inside, c.requires.short)

pub overflow_add-bytes-in-loop-place : goal.overflow_add-bytes-in-loop-place
overflow_add-bytes-in-loop-place c =
    let (low, high, inside) = size_inside _ _ _ _ _ _ c.spelled_at-next.ensures in
    let few = (bytes_few c.in_ok-code.code).1 in
    omega (arith, c.loop-place.invariant.1, few, c.byte_count.ensures, c.pass_same-place.ensures.from_on, c.pass_same-place.ensures.inside, c.requires.short)

pub loop-place-preserved : goal.loop-place-preserved
loop-place-preserved c =
    let (low, high, inside) = size_inside _ _ _ _ _ _ c.spelled_at-next.ensures in
    let few = (bytes_few c.in_ok-code.code).1 in
    let passed = read_passed _ _ _ _ _ _ c.spelled_at-next.ensures c.in_ok-code.code (grind (arith, c.in_ok-code.was, c.ok_or.ensures)) in
    let counted = counting_more _ _ _ _ _ _ c.loop-place.invariant.2 _ _ _ passed c.byte_count.ensures in (
      c.pass_same-place.ensures.inside,
      omega (arith, c.loop-place.invariant.1, few, c.byte_count.ensures, c.pass_same-place.ensures.from_on, c.pass_same-place.ensures.inside, c.requires.short),
      counting_more _ _ _ _ _ _ counted _ _ _ c.pass_same-place.ensures.passed (same_count _ _ _ _ _ _ c.pass_same-place.ensures),
    )

pub returns : goal.returns
returns c = counting_end _ _ _ _ _ _ c.loop-place.invariant.2 (omega arith)
