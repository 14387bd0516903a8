use native.Mathlib.Omega.{arith}
use Rattle.listing.proofs.FormLaws.{room, room_step, room_le, decimal_step, decimal_none}
use Rattle.listing.proofs.form.page_at.Goals as goal

pub loop-i-init : goal.loop-i-init
unfolding room
loop-i-init c = (decimal_none _ _, omega arith)

pub overflow_mul-page : goal.overflow_mul-page
overflow_mul-page c = omega (arith, room_le c.loop-i.i (omega arith))

pub overflow_add-page : goal.overflow_add-page
overflow_add-page c = omega (arith, room_le c.loop-i.i (omega arith), c.digit_of.ensures.1)

pub loop-i-preserved : goal.loop-i-preserved
loop-i-preserved c =
    (decimal_step _ 2 c.loop-i.i _ _ c.loop-i.invariant.0 c.digit_of.ensures.0, omega (arith, room_step c.loop-i.i, c.digit_of.ensures.1, c.loop-i.invariant.1))
