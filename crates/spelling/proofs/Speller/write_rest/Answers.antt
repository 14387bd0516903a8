use native.Mathlib.Omega.{arith}
use Rattle.spelling.proofs.LoopLaws.{size_inside, read_passed, writing_room, writing_coded, writing_put, writing_end, begun_writable}
use Rattle.spelling.proofs.SameLaws.{same_room, same_count, writing_same}
use Rattle.spelling.proofs.Speller.write_rest.Goals as goal

pub unwrap-requires : goal.unwrap-requires
unwrap-requires c =
    let able = begun_writable _ _ _ _ _ _ c.requires.begun in
    let (code, e) = writing_coded _ _ _ _ _ _ _ _ c.loop-place.invariant.1 able _ c.spelled_at-next.ensures in
    rw e

pub put_code-at-requires : goal.put_code-at-requires
put_code-at-requires c =
    let able = begun_writable _ _ _ _ _ _ c.requires.begun in
    writing_room _ _ _ _ _ _ _ _ c.loop-place.invariant.1 able _ _ (read_passed _ _ _ _ _ _ c.spelled_at-next.ensures _ c.unwrap.ensures)

pub overflow_add-after : goal.overflow_add-after
overflow_add-after c = let (low, high, inside) = size_inside _ _ _ _ _ _ c.spelled_at-next.ensures in omega (arith, c.requires.begun.short)

pub pass_same-place-requires : goal.pass_same-place-requires
pass_same-place-requires c = let (low, high, inside) = size_inside _ _ _ _ _ _ c.spelled_at-next.ensures in inside

pub put_bytes-written-requires : goal.put_bytes-written-requires
put_bytes-written-requires c =
    let able = begun_writable _ _ _ _ _ _ c.requires.begun in
    omega (arith, same_room _ _ _ _ _ _ _ _ (writing_put _ _ _ _ _ _ _ _ c.loop-place.invariant.1 able _ c.spelled_at-next.ensures _ c.unwrap.ensures _ _ c.put_code-at.ensures) able _ c.pass_same-place.ensures, same_count _ _ _ _ _ _ c.pass_same-place.ensures)

pub loop-place-preserved : goal.loop-place-preserved
loop-place-preserved c =
    let able = begun_writable _ _ _ _ _ _ c.requires.begun in
    let put = writing_put _ _ _ _ _ _ _ _ c.loop-place.invariant.1 able _ c.spelled_at-next.ensures _ c.unwrap.ensures _ _ c.put_code-at.ensures in
    (c.pass_same-place.ensures.inside, writing_same _ _ _ _ _ _ _ _ put able _ c.pass_same-place.ensures _ _ c.put_bytes-written.ensures)

pub returns : goal.returns
returns c = writing_end _ _ _ _ _ _ _ _ c.loop-place.invariant.1 (omega arith)
