use mathlib.Core.Path.{refl}
use Prim.Native.Nat.{◌+◌}
use native.Mathlib.Omega.{arith}
use Rattle.fields.proofs.WordLaws.{four_word}
use Rattle.fields.proofs.word_at.Goals as goal

pub overflow_cast-two : goal.overflow_cast-two
overflow_cast-two c =
    omega (arith, c.shared_slice_known-1.given c.args.i)

pub overflow_cast-two-2 : goal.overflow_cast-two-2
overflow_cast-two-2 c =
    omega (arith, c.shared_slice_known-2-1.given (c.args.i + 1))

pub overflow_mul-two : goal.overflow_mul-two
overflow_mul-two c =
    omega (arith, c.shared_slice_known-2-1.given (c.args.i + 1))

pub overflow_add-two-2 : goal.overflow_add-two-2
overflow_add-two-2 c =
    omega (arith, c.shared_slice_known-2-1.given c.args.i, c.shared_slice_known-2-1.given (c.args.i + 1))

pub overflow_cast-three : goal.overflow_cast-three
overflow_cast-three c =
    omega (arith, c.shared_slice_known-3-1.given (c.args.i + 2))

pub overflow_mul-three : goal.overflow_mul-three
overflow_mul-three c =
    omega (arith, c.shared_slice_known-3-1.given (c.args.i + 2))

pub overflow_add-three-2 : goal.overflow_add-three-2
overflow_add-three-2 c =
    omega (arith, c.shared_slice_known-3-1.given c.args.i, c.shared_slice_known-3-1.given (c.args.i + 1), c.shared_slice_known-3-1.given (c.args.i + 2))

pub overflow_cast-result : goal.overflow_cast-result
overflow_cast-result c =
    omega (arith, c.shared_slice_known-4-1.given (c.args.i + 3))

pub overflow_mul-result : goal.overflow_mul-result
overflow_mul-result c =
    omega (arith, c.shared_slice_known-4-1.given (c.args.i + 3))

pub overflow_add-result-2 : goal.overflow_add-result-2
overflow_add-result-2 c =
    omega (arith, c.shared_slice_known-4-1.given c.args.i, c.shared_slice_known-4-1.given (c.args.i + 1), c.shared_slice_known-4-1.given (c.args.i + 2), c.shared_slice_known-4-1.given (c.args.i + 3))

pub returns : goal.returns
returns c =
    four_word c.args.block.now c.args.i c.requires (λ k. omega (arith, c.shared_slice_known-4-1.given k)) refl
