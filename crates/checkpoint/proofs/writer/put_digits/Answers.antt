use mathlib.Core.Path.{refl}
use native.Mathlib.Omega.{arith}
use lib.ListN.{length-set}
use Rattle.checkpoint.specs.Line.{digits_of, field_of}
use Rattle.checkpoint.proofs.LineLaws.{field_length}
use Rattle.checkpoint.proofs.WriteLaws.{put_four}
use Rattle.checkpoint.proofs.writer.put_digits.Goals as goal

pub bounds-out-at : goal.bounds-out-at
bounds-out-at c = omega (arith, field_length (digits_of c.args.policy))

pub bounds-out-at-2 : goal.bounds-out-at-2
bounds-out-at-2 c = simp length-set (omega (arith, field_length (digits_of c.args.policy)))

pub bounds-out-at-3 : goal.bounds-out-at-3
bounds-out-at-3 c = simp length-set (omega (arith, field_length (digits_of c.args.policy)))

pub bounds-out-at-4 : goal.bounds-out-at-4
bounds-out-at-4 c = simp length-set (omega (arith, field_length (digits_of c.args.policy)))

pub returns : goal.returns
unfolding field_of
returns c = put_four _ _ _ _ _ _ _ refl
