use mathlib.Core.Path.{sym, ap}
use native.Mathlib.Omega.{arith}
use lib.ListN.{length}
use Rattle.convert.specs.declared.Pending.{Pending}
use Rattle.checkpoint.specs.Line.{pending_of}
use Rattle.checkpoint.proofs.WriteLaws.{put_one, put_is}
use Rattle.checkpoint.proofs.writer.put_pending.Goals as goal

pub bounds-out-at : goal.bounds-out-at
bounds-out-at c = omega (arith, c.requires, ap (λ (p : Pending). length (pending_of p)) c.in-Nothing.is)

pub put_hex-requires : goal.put_hex-requires
put_hex-requires c =
    omega (arith, c.requires, ap (λ (p : Pending). length (pending_of p)) c.in-Byte.is)

pub put_unit-requires : goal.put_unit-requires
put_unit-requires c =
    omega (arith, c.requires, ap (λ (p : Pending). length (pending_of p)) c.in-High.is)

pub returns-in-Nothing : goal.returns-in-Nothing
returns-in-Nothing c = put_one _ _ _ _ (ap pending_of c.in-Nothing.is)

pub returns-in-Byte : goal.returns-in-Byte
returns-in-Byte c =
    put_is (ap pending_of (sym c.in-Byte.is)) c.put_hex.ensures

pub returns-in-High : goal.returns-in-High
returns-in-High c =
    put_is (ap pending_of (sym c.in-High.is)) c.put_unit.ensures
