use native.Mathlib.Omega.{arith}
use borrow.Author.Tests.{lt-leb}
use mathlib.Core.Path.{sym}
use Prim.Native.Nat.{◌+◌}
use Rattle.rfc4180.proofs.CsvLaws.{leb_rest}
use Rattle.rfc4180.proofs.fit.Goals as goal

pub returns-then-room-a : goal.returns-then-room-a
returns-then-room-a c = sym (lt-leb (c.args.a + c.args.b + c.args.c) c.args.room (omega arith))

pub returns-then-room-a-2 : goal.returns-then-room-a-2
returns-then-room-a-2 c = sym (lt-leb (c.args.a + c.args.b + c.args.c) c.args.room (omega arith))

pub returns : goal.returns
returns c = leb_rest _ c.args.b _ _ (omega arith) (omega arith)
