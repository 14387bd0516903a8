use Rattle.engine_fastpath.proofs.PlainLaws.{plain_taken, plain_same}
use Rattle.codepage.specs.Reading.{decoder}
use Rattle.codepage.specs.CodePage.{entry_at}
use native.Mathlib.Omega.{arith}
use Rattle.engine_fastpath.proofs.plain.decode_plain.Goals as goal

pub returns : goal.returns
returns c =
    let tables = c.args.tables.now in
    λ pairs. plain_taken (decoder tables.classes.now tables.singles.now pairs) c.args.piece.now c.args.out.now _ (omega arith)
    (λ k b. let f = c.keeps_plain.ensures c.if-not-keeps_plain.false (entry_at c.args.piece.now k) (c.bytes_below_80.ensures c.if-not-bytes_below_80.false k b) in
    plain_same tables.classes.now tables.singles.now pairs (entry_at c.args.piece.now k) f.0 f.1) c.widen.ensures
