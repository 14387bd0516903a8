use Rattle.engine_fastpath.proofs.PlainLaws.{plain_taken, plain_unit}
use Rattle.codepage_lookup.specs.Tables.{unit_reader}
use Rattle.codepage.specs.CodePage.{entry_at}
use native.Mathlib.Omega.{arith}
use Rattle.engine_fastpath.proofs.plain.encode_plain.Goals as goal

pub returns : goal.returns
returns c =
    plain_taken (unit_reader c.args.tables.now) c.args.piece.now c.args.out.now _ (omega arith)
    (λ k b. plain_unit c.args.tables.now.index.now c.args.tables.now.blocks.now (entry_at c.args.piece.now k) (omega (arith, c.requires k, c.if-bound-ge128.false))
    (c.keeps_plain.ensures c.if-not-keeps_plain.false (entry_at c.args.piece.now k) (omega (arith, c.requires k, c.if-bound-ge128.false)))) c.narrow.ensures
