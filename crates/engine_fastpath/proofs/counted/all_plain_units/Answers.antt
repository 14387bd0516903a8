use Rattle.codepage.specs.CodePage.{entry_at}
use Rattle.engine_fastpath.proofs.PlainLaws.{plain_unit}
use Rattle.engine_fastpath.proofs.MetLaws.{met_whole}
use native.Mathlib.Omega.{arith}
use Rattle.engine_fastpath.proofs.counted.all_plain_units.Goals as goal

pub returns : goal.returns
returns c = λ e.
    met_whole c.args.text.now
    (λ k b. plain_unit _ _ (entry_at c.args.text.now k) (omega (arith, c.requires k, c.if-bound-ge128.false)) (c.keeps_plain.ensures e (entry_at c.args.text.now k) (omega (arith, c.requires k, c.if-bound-ge128.false))))
