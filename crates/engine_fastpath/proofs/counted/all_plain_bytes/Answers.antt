use Rattle.codepage.specs.CodePage.{entry_at}
use Rattle.engine_fastpath.proofs.PlainLaws.{plain_same}
use Rattle.engine_fastpath.proofs.MetLaws.{met_whole}
use Rattle.engine_fastpath.proofs.counted.all_plain_bytes.Goals as goal

pub returns : goal.returns
returns c =
    λ e pairs.
    met_whole c.args.text.now
    (λ k b. let page = c.keeps_plain.ensures e (entry_at c.args.text.now k) (c.bytes_below_80.ensures c.if-not-bytes_below_80.false k b) in
    plain_same _ _ pairs _ page.0 page.1)
