use borrow.Author.Tests.{eqb-true}
use Rattle.findings.proofs.FindingLaws.{clean_text}
use Rattle.findings.proofs.is_clean.Goals as goal

pub returns : goal.returns
returns c = λ e policy. clean_text _ _ policy _ _ c.count_decoded-counted.ensures (eqb-true _ _ e)
