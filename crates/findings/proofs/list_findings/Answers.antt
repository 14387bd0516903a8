use Rattle.std.proofs.lemmas.Result.{err_from_is_err_and}
use Rattle.codepage.proofs.ShapeLaws.{shape_exact}
use Rattle.findings.proofs.AnswerLaws.{says, passes}
use Rattle.findings.proofs.CallLaws.{byte_shape, listed_refused, listed_filled}
use Rattle.findings.proofs.FillLaws.{filled_clean}
use Rattle.findings.proofs.list_findings.Goals as goal

pub returns-in_err-check : goal.returns-in_err-check
returns-in_err-check c =
    let p = err_from_is_err_and c.from_residual.result c.from_residual.ensures.1 in
    rw (p.1, p.2) (listed_refused _ _ _ _ _ (says _ _ _ _ c.in_err-check.ensures.refused))

pub returns-then-is_clean : goal.returns-then-is_clean
returns-then-is_clean c = listed_filled _ _ _ _ _ _ (passes _ _ _ c.in_ok-check.ensures.passes) (filled_clean _ _ (c.is_clean.ensures c.if-is_clean.true _))

pub invariant_of-bytes : goal.invariant_of-bytes
invariant_of-bytes c =
    let shape = byte_shape _ ((shape_exact _).1 c.in_ok-check.ensures.passes.1.0) in
    record { all_classes = shape.0; all_singles = shape.1; all_pairs = shape.2; known = shape.3; no_low_lead = shape.4 }

pub invariant_of-search : goal.invariant_of-search
invariant_of-search c = rw c.with_leads-leads.ensures (record { plain_page = c.keeps_plain-plain.ensures })

pub fill_list-requires : goal.fill_list-requires
fill_list-requires c = c.in_ok-check.ensures.passes.1.1

pub returns : goal.returns
returns c = listed_filled _ _ _ _ _ _ (passes _ _ _ c.in_ok-check.ensures.passes) (rw c.with_leads-leads.ensures at c.fill_list.ensures)
