use mathlib.Core.Path.{◌≡◌}
use native.Mathlib.Omega.{arith}
use Rattle.std.proofs.Common.{rules}
use Rattle.std.specs.Prelude.{option_map}
use Rattle.findings.specs.declared.Located.{Located}
use Rattle.std.proofs.lemmas.Result.{err_from_is_err_and}
use Rattle.codepage.proofs.ShapeLaws.{shape_exact}
use Rattle.findings.proofs.AnswerLaws.{says, passes}
use Rattle.findings.proofs.FindingLaws.{from_end}
use Rattle.findings.proofs.CallLaws.{byte_shape, next_refused, next_nothing, next_given}
use Rattle.findings.proofs.next_finding.Goals as goal

pub returns-in_err-check : goal.returns-in_err-check
returns-in_err-check c =
    let p = err_from_is_err_and c.from_residual.result c.from_residual.ensures.1 in
    rw (p.1, p.2) (next_refused _ _ _ _ _ (says _ _ _ _ c.in_err-check.ensures.refused))

pub returns-then-text-from : goal.returns-then-text-from
returns-then-text-from c = next_nothing _ _ _ _ (passes _ _ _ c.in_ok-check.ensures.passes) (from_end _ _ _ _ c.if-text-from.true)

pub invariant_of-bytes : goal.invariant_of-bytes
invariant_of-bytes c =
    let shape = byte_shape _ ((shape_exact _).1 c.in_ok-check.ensures.passes.1.0) in
    record { all_classes = shape.0; all_singles = shape.1; all_pairs = shape.2; known = shape.3; no_low_lead = shape.4 }

pub invariant_of-search : goal.invariant_of-search
invariant_of-search c = rw c.with_leads-leads.ensures (record { plain_page = c.keeps_plain-plain.ensures })

pub find_from-next-requires : goal.find_from-next-requires
find_from-next-requires c = omega (arith, c.if-text-from.false)

pub returns : goal.returns
returns c =
    let same : c.map.result ≡ option_map (λ (s : Located). s.finding) c.find_from-next.result = search rules in
    rw same (next_given _ _ _ _ (passes _ _ _ c.in_ok-check.ensures.passes) _ (rw c.with_leads-leads.ensures at c.find_from-next.ensures))
