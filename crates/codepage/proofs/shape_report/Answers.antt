use Rattle.std.proofs.lemmas.Grind.{common_steps}
use native.Mathlib.Omega.{arith}
use mathlib.Core.Path.{sym, ap, ◌∙◌}
use Rattle.codepage.specs.CodePage.{is_good}
use Rattle.codepage.proofs.ShapeLaws.{sizes_classes, report_bad, report_good}
use Rattle.codepage.proofs.shape_report.Goals as goal

pub returns-in_err-sizes_report : goal.returns-in_err-sizes_report
returns-in_err-sizes_report c = let h = report_bad _ _ (sym c.sizes_report.ensures ∙ c.in_err-sizes_report.was) in grind (arith, common_steps, h, c.from_residual.ensures)

pub entries_report-requires : goal.entries_report-requires
entries_report-requires c = sizes_classes _ (ap is_good (sym c.sizes_report.ensures ∙ c.in_ok-sizes_report.was))

pub returns : goal.returns
returns c = c.entries_report.ensures ∙ sym (report_good _ _ (sym c.sizes_report.ensures ∙ c.in_ok-sizes_report.was))
