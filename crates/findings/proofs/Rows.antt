-- The worked calls hold.
use mathlib.Core.Path.{refl}
use Rattle.codepage_walk.specs.Walk.{placed_from, placed}
use Rattle.engine.specs.Policies.{policy_allowed}
use Rattle.convert.proofs.Computing.{shape_rules, reading_rules}
use Rattle.findings.specs.Findings.{findings_in, findings_of}
use Rattle.findings.specs.Calls.{findings_refusal, findings_call}
use Rattle.findings.specs.Examples.{findings_rows, AllHold}

-- what a worked example computes with, named once
unfoldable pub findings_rules : Type 0
unfolding shape_rules reading_rules policy_allowed placed_from placed findings_in findings_of findings_refusal findings_call
findings_rules = Unit {0}

-- THE ROWS.
pub rows_hold : AllHold findings_rows
unfolding findings_rules
rows_hold =
    ((refl, refl), ((refl, refl), ((refl, refl), ((refl, refl), ((refl, refl), ((refl, refl), ((refl, refl), ((refl, refl), ((refl, refl), ((refl, refl), ((refl, refl), ((refl, refl), tt))))))))))))
