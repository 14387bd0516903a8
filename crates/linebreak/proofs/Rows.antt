-- The worked breaks hold.
use mathlib.Core.Path.{refl}
use Rattle.codepage.specs.Lent.{over}
use Rattle.codepage_walk.specs.Walk.{placed_from, placed}
use Rattle.convert.proofs.Computing.{shape_rules, reading_rules}
use Rattle.linebreak.specs.Breaks.{all_pass, rising, line_sizes, is_place, acceptable, breaks_from, ours, all_fit, breakable}
use Rattle.linebreak.specs.Calls.{check_refusal, check_of, propose_refusal, proposal_of}
use Rattle.linebreak.specs.Examples.{propose_rows, check_rows, AllProposed, AllChecked}

-- what a worked example computes with, named once
unfoldable pub break_rules : Type 0
unfolding shape_rules reading_rules over placed_from placed all_pass rising line_sizes is_place acceptable breaks_from ours all_fit breakable check_refusal check_of propose_refusal proposal_of
break_rules = Unit {0}

-- THE ROWS of proposing.
pub proposals_hold : AllProposed propose_rows
unfolding break_rules
proposals_hold =
    ((refl, refl), ((refl, refl), ((refl, refl), ((refl, refl), ((refl, refl), ((refl, refl), ((refl, refl), ((refl, refl), ((refl, refl), ((refl, refl), ((refl, refl), tt)))))))))))

-- THE ROWS of checking.
pub checks_hold : AllChecked check_rows
unfolding break_rules
checks_hold = (refl, (refl, (refl, (refl, (refl, (refl, (refl, (refl, (refl, (refl, (refl, (refl, tt))))))))))))
