-- The worked calls hold.
use mathlib.Core.Path.{refl}
use Rattle.codepage_walk.specs.Walk.{placed_from, placed}
use Rattle.convert.proofs.Computing.{shape_rules, reading_rules}
use Rattle.spelling.specs.Spelling.{reads_back, unit_spelling, first_at_fault, spelling_bytes}
use Rattle.spelling.specs.Calls.{spelling_refusal, spelling_of}
use Rattle.spelling.specs.Examples.{spelling_rows, AllSpellingHold}

-- what a worked example computes with, named once
unfoldable pub spelling_rules : Type 0
unfolding shape_rules reading_rules placed_from placed reads_back unit_spelling first_at_fault spelling_bytes spelling_refusal spelling_of
spelling_rules = Unit {0}

-- THE ROWS.
pub rows_hold : AllSpellingHold spelling_rows
unfolding spelling_rules
rows_hold =
    ((refl, refl), ((refl, refl), ((refl, refl), ((refl, refl), ((refl, refl), ((refl, refl), ((refl, refl), ((refl, refl), ((refl, refl), ((refl, refl), ((refl, refl), ((refl, refl), ((refl, refl), ((refl, refl), ((refl, refl), ((refl, refl), ((refl, refl), ((refl, refl), ((refl, refl), ((refl, refl), tt))))))))))))))))))))
