-- The worked calls hold.
use mathlib.Core.Path.{refl}
use Rattle.utf16.specs.Utf16.{utf16_units}
use Rattle.codepage.specs.Lent.{over}
use Rattle.convert.proofs.Computing.{shape_rules, engine_rules}
use Rattle.inplace.specs.InPlace.{buffer_refusal, encoded_by, in_place_of}
use Rattle.inplace.specs.Examples.{buffer_rows, AllBufferHold}

-- what a worked example computes with, named once
unfoldable pub buffer_rules : Type 0
unfolding shape_rules engine_rules over utf16_units buffer_refusal encoded_by in_place_of
buffer_rules = Unit {0}

-- THE ROWS.
pub rows_hold : AllBufferHold buffer_rows
unfolding buffer_rules
rows_hold = ((refl, refl), ((refl, refl), ((refl, refl), ((refl, refl), ((refl, refl), ((refl, refl), ((refl, refl), ((refl, refl), ((refl, refl), ((refl, refl), tt))))))))))
