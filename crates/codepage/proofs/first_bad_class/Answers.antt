use mathlib.Core.Path.{sym, ◌∙◌}
use native.Mathlib.Omega.{arith}
use Rattle.codepage.specs.CodePage.{bad_class}
use Rattle.codepage.proofs.ShapeLaws.{bad_turn, place_found, place_none}
use Rattle.codepage.proofs.first_bad_class.Goals as goal

pub loop-byte-preserved : goal.loop-byte-preserved
loop-byte-preserved c = bad_turn bad_class _ _ _ c.loop-byte.invariant (omega arith) (sym c.is_bad_class.ensures ∙ c.if-is_bad_class.false)

pub returns-then-is_bad_class : goal.returns-then-is_bad_class
returns-then-is_bad_class c = place_found bad_class _ _ _ c.requires c.loop-byte.invariant (omega arith) (sym c.is_bad_class.ensures ∙ c.if-is_bad_class.true)

pub returns : goal.returns
returns c = place_none bad_class _ _ _ c.requires c.loop-byte.invariant (omega arith)
