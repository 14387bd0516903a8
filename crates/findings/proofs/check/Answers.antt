use mathlib.Core.Path.{sym, ◌∙◌}
use Rattle.codepage.proofs.ShapeLaws.{shape_exact}
use Rattle.findings.proofs.CallLaws.{bad_shape}
use Rattle.findings.proofs.check.Goals as goal

pub returns-then-not-good_shape-clause-refused : goal.returns-then-not-good_shape-clause-refused
returns-then-not-good_shape-clause-refused c = (sym c.allowed.ensures ∙ c.if-not-allowed.false, bad_shape _ (sym c.good_shape.ensures ∙ c.if-not-good_shape.true))

pub returns-then-text-gt-PIECE_LIMIT-clause-refused : goal.returns-then-text-gt-PIECE_LIMIT-clause-refused
returns-then-text-gt-PIECE_LIMIT-clause-refused c =
    (sym c.allowed.ensures ∙ c.if-not-allowed.false, (shape_exact _).0 (sym c.good_shape.ensures ∙ c.if-not-good_shape.false), c.if-text-gt-PIECE_LIMIT.true)

pub returns-clause-passes : goal.returns-clause-passes
returns-clause-passes c =
    (sym c.allowed.ensures ∙ c.if-not-allowed.false, ((shape_exact _).0 (sym c.good_shape.ensures ∙ c.if-not-good_shape.false), c.if-text-gt-PIECE_LIMIT.false))
