use mathlib.Core.Path.{sym, ◌∙◌}
use borrow.Author.Tests.{lt-ltb, le-ltb}
use Rattle.codepage.specs.CodePage.{bad_class}
use Rattle.codepage.proofs.is_bad_class.Goals as goal

pub returns-then-not-is_known_class : goal.returns-then-not-is_known_class
unfolding bad_class
returns-then-not-is_known_class c = rw (sym c.is_known_class.ensures ∙ c.if-not-is_known_class.true)

pub returns-then-byte-lt128 : goal.returns-then-byte-lt128
unfolding bad_class
returns-then-byte-lt128 c = rw (sym c.is_known_class.ensures ∙ c.if-not-is_known_class.false, lt-ltb _ _ c.if-byte-lt128.true) c.is_lead_class.ensures

pub returns : goal.returns
unfolding bad_class
returns c = rw (sym c.is_known_class.ensures ∙ c.if-not-is_known_class.false, le-ltb _ _ c.if-byte-lt128.false)
