use mathlib.Core.Path.{sym, ap, ◌∙◌}
use borrow.Author.Tests.{eq-eqb, ne_eqb}
use native.Mathlib.Omega.{arith}
use lib.Bits.{bit_and}
use Rattle.codepage.specs.Marks.{mark_of}
use Rattle.codepage.proofs.MarkLaws.{lead_class}
use Rattle.codepage.proofs.marks.lead_mark.Goals as goal

pub returns-then-class-eq2 : goal.returns-then-class-eq2
returns-then-class-eq2 c =
    ap mark_of (sym (lead_class c.args.class (omega arith) ∙ eq-eqb (bit_and c.args.class 0xFB) 2 c.if-class-eq2.true))

pub returns : goal.returns
returns c =
    ap mark_of (sym (lead_class c.args.class (omega arith) ∙ ne_eqb (bit_and c.args.class 0xFB) 2 c.if-class-eq2.false))
