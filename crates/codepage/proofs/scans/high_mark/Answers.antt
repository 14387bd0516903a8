use Rattle.codepage.proofs.MarkLaws.{high_class}
use native.Mathlib.Omega.{arith}
use Rattle.codepage.proofs.scans.high_mark.Goals as goal

pub returns : goal.returns
returns c = λ byte h. high_class byte c.args.class (omega arith) h
