use Rattle.codepage.proofs.MarkLaws.{low_class}
use native.Mathlib.Omega.{arith}
use Rattle.codepage.proofs.scans.low_mark.Goals as goal

pub returns : goal.returns
returns c = λ byte h. low_class byte c.args.class (omega arith) h
