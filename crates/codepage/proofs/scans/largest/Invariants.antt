use Rattle.codepage.specs.Marks.{Largest}
use Rattle.codepage.proofs.scans.largest.Given as goal

abbrev pub invariant-loop-number : goal.invariant-loop-number
invariant-loop-number l = Largest l.index l.number-index l.most
