use mathlib.Core.Path.{◌≡◌}
use lib.ListN.{drop}
use Rattle.codepage.specs.CodePage.{first_bad, bad_number}
use Rattle.codepage.proofs.first_bad_number.Given as goal

abbrev pub invariant-loop-place : goal.invariant-loop-place
invariant-loop-place l = first_bad (bad_number l.count) 0 l.index ≡ first_bad (bad_number l.count) l.place (drop l.place l.index)
