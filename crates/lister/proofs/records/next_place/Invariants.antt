use mathlib.Core.Path.{◌≡◌}
use Rattle.codepage.specs.CodePage.{page_of}
use Rattle.lister.specs.Lister.{next_place}
use Rattle.lister.proofs.records.next_place.Given as goal

abbrev pub invariant-loop-place : goal.invariant-loop-place
invariant-loop-place l = next_place (page_of l.tables) l.from ≡ next_place (page_of l.tables) l.place
