use Rattle.codepage_lookup.proofs.ProfileLaws.{found_entry, known_single_bit}
use Rattle.codepage.specs.CodePage.{is_single}
use Rattle.codepage.specs.Reading.{byte_alone}
use mathlib.Core.Path.{sym, ap, ◌∙◌}
use native.Mathlib.Omega.{arith}
use Rattle.codepage_lookup.proofs.tables.ByteTables.known_single_unit.Goals as goal

pub returns-then-class-eq1 : goal.returns-then-class-eq1
unfolding byte_alone
returns-then-class-eq1 c =
    let single = known_single_bit c.args.class (omega arith) c.requires c.if-class-eq1.true in
    λ n classes at. rw (sym (ap is_single at) ∙ single) (found_entry _ _ n)
