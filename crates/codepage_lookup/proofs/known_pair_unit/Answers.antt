use Rattle.codepage_lookup.proofs.ProfileLaws.{found_entry}
use Rattle.codepage.specs.CodePage.{is_trail}
use Rattle.codepage.specs.Reading.{byte_pair}
use mathlib.Core.Path.{sym, ap, ◌∙◌}
use Rattle.codepage_lookup.proofs.known_pair_unit.Goals as goal

pub returns-then-is_trail_class : goal.returns-then-is_trail_class
unfolding byte_pair
returns-then-is_trail_class c =
    let trail = ap is_trail (sym c.requires.leads_at.1) ∙ sym c.is_trail_class.ensures ∙ c.if-is_trail_class.true in
    λ n. rw (trail, sym c.block_of-block.ensures, sym c.pair_entry.ensures) (found_entry _ _ n)
