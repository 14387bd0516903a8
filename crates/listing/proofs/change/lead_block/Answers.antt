use native.Mathlib.Omega.{arith}
use Rattle.listing.specs.Tables.{lead_block}
use Rattle.listing.specs.Order.{sizes_listed}
use Rattle.listing.proofs.TableLaws.{listed_high, listed_below}
use Rattle.listing.proofs.change.lead_block.Goals as goal

pub overflow_sub-lead : goal.overflow_sub-lead
overflow_sub-lead c = listed_high _ _ c.requires

pub returns : goal.returns
unfolding lead_block sizes_listed
returns c = (c.count_below.ensures.0, omega (arith, c.count_below.ensures.0, listed_below _ _ c.requires))
