-- Definitions that the private functions' contracts cite, and that no promise does.
use Rattle.std.specs.Prelude.{true, List, ◌≡◌, ℕ, ◌≤◌, length}
use Rattle.listing.specs.declared.Record.{Record}
use Rattle.listing.specs.declared.Progress.{Progress}
use Rattle.codepage.specs.declared.Sizes.{Sizes}
use Rattle.listing.specs.Order.{accepts, after_record, sizes_listed}

-- each table has at least the size needed
pub record Fits (n : Sizes) (classes singles pairs index blocks : List ℕ) : Type 0 where
  pub classes_fit : n.classes ≤ length classes
  pub singles_fit : n.singles ≤ length singles
  pub pairs_fit : n.pairs ≤ length pairs
  pub index_fit : n.index ≤ length index
  pub blocks_fit : n.blocks ≤ length blocks

-- an accepted record `r`, with `n` what has been read after it, and tables that fit
pub record RecordReady (s n : Progress) (r : Record) (classes singles pairs index blocks : List ℕ) : Type 0 where
  pub accepted : accepts s r ≡ true
  pub next : n ≡ after_record s r
  pub fits : Fits (sizes_listed (after_record s r)) classes singles pairs index blocks
