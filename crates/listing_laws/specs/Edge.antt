-- Document 02, CR 3: one block for each high half among the `W` units, and the 256th takes the empty one.
use Rattle.std.specs.Prelude.{ℕ, zero, suc, ◌*◌}
use Rattle.listing.specs.declared.Progress.{Progress}
use Rattle.listing.specs.declared.Record.TheVariants.{Defaults, Code}
use Rattle.listing.specs.Order.{after_page, after_record}

-- what has been read once a `W` record of each of so many high halves has come: 0000, 0100, 0200 and so on, each with the code 0041
unfoldable pub halves_read : ℕ → Progress
halves_read zero = after_record (after_page 9) (Defaults 0x3F 0x30FB)
halves_read (suc n) = after_record (halves_read n) (Code (256 * n) 0x41)
