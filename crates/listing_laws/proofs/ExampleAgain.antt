-- Document 02, CR 3: the whole example, read and written again.
use Rattle.listing.specs.declared.Progress.{Progress}
use mathlib.Core.Path.{◌≡◌, refl, ap₂}
use Prim.Native.Nat.{ℕ}
use native.Mathlib.Omega.{arith}
use Rattle.codepage.specs.declared.Numbers.{Numbers}
use Rattle.codepage.specs.declared.Sizes.{Sizes}
use Rattle.listing.specs.declared.Refusal.{Refusal}
use Rattle.std.specs.declared.result.Result.{Result}
use Rattle.std.specs.declared.result.Result.TheVariants.{Ok, Err}
use Rattle.listing.specs.Order.{nothing_read}
use Rattle.listing.specs.Tables.{reading_as, listing_end}
use Rattle.listing.specs.Whole.{read_all}
use Rattle.listing.specs.Example.{example_lines, example_room, example_tables, example_end}
use Rattle.listing.proofs.ExampleRow.{example_tables_lem, example_end_lem}
use Rattle.listing_laws.specs.Cut.{cut_set}
use Rattle.listing_laws.specs.Round.{whole_listing}
use Rattle.listing_laws.proofs.AgainLaws.{listing_again}

abbrev example_numbers : Numbers
example_numbers = record { page = 9; default_byte = 0x3F; default_unit = 0x30FB }

abbrev example_sizes : Sizes
example_sizes = record { classes = 256; singles = 256; pairs = 256; index = 256; blocks = 768 }

refused_not : {why : Refusal} → ◌≡◌ {A = Result (Numbers × Sizes) Refusal} (Err why) (Ok (example_numbers, example_sizes)) → ⊥
refused_not {why} e = let z : ◌≡◌ {A = ℕ} 0 1 = cc in omega arith

-- The table set of the example, written, is the example.
pub example_written : whole_listing (cut_set example_numbers example_sizes example_tables) ≡ example_lines
unfolding example_end
example_written = by_answer (read_all nothing_read example_lines example_room).answer refl
  where
    by_answer : (a : Result Progress Refusal) → (read_all nothing_read example_lines example_room).answer ≡ a → whole_listing (cut_set example_numbers example_sizes example_tables) ≡ example_lines
    by_answer (Ok s) q =
        let e : listing_end s ≡ Ok (example_numbers, example_sizes) = rw q at example_end_lem in
        listing_again example_lines example_room s example_tables example_numbers example_sizes (ap₂ reading_as q example_tables_lem) e
    by_answer (Err why) q =
        let e : ◌≡◌ {A = Result (Numbers × Sizes) Refusal} (Err why) (Ok (example_numbers, example_sizes)) = rw q at example_end_lem in
        absurd (refused_not e)
