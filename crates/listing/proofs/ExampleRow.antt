-- Document 02, CR 3: the whole example, read.
use mathlib.Core.Path.{◌≡◌, refl}
use lib.Count.{ones, ones_in}
use Rattle.codepage.specs.declared.Numbers.{Numbers}
use Rattle.listing.specs.declared.Progress.{Progress}
use Rattle.codepage.specs.declared.Sizes.{Sizes}
use Rattle.listing.specs.declared.Refusal.{Refusal}
use Rattle.std.specs.declared.result.Result.{Result}
use Rattle.std.specs.declared.result.Result.TheVariants.{Ok, Err}
use Rattle.listing.specs.Sets.{with_bit, bits_below, in_half, add_to_half, count_half, below_in_half, in_bytes, add_to_bytes}
use Rattle.listing.specs.Form.{is_digit, is_capital, digit, hex_byte_at, hex_unit_at, decimal_at, fits_symbol, has_form, page_of, record_of}
use Rattle.listing.specs.Order.{nothing_read, follows, is_listed_lead, is_new_high, code_block, with_lead, blocks_listed, sizes_listed}
use Rattle.listing.specs.Tables.{filled, lead_block, opened_block, tables_fit, read_record, line_reading, listing_end}
use Rattle.listing.specs.Whole.{read_all}
use Rattle.listing.specs.Example.{example_lines, example_room, example_tables, example_end}

abbrev end_after : Result Progress Refusal → Result (Numbers × Sizes) Refusal
end_after (Ok s) = listing_end s
end_after (Err why) = Err why

-- THE EXAMPLE: the tables after it.
pub example_tables_lem : (read_all nothing_read example_lines example_room).lent ≡ example_tables
unfolding ones ones_in with_bit bits_below in_half add_to_half count_half below_in_half in_bytes add_to_bytes is_digit is_capital digit hex_byte_at hex_unit_at decimal_at fits_symbol has_form page_of record_of follows is_listed_lead is_new_high code_block with_lead blocks_listed sizes_listed filled lead_block opened_block tables_fit read_record line_reading listing_end read_all example_lines example_room example_tables example_end
example_tables_lem = refl

-- Its end: page, defaults and sizes.
pub example_end_lem : end_after (read_all nothing_read example_lines example_room).answer ≡ example_end
unfolding ones ones_in with_bit bits_below in_half add_to_half count_half below_in_half in_bytes add_to_bytes is_digit is_capital digit hex_byte_at hex_unit_at decimal_at fits_symbol has_form page_of record_of follows is_listed_lead is_new_high code_block with_lead blocks_listed sizes_listed filled lead_block opened_block tables_fit read_record line_reading listing_end read_all example_lines example_room example_tables example_end
example_end_lem = refl
