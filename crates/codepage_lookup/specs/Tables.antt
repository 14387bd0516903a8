-- The reader of a page's tables, as the contracts of our inner functions name it.
use Rattle.std.specs.Prelude.{true, ◌≡◌, ℕ, ◌<◌}
use Rattle.codepage.specs.CodePage.{entry_at, is_single, is_lead}
use Rattle.codepage.specs.Reading.{Reader, decoder, encoder}
use Rattle.codepage_lookup.specs.declared.tables.ByteTables.{ByteTables}
use Rattle.codepage_lookup.specs.declared.tables.UnitTables.{UnitTables}

-- the reader of bytes
abbrev pub byte_reader : ByteTables → Reader
byte_reader t = decoder t.classes.now t.singles.now t.pairs.now

-- the reader of units
abbrev pub unit_reader : UnitTables → Reader
unit_reader t = encoder t.index.now t.blocks.now

-- a byte is a lead byte of the page
abbrev pub LeadOf : ByteTables → ℕ → Type 0
LeadOf t byte = is_lead (entry_at t.classes.now byte) ≡ true

-- every byte of the page is a single
abbrev pub OnlySingles : ByteTables → Type 0
OnlySingles t = (byte : ℕ) → byte < 256 → is_single (entry_at t.classes.now byte) ≡ true
