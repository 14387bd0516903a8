-- Document 02, CR 3: what is promised of whole listings.
use Rattle.std.specs.Prelude.{true, false, List, ◌≡◌, ℕ, ◌≤◌, ◌<◌, length}
use Rattle.codepage.specs.CodePage.{CodePage, GoodShape, entry_at, is_lead}
use Rattle.codepage.specs.Reading.{byte_alone, byte_pair, unit_code}
use Rattle.codepage.specs.declared.Numbers.{Numbers}
use Rattle.listing.specs.declared.Progress.{Progress}
use Rattle.codepage.specs.declared.Sizes.{Sizes}
use Rattle.listing.specs.declared.Refusal.{Refusal}
use Rattle.listing.specs.declared.Refusal.TheVariants.{BadLine, TooSmall}
use Rattle.std.specs.declared.result.Result.TheVariants.{Ok}
use Rattle.listing.specs.Form.{record_of}
use Rattle.listing.specs.Order.{nothing_read, accepts, after_record, sizes_listed}
use Rattle.listing.specs.Tables.{Tables, tables_fit, reading_as, listing_end}
use Rattle.listing.specs.Whole.{read_all}
use Rattle.lister.specs.declared.Cursor.{Cursor}
use Rattle.lister.specs.declared.Refusal.{Refusal as WriterRefusal}
use Rattle.lister.specs.declared.Refusal.TheVariants.{BadShape, NoRoom}
use Rattle.lister.specs.Lines.{record_line}
use Rattle.lister.specs.Lister.{places, record_at, next_place}
use Rattle.listing_laws.specs.Cut.{cut_set}
use Rattle.listing_laws.specs.Round.{whole_listing}

-- A table set of a program: a page of 16 bits, a byte, and units of 16 bits. Every table set that a call is given is one.
pub record InWidths (p : CodePage) : Type 0 where
  pub page : p.page ≤ 65535
  pub byte : p.default_byte < 256
  pub unit : p.default_unit < 65536
  pub singles : (i : ℕ) → entry_at p.singles i < 65536
  pub pairs : (i : ℕ) → entry_at p.pairs i < 65536
  pub blocks : (i : ℕ) → entry_at p.blocks i < 65536

-- Tables large enough for every listing: 256 pairs for each of 128 leads, and 256 blocks. (What one listing needs: `needed_sizes`.)
pub record LargeEnough (t : Tables) : Type 0 where
  pub classes : 256 ≤ length t.classes
  pub singles : 256 ≤ length t.singles
  pub pairs : 32768 ≤ length t.pairs
  pub index : 256 ≤ length t.index
  pub blocks : 65536 ≤ length t.blocks

-- Two table sets with the same page, defaults, classes, characters and codes, as the rules read them. (Tables may differ in entries that
-- no rule reads, and in the numbers of their blocks.)
pub record SameMeaning (p q : CodePage) : Type 0 where
  pub page : q.page ≡ p.page
  pub byte : q.default_byte ≡ p.default_byte
  pub unit : q.default_unit ≡ p.default_unit
  pub classes : (byte : ℕ) → byte < 256 → entry_at q.classes byte ≡ entry_at p.classes byte
  pub singles : (byte : ℕ) → byte < 256 → byte_alone q.classes q.singles byte ≡ byte_alone p.classes p.singles byte
  pub pairs : (lead byte : ℕ) → lead < 256 → byte < 256 → is_lead (entry_at p.classes lead) ≡ true → byte_pair q.classes q.pairs lead byte ≡ byte_pair p.classes p.pairs lead byte
  pub codes : (unit : ℕ) → unit < 65536 → unit_code q.index q.blocks unit ≡ unit_code p.index p.blocks unit

-- READ AFTER WRITE: the whole listing of a table set, read into tables, is accepted to its end; each table cut to the size needed, its
-- shape is good and it says the same.
pub record Returned (p : CodePage) (t : Tables) : Type 0 where
  pub progress : Progress
  pub lent : Tables
  pub numbers : Numbers
  pub sizes : Sizes
  pub accepted : read_all nothing_read (whole_listing p) t ≡ reading_as (Ok progress) lent
  pub end : listing_end progress ≡ Ok (numbers, sizes)
  pub shape : GoodShape (cut_set numbers sizes lent)
  pub same : SameMeaning p (cut_set numbers sizes lent)

-- ---- The cases of the answers of the reader: 22, then 23.
-- 22: the line is no record, or not one that may come next. 23: it is one, and a lent table is too small for it or the place reached.
abbrev pub ReadSays : Progress → (line : List ℕ) → Tables → Refusal → Type 0
ReadSays s line t BadLine = accepts s (record_of line) ≡ false
ReadSays s line t TooSmall = (accepts s (record_of line) ≡ true) × (tables_fit (sizes_listed (after_record s (record_of line))) t ≡ false)

-- a line that is accepted
abbrev pub ReadPasses : Progress → (line : List ℕ) → Tables → Type 0
ReadPasses s line t = (accepts s (record_of line) ≡ true) × (tables_fit (sizes_listed (after_record s (record_of line))) t ≡ true)

-- ---- The cases of the answers of the writer: 10, then done, then 19.
-- a record is left, from a cursor on
abbrev pub IsLeft : CodePage → Cursor → Type 0
IsLeft p cursor = next_place p cursor.place < places

-- 10: the shape is bad. 19: it is good, a record is left, and its line does not fit the room.
abbrev pub WriteSays : CodePage → Cursor → (room : ℕ) → WriterRefusal → Type 0
WriteSays p cursor room BadShape = GoodShape p → ⊥
WriteSays p cursor room NoRoom = GoodShape p × IsLeft p cursor × (room < length (record_line (record_at p (next_place p cursor.place))))
