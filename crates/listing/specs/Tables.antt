-- Document 02, CR 3: the reader, line by line.
use Rattle.std.specs.Prelude.{Bool, not, ◌&&◌, List, ℕ, zero, suc, ◌+◌, ◌-◌, ◌*◌, ◌/◌, ◌%◌, leb, eqb, length, set}
use Rattle.codepage.specs.CodePage.{pick}
use Rattle.listing.specs.declared.Record.{Record}
use Rattle.listing.specs.declared.Record.TheVariants.{Page, Defaults, Single, Lead, Trail, Pair, Code, NoRecord}
use Rattle.codepage.specs.declared.Numbers.{Numbers}
use Rattle.listing.specs.declared.Progress.{Progress}
use Rattle.codepage.specs.declared.Sizes.{Sizes}
use Rattle.listing.specs.declared.Refusal.{Refusal}
use Rattle.listing.specs.declared.Refusal.TheVariants.{BadLine, TooSmall}
use Rattle.std.specs.declared.result.Result.{Result}
use Rattle.std.specs.declared.result.Result.TheVariants.{Ok, Err}
use Rattle.listing.specs.Sets.{below_in_half}
use Rattle.listing.specs.Form.{record_of}
use Rattle.listing.specs.Order.{rank, accepts, after_record, is_new_high, code_block, sizes_listed, class_of}

-- The five lent tables.
pub record Tables : Type 0 where
  pub classes : List ℕ
  pub singles : List ℕ
  pub pairs : List ℕ
  pub index : List ℕ
  pub blocks : List ℕ

-- five lent tables as one
abbrev pub tables : (classes singles pairs index blocks : List ℕ) → Tables
tables classes singles pairs index blocks =
    record { classes = classes; singles = singles; pairs = pairs; index = index; blocks = blocks }

-- so many elements from a place on, all set to a value
unfoldable pub filled : (table : List ℕ) → (place count value : ℕ) → List ℕ
filled table place zero value = table
filled table place (suc count) value = set (filled table place count value) (place + count) value

-- the block of a lead byte is the number of leads below it
unfoldable pub lead_block : Progress → (lead : ℕ) → ℕ
lead_block s lead = below_in_half s.leads (lead - 0x80)

-- a new block starts empty; the block 0 is empty already
unfoldable pub opened_block : (blocks : List ℕ) → (block : ℕ) → List ℕ
opened_block blocks block = pick (eqb block 0) blocks (filled blocks (256 * block) 256 0xFFFF)

-- What an accepted record changes. (`s` is what has been read before it.)
abbrev pub change_of : Progress → Record → Tables → Tables
change_of s (Page page) t =
    tables
    (filled t.classes 0 256 0)
    (filled t.singles 0 256 0xFFFF)
    t.pairs
    (filled t.index 0 256 0)
    (filled t.blocks 0 256 0xFFFF)
change_of s (Defaults byte unit) t = t
change_of s (Single byte unit) t =
    tables
    (set t.classes byte (class_of (after_record s (Single byte unit)) byte))
    (set t.singles byte unit)
    t.pairs
    t.index
    t.blocks
change_of s (Lead byte) t =
    tables
    (set t.classes byte (class_of (after_record s (Lead byte)) byte))
    t.singles
    (filled t.pairs (256 * lead_block (after_record s (Lead byte)) byte) 256 0xFFFF)
    t.index
    t.blocks
change_of s (Trail byte) t =
    tables (set t.classes byte (class_of (after_record s (Trail byte)) byte)) t.singles t.pairs t.index t.blocks
change_of s (Pair code unit) t =
    tables t.classes t.singles (set t.pairs (256 * lead_block s (code / 256) + code % 256) unit) t.index t.blocks
change_of s (Code unit code) t =
    tables
    t.classes
    t.singles
    t.pairs
    (pick (is_new_high s unit) (set t.index (unit / 256) (code_block s unit)) t.index)
    (set (pick (is_new_high s unit) (opened_block t.blocks (code_block s unit)) t.blocks) (256 * code_block s unit + unit % 256) code)
change_of s NoRecord t = t

-- whether each table has at least the size needed
unfoldable pub tables_fit : Sizes → Tables → Bool
tables_fit n t =
    leb n.classes (length t.classes)
    && leb n.singles (length t.singles)
    && leb n.pairs (length t.pairs)
    && leb n.index (length t.index)
    && leb n.blocks (length t.blocks)

-- The numbers of the refusals.
abbrev pub listing_number : Refusal → ℕ
listing_number BadLine = 22
listing_number TooSmall = 23

-- What a call answers, and the tables after it.
pub record Reading : Type 0 where
  pub answer : Result Progress Refusal
  pub lent : Tables

-- an answer with the tables after it
abbrev pub reading_as : Result Progress Refusal → Tables → Reading
reading_as answer lent = record { answer = answer; lent = lent }

-- 22 a line breaks the form or order, then 23 a lent table is too small for the line or the place reached; the tables stay as
-- before it.
unfoldable pub read_record : Progress → Record → Tables → Reading
read_record s r t =
    pick (not (accepts s r)) (reading_as (Err BadLine) t)
    (pick (not (tables_fit (sizes_listed (after_record s r)) t)) (reading_as (Err TooSmall) t)
    (reading_as (Ok (after_record s r)) (change_of s r t)))

-- READING A LINE: that of its record.
unfoldable pub line_reading : Progress → (line : List ℕ) → Tables → Reading
line_reading s line t = read_record s (record_of line) t

-- The end: 22 unless `P` and `D` were read; else the page, the defaults and the sizes needed.
unfoldable pub listing_end : Progress → Result (Numbers × Sizes) Refusal
listing_end s = pick (leb 2 (rank s.letter)) (Ok (s.numbers, sizes_listed s)) (Err BadLine)
