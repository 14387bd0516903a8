-- Document 02, CR 3: the writer, line by line.
use Rattle.std.specs.Prelude.{Bool, true, false, not, ◌&&◌, List, [], ◌≡◌, ℕ, zero, suc, ◌+◌, ◌-◌, ◌*◌, ◌/◌, ◌%◌, leb, ltb, eqb, length}
use Rattle.codepage.specs.CodePage.{CodePage, pick, entry_at, is_single, is_lead, is_trail, leads_below, first_fault, is_good}
use Rattle.codepage.specs.Lent.{over}
use Rattle.listing.specs.declared.Record.{Record}
use Rattle.listing.specs.declared.Record.TheVariants.{Page, Defaults, Single, Lead, Trail, Pair, Code, NoRecord}
use Rattle.listing.specs.Form.{unless_none}
use Rattle.lister.specs.declared.Cursor.{Cursor}
use Rattle.lister.specs.declared.Line.{Line}
use Rattle.std.specs.declared.option.Option.{Option}
use Rattle.std.specs.declared.option.Option.TheVariants.{None, Some}
use Rattle.std.specs.declared.result.Result.{Result}
use Rattle.std.specs.declared.result.Result.TheVariants.{Ok, Err}
use Rattle.lister.specs.declared.Refusal.{Refusal}
use Rattle.lister.specs.declared.Refusal.TheVariants.{BadShape, NoRoom}
use Rattle.lister.specs.Lines.{record_line}

-- ---- the records of a table set, in the listing's order. A place that has no record is passed over.
unfoldable pub single_at : (classes singles : List ℕ) → (byte : ℕ) → Record
single_at classes singles byte = pick (is_single (entry_at classes byte)) (Single byte (entry_at singles byte)) NoRecord

-- the record `L` of a byte, if it is a lead
unfoldable pub lead_at : (classes : List ℕ) → (byte : ℕ) → Record
lead_at classes byte = pick (is_lead (entry_at classes byte)) (Lead byte) NoRecord

-- the record `T` of a byte, if it may be second
unfoldable pub trail_at : (classes : List ℕ) → (byte : ℕ) → Record
trail_at classes byte = pick (is_trail (entry_at classes byte)) (Trail byte) NoRecord

-- a record whose right side is an entry_at, if that is not FFFF
abbrev pub with_entry : (value : ℕ) → (ℕ → Record) → Record
with_entry value make = unless_none value (make value)

-- a pair of a lead and a byte that may be second, if it has a character
unfoldable pub pair_at : (classes pairs : List ℕ) → (code : ℕ) → Record
pair_at classes pairs code =
    pick (is_lead (entry_at classes (code / 256)) && is_trail (entry_at classes (code % 256)))
    (with_entry (entry_at pairs (256 * leads_below classes (code / 256) + code % 256)) (Pair code))
    NoRecord

-- a unit that has a code
unfoldable pub code_at : (index blocks : List ℕ) → (unit : ℕ) → Record
code_at index blocks unit = with_entry (entry_at blocks (256 * entry_at index (unit / 256) + unit % 256)) (Code unit)

-- `P`, `D`, 256 places for each of `S`, `L` and `T`, 65,536 for each of `M` and `W`
abbrev pub places : ℕ
places = 131842

-- THE RECORD OF A PLACE, in the order of the listing.
unfoldable pub record_at : CodePage → (place : ℕ) → Record
record_at p place =
    pick (eqb place 0) (Page p.page)
    (pick (eqb place 1) (Defaults p.default_byte p.default_unit)
    (pick (ltb place 258) (single_at p.classes p.singles (place - 2))
    (pick (ltb place 514) (lead_at p.classes (place - 258))
    (pick (ltb place 770) (trail_at p.classes (place - 514))
    (pick (ltb place 66306) (pair_at p.classes p.pairs (place - 770))
    (code_at p.index p.blocks (place - 66306)))))))

-- whether there is a record
abbrev pub is_record : Record → Bool
is_record (Page page) = true
is_record (Defaults byte unit) = true
is_record (Single byte unit) = true
is_record (Lead byte) = true
is_record (Trail byte) = true
is_record (Pair code unit) = true
is_record (Code unit code) = true
is_record NoRecord = false

-- the first place of so many that has a record; behind the last where none has
unfoldable pub first_of : CodePage → (count place : ℕ) → ℕ
first_of p zero place = place
first_of p (suc count) place = elim (is_record (record_at p place)) [ true ↦ place | false ↦ first_of p count (suc place) ]

-- the first place from a place on
unfoldable pub next_place : CodePage → (place : ℕ) → ℕ
next_place p place = first_of p (places - place) place

-- ---- What a call answers, and the line that it writes.
-- The numbers of the refusals.
abbrev pub lister_number : Refusal → ℕ
lister_number BadShape = 10
lister_number NoRoom = 19

-- before the first line
abbrev pub first_line : Cursor
first_line = record { place = 0 }

-- the answer of a call, and its line
pub record NextLine : Type 0 where
  pub answer : Result (Option Line) Refusal
  pub line : List ℕ

-- an answer without a line
abbrev pub no_line : Result (Option Line) Refusal → NextLine
no_line answer = record { answer = answer; line = [] }

-- the line of a record, if it fits the room; the cursor goes behind its place
unfoldable pub list_record : Record → (place room : ℕ) → NextLine
list_record r place room =
    pick (ltb room (length (record_line r))) (no_line (Err NoRoom))
    (record { answer = Ok (Some (record { length = length (record_line r); next = record { place = place + 1 } })); line = record_line r })

-- 10 the shape is bad; then done, where no record is left; then 19 the line does not fit the room
unfoldable pub list_of : CodePage → Cursor → (room : ℕ) → NextLine
list_of p cursor room =
    pick (not (is_good (first_fault p))) (no_line (Err BadShape))
    (pick (leb places (next_place p cursor.place)) (no_line (Ok None))
    (list_record (record_at p (next_place p cursor.place)) (next_place p cursor.place) room))

-- The promise: l is what the rules give, r what the call returns, and the lent output before and after.
pub record ListedAs (l : NextLine) (r : Result (Option Line) Refusal) (before after : List ℕ) : Type 0 where
  pub answer : r ≡ l.answer
  pub lent : after ≡ over before l.line
