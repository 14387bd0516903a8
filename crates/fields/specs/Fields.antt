-- Document 02, CR 1: the fields of a text, and one call that gives the next field. docs/RULES.md, "Fields".
use Rattle.std.specs.Prelude.{Result, Ok, Err, Bool, true, false, ◌&&◌, List, [], ◌∷◌, ◌++◌, ◌≡◌, ℕ, ◌+◌, ◌≤◌, ◌<◌, leb, ltb, eqb, length, take, drop}
use Rattle.std.proofs.Math.Option.{Option, none, some}
use Rattle.std.specs.Borrow.{Bor}
use Rattle.codepage.specs.CodePage.{pick}
use Rattle.codepage.specs.Lent.{over}
use Rattle.codepage_walk.specs.Checks.{refuse_unless}
use Rattle.convert.specs.Runs.{piece_limit}
use Rattle.fields.specs.declared.End.{End}
use Rattle.fields.specs.declared.End.TheVariants.{Bar, LineFeed, Text}
use Rattle.fields.specs.declared.Place.{Place}
use Rattle.fields.specs.declared.Place.TheVariants.{Buffer, Block}
use Rattle.fields.specs.declared.Found.{Found}
use Rattle.fields.specs.declared.Refusal.{Refusal}
use Rattle.fields.specs.declared.Refusal.TheVariants.{BufferTooShort, BlockTooLong, InvalidState, FieldTooLong}
use Rattle.fields.specs.declared.Answer.{Answer}
use Rattle.fields.specs.declared.Answer.TheVariants.{Field as FieldFound, Incomplete}
use Rattle.fields.specs.declared.Held.{Held}

-- The separators: bar 007C, line feed 000A.
unfoldable pub separator : (unit : ℕ) → Option End
separator unit = pick (eqb unit 0x7C) (some Bar) (pick (eqb unit 0x0A) (some LineFeed) none)

-- A field: its units, and what ended it. A line feed ends a record too.
pub record Field : Type 0 where
  pub units : List ℕ
  pub end : End

-- A unit that is no separator begins the next field; where there is none, the text's end ends a field that has this unit.
unfoldable pub prepend : (unit : ℕ) → List Field → List Field
prepend unit [] = record { units = unit ∷ []; end = Text } ∷ []
prepend unit (f ∷ fields) = record { units = unit ∷ f.units; end = f.end } ∷ fields

-- a unit in front of the fields behind it: it begins the next field or, as a separator, ends one that has no units
abbrev pub before : (unit : ℕ) → Option End → List Field → List Field
before unit none fields = prepend unit fields
before unit (some end) fields = record { units = []; end = end } ∷ fields

-- THE FIELDS of a text.
unfoldable pub fields_of : (text : List ℕ) → List Field
fields_of [] = []
fields_of (unit ∷ text) = before unit (separator unit) (fields_of text)

-- whether the text's end ended a field
abbrev pub is_text : End → Bool
is_text Bar = false
is_text LineFeed = false
is_text Text = true

-- The fields of a list up to one that the text's end ended: those that a separator ended.
unfoldable pub separated : List Field → List Field
separated [] = []
separated (f ∷ fields) = pick (is_text f.end) [] (f ∷ separated fields)

-- ---- one call
-- no units where a separator stands, else these
abbrev pub units_before : Option End → List ℕ → List ℕ
units_before none units = units
units_before (some end) units = []

-- The next field's units in a block: those before its first separator, or all of them.
unfoldable pub field_units : (block : List ℕ) → List ℕ
field_units [] = []
field_units (unit ∷ block) = units_before (separator unit) (unit ∷ field_units block)

-- the first of two ends that is there
abbrev pub either_end : Option End → Option End → Option End
either_end none other = other
either_end (some end) other = some end

-- the first separator in a block, if it has one
unfoldable pub separator_in : (block : List ℕ) → Option End
separator_in [] = none
separator_in (unit ∷ block) = either_end (separator unit) (separator_in block)

-- What ends the next field: a separator in the block, or, in a call marked last, the text's end if the field has units.
unfoldable pub end_in : (held : ℕ) → (block : List ℕ) → (last : Bool) → Option End
end_in held block last = either_end (separator_in block) (pick (last && ltb 0 (held + length block)) (some Text) none)

-- The most units of a field, and the least length of a buffer.
abbrev pub field_limit : ℕ
field_limit = 256

-- fields within the limit
unfoldable pub AllWithin : List Field → Type 0
AllWithin [] = Unit {0}
AllWithin (f ∷ fields) = (length f.units ≤ field_limit) × AllWithin fields

-- The state before the first call.
abbrev pub fresh_held : Held
fresh_held = record { count = 0 }

-- The numbers of the refusals.
abbrev pub refusal_number : Refusal → ℕ
refusal_number BufferTooShort = 20
refusal_number BlockTooLong = 11
refusal_number InvalidState = 27
refusal_number FieldTooLong = 21

-- A call checks 20, 11, 27 and 21 in that order.
unfoldable pub field_refusal : (held : ℕ) → (buffer block : List ℕ) → Option Refusal
field_refusal held buffer block =
    refuse_unless BufferTooShort (leb field_limit (length buffer))
    (refuse_unless BlockTooLong (leb (length block) piece_limit)
    (refuse_unless InvalidState (leb held field_limit)
    (refuse_unless FieldTooLong (leb (held + length (field_units block)) field_limit)
    none)))

-- What a call gives: its answer, the units held after it, and the buffer after it.
pub record FieldCalled : Type 0 where
  pub answer : Result Answer Refusal
  pub held : ℕ
  pub buffer : List ℕ

-- units laid over a buffer behind those held; every other unit is as before
unfoldable pub over_from : (held : ℕ) → (buffer units : List ℕ) → List ℕ
over_from held buffer units = take held buffer ++ over (drop held buffer) units

-- A separator is read with its field.
abbrev pub read_with : End → ℕ → ℕ
read_with Bar count = count + 1
read_with LineFeed count = count + 1
read_with Text count = count

-- A field that was begun before the block is completed in the buffer; one wholly inside the block is shown from there.
unfoldable pub found_call : (held : ℕ) → (buffer units : List ℕ) → End → FieldCalled
found_call held buffer units end =
    pick (eqb held 0)
    (record { answer = Ok (FieldFound (record { end = end; place = Block; count = length units; read = read_with end (length units) })); held = 0; buffer = buffer })
    (record {
      answer = Ok (FieldFound (record { end = end; place = Buffer; count = held + length units; read = read_with end (length units) }));
      held = 0;
      buffer = over_from held buffer units;
    })

-- No field is complete: the whole block is read and held.
unfoldable pub held_call : (held : ℕ) → (buffer block : List ℕ) → FieldCalled
held_call held buffer block = record { answer = Ok (Incomplete (length block)); held = held + length block; buffer = over_from held buffer block }

-- A refused call changes neither the units held nor the buffer.
unfoldable pub refused_field_call : (held : ℕ) → (buffer : List ℕ) → Refusal → FieldCalled
refused_field_call held buffer why = record { answer = Err why; held = held; buffer = buffer }

-- an accepted call: the field, if something ends it, or the block held
abbrev pub accepted_field_call : (held : ℕ) → (buffer block : List ℕ) → Option End → FieldCalled
accepted_field_call held buffer block none = held_call held buffer block
accepted_field_call held buffer block (some end) = found_call held buffer (field_units block) end

-- a call that was refused, or the accepted one
abbrev pub unless_field_refused : (held : ℕ) → (buffer : List ℕ) → Option Refusal → FieldCalled → FieldCalled
unless_field_refused held buffer none call = call
unless_field_refused held buffer (some why) call = refused_field_call held buffer why

-- THE CALL.
unfoldable pub field_call : (held : ℕ) → (buffer block : List ℕ) → (last : Bool) → FieldCalled
field_call held buffer block last = unless_field_refused held buffer (field_refusal held buffer block) (accepted_field_call held buffer block (end_in held block last))

-- The promise of a call: c is what the rules give, r what it returns, and the state and the buffer after it.
pub record FieldAnswered (c : FieldCalled) (r : Result Answer Refusal) (s : Held) (after : List ℕ) : Type 0 where
  pub answer : r ≡ c.answer
  pub state : s.count ≡ c.held
  pub buffer : after ≡ c.buffer

-- whether a call was accepted
abbrev pub is_field_accepted : Result Answer Refusal → Bool
is_field_accepted (Ok (FieldFound found)) = true
is_field_accepted (Ok (Incomplete read)) = true
is_field_accepted (Err why) = false

-- the units of the block that a call read
abbrev pub read_by : Result Answer Refusal → ℕ
read_by (Ok (FieldFound found)) = found.read
read_by (Ok (Incomplete read)) = read
read_by (Err why) = 0

-- What holds of every call: it reads units of the block, and, if it is accepted, at least one of a block that has any; a field and
-- the units held are within the limit.
pub record Bounded (held : ℕ) (block : List ℕ) (c : FieldCalled) : Type 0 where
  pub read_within : read_by c.answer ≤ length block
  pub reads_some : is_field_accepted c.answer ≡ true → 0 < length block → 0 < read_by c.answer
  pub count_within : (found : Found) → c.answer ≡ Ok (FieldFound found) → found.count ≤ field_limit
  pub held_within : held ≤ field_limit → c.held ≤ field_limit

-- ---- the field that was found
abbrev pub lent_slice : Place → (buffer block : List ℕ) → List ℕ
lent_slice Buffer buffer block = buffer
lent_slice Block buffer block = block

-- a beginning of a list, or nothing if the list is too short
abbrev pub front : (count : ℕ) → List ℕ → List ℕ
front count units = pick (leb count (length units)) (take count units) []

-- The part of the buffer or of the block that a found field is.
unfoldable pub part_of : Found → (buffer block : List ℕ) → List ℕ
part_of found buffer block = front found.count (lent_slice found.place buffer block)

abbrev pub lent_at : Place → (buffer block : Bor (List ℕ)) → Bor (List ℕ)
lent_at Buffer buffer block = buffer
lent_at Block buffer block = block

-- The promise of `field`: the part handed back begins where the lent slice begins that has the field, and has its units.
pub record ShownAs (found : Found) (buffer block part : Bor (List ℕ)) : Type 0 where
  pub begins : part.ref_ptr ≡ (lent_at found.place buffer block).ref_ptr
  pub units : part.now ≡ part_of found buffer.now block.now
