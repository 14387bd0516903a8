-- Document 02, CR 1: lists of calls on one text, and the one claim over every list. docs/RULES.md, "Fields".
use Rattle.std.specs.Prelude.{Result, Ok, Err, Bool, true, false, ◌&&◌, ◌||◌, List, [], ◌∷◌, ◌++◌, ◌≡◌, ℕ, ◌+◌, ◌≤◌, eqb, length, drop}
use Rattle.convert.specs.Runs.{piece_limit}
use Rattle.fields.specs.declared.Refusal.{Refusal}
use Rattle.fields.specs.declared.Answer.{Answer}
use Rattle.fields.specs.declared.Answer.TheVariants.{Field as FieldFound, Incomplete}
use Rattle.fields.specs.declared.Held.{Held}
use Rattle.fields.specs.Fields.{Field, fields_of, fresh_held, field_call, FieldAnswered, is_field_accepted, read_by, part_of}

-- A call of a list and what the program returned: what `next_field` answered, the state and the buffer after it, and what `field`
-- returned for a field that was found.
pub record FieldEntry : Type 0 where
  pub block : List ℕ
  pub last : Bool
  pub answer : Result Answer Refusal
  pub state : Held
  pub buffer : List ℕ
  pub part : List ℕ

-- The contract of `field`, which is called for a field that was found.
abbrev pub Shown : Result Answer Refusal → (buffer block part : List ℕ) → Type 0
Shown (Ok (FieldFound found)) buffer block part = part ≡ part_of found buffer block
Shown (Ok (Incomplete read)) buffer block part = Unit {0}
Shown (Err refusal) buffer block part = Unit {0}

-- The contracts of the program, for the state and the buffer before the call: the definitions that they cite, and nothing else.
pub record EntryMeets (state : Held) (buffer : List ℕ) (e : FieldEntry) : Type 0 where
  pub call : FieldAnswered (field_call state.count buffer e.block e.last) e.answer e.state e.buffer
  pub part : Shown e.answer e.buffer e.block e.part

-- Each call gets state and buffer as the call before left them, and its results meet the contracts.
unfoldable pub AllFieldsMeet : Held → (buffer : List ℕ) → List FieldEntry → Type 0
AllFieldsMeet state buffer [] = Unit {0}
AllFieldsMeet state buffer (e ∷ es) = EntryMeets state buffer e × AllFieldsMeet e.state e.buffer es

-- the field that a call gave, with what ended it, or none
abbrev pub given_by : Result Answer Refusal → (part : List ℕ) → List Field
given_by (Ok (FieldFound found)) part = record { units = part; end = found.end } ∷ []
given_by (Ok (Incomplete read)) part = []
given_by (Err refusal) part = []

-- How far a list is: the units read, the fields given, and whether an accepted call marked last has left nothing unread.
pub record Progress : Type 0 where
  pub position : ℕ
  pub given : List Field
  pub finished : Bool

-- before the first call: nothing read, no field given
abbrev pub opened_cutting : Progress
opened_cutting = record { position = 0; given = []; finished = false }

-- one call more: the units it read and the field it gave are added, and whether the text is finished with it
unfoldable pub next_progress : (text : List ℕ) → Progress → FieldEntry → Progress
next_progress text p e =
    record {
      position = p.position + read_by e.answer;
      given = p.given ++ given_by e.answer e.part;
      finished = p.finished || (is_field_accepted e.answer && (e.last && eqb (p.position + read_by e.answer) (length text)));
    }

-- how far a list is after all of its calls
unfoldable pub play_fields : (text : List ℕ) → Progress → List FieldEntry → Progress
play_fields text p [] = p
play_fields text p (e ∷ es) = play_fields text (next_progress text p e) es

-- Which calls a list may have: a block of the text that begins at the first unread unit, marked last only if it reaches the
-- text's end.
unfoldable pub FieldAllowed : (text : List ℕ) → Progress → FieldEntry → Type 0
FieldAllowed text p e = (rest : List ℕ) × (drop p.position text ≡ e.block ++ rest) × (e.last ≡ true → rest ≡ [])

-- every call of a list is allowed where it stands
unfoldable pub AllFieldsAllowed : (text : List ℕ) → Progress → List FieldEntry → Type 0
AllFieldsAllowed text p [] = Unit {0}
AllFieldsAllowed text p (e ∷ es) = FieldAllowed text p e × AllFieldsAllowed text (next_progress text p e) es

-- A list of calls from a fresh state and any buffer, with results that meet the contracts.
pub record FieldTrace (text buffer : List ℕ) (es : List FieldEntry) : Type 0 where
  pub allowed : AllFieldsAllowed text opened_cutting es
  pub met : AllFieldsMeet fresh_held buffer es

-- THE CLAIM, of a list of calls as a whole: the fields given, with what ended them, are the first of the text's fields, and all of
-- them once an accepted call marked last has left nothing unread.
pub record Cut (text : List ℕ) (es : List FieldEntry) : Type 0 where
  pub begins : (others : List Field) × (fields_of text ≡ (play_fields text opened_cutting es).given ++ others)
  pub all_of_them : (play_fields text opened_cutting es).finished ≡ true → (play_fields text opened_cutting es).given ≡ fields_of text

-- a list with no call marked last
unfoldable pub NoneLast : List FieldEntry → Type 0
NoneLast [] = Unit {0}
NoneLast (e ∷ es) = (e.last ≡ false) × NoneLast es

-- no call on a block within the limit is refused
unfoldable pub NoneRefused : List FieldEntry → Type 0
NoneRefused [] = Unit {0}
NoneRefused (e ∷ es) = (length e.block ≤ piece_limit → is_field_accepted e.answer ≡ true) × NoneRefused es
