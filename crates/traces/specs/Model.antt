-- Document 01, "The lists of demand 3": the calls of a list, and the reference model (document 01: the plain book), which is
-- kept from the calls alone. docs/RULES.md, "Lists of calls".
use Rattle.std.specs.Prelude.{Bool, true, false, ◌&&◌, List, [], ◌∷◌, ◌++◌, ◌⊎◌, ◌≡◌, ℕ, ◌+◌, ltb, eqb, length, drop}
use Rattle.std.proofs.Math.Option.{Option, none, some}
use Rattle.codepage.specs.CodePage.{CodePage, pick, first_fault, is_good}
use Rattle.engine.specs.declared.Direction.{Direction}
use Rattle.engine.specs.declared.Policy.{Policy}
use Rattle.convert.specs.declared.Run.{Run}
use Rattle.engine.specs.Engine.{Fed, halt, whole}
use Rattle.convert.specs.Runs.{fresh}
use Rattle.convert.specs.Calls.{Called, ended_after, run_call}
use Rattle.engine.specs.Engine.{reader_of, default_of}
use Rattle.checkpoint.specs.Line.{same_bytes, Saving, write_of, Loading, read_of}

-- What a list keeps throughout: the table set, the run of an accepted start, and a text in its direction.
pub record Setting : Type 0 where
  pub tables : CodePage
  pub direction : Direction
  pub page : ℕ
  pub policy : Policy
  pub text : List ℕ

-- The two forms of a run call (CR 13): the run is given and given back, or it is a record that is updated where it stands.
pub data Form : Type 0 where
  by_value : Form
  in_record : Form

-- A call: a run call, in either form, on a piece of the text, marked last or not; line writing; line reading. `lent` is the lent output
-- before the call; its length is the room.
-- "Demand 3 covers any mixture of the two forms in one run" (CR 13): what follows looks at no form.
pub data Call : Type 0 where
  feeding : Form → (piece : List ℕ) → (last : Bool) → (lent : List ℕ) → Call
  saving : (lent : List ℕ) → Call
  loading : (line : List ℕ) → Call

-- What is noted beside a line that was written.
pub record Note : Type 0 where
  pub line : List ℕ
  pub position : ℕ
  pub joined : List ℕ
  pub ended : Bool

-- The model: the run in hand, position, joined output, ended or not, and the notes.
pub record Model : Type 0 where
  pub run : Run
  pub position : ℕ
  pub joined : List ℕ
  pub ended : Bool
  pub notes : List Note

-- A list starts from the run of an accepted start; the last three start at 0, empty, not ended.
unfoldable pub opened : Setting → Model
opened s = record { run = fresh s.direction s.page s.policy; position = 0; joined = []; ended = false; notes = [] }

-- What a call answers, reads, writes and returns.
pub record Said : Type 0 where
  pub number : ℕ
  pub read : ℕ
  pub output : List ℕ
  pub run : Option Run

-- what a run call says: all of it, with the run after it
abbrev pub said_of_call : Called → Said
said_of_call c = record { number = c.number; read = c.read; output = c.output; run = some c.run }

-- what line writing says: its number, and the line as what was written; it returns no run
abbrev pub said_of_saving : Saving → Said
said_of_saving w = record { number = w.number; read = 0; output = w.line; run = none }

-- what line reading says: its number and, if the line was read, its run
abbrev pub said_of_loading : Loading → Said
said_of_loading l = record { number = l.number; read = 0; output = []; run = l.run }

-- The model works it out by the rules, with the run in hand, which run calls and line writing get.
unfoldable pub says : Setting → (hand : Run) → Call → Said
says s hand (feeding form piece last lent) = said_of_call (run_call s.direction hand s.tables piece last (length lent))
says s hand (saving lent) = said_of_saving (write_of hand (length lent))
says s hand (loading line) = said_of_loading (read_of line)

-- answers 0 to 3 are those of accepted calls
abbrev pub is_accepted : ℕ → Bool
is_accepted number = ltb number 10

-- An accepted run call or line reading puts its own run in hand.
abbrev pub in_hand : Run → Option Run → Run
in_hand run none = run
in_hand run (some next) = next

-- the notes beside a line: those of its latest writing
abbrev pub noted_beside : List ℕ → List Note → Option Note
noted_beside line [] = none
noted_beside line (n ∷ notes) = pick (same_bytes line n.line) (some n) (noted_beside line notes)

-- An accepted run call adds its read to the position and joins what it wrote; answer 3, or answer 0 to a call marked last, makes
-- it ended.
unfoldable pub joined_by : Model → (last : Bool) → Said → Model
joined_by m last a =
    record {
      run = in_hand m.run a.run;
      position = m.position + a.read;
      joined = m.joined ++ a.output;
      ended = ended_after last a.number;
      notes = m.notes;
    }

-- Accepted line writing notes these three beside that line.
unfoldable pub noted_by : Model → Said → Model
noted_by m a =
    record {
      run = m.run;
      position = m.position;
      joined = m.joined;
      ended = m.ended;
      notes = record { line = a.output; position = m.position; joined = m.joined; ended = m.ended } ∷ m.notes;
    }

-- Accepted line reading sets the three back to those noted.
unfoldable pub set_back_to : Model → Said → Option Note → Model
set_back_to m a none = m
set_back_to m a (some n) = record { run = in_hand m.run a.run; position = n.position; joined = n.joined; ended = n.ended; notes = m.notes }

-- what an accepted call of each sort changes in the model
unfoldable pub accepted_by : Model → Call → Said → Model
accepted_by m (feeding form piece last lent) a = joined_by m last a
accepted_by m (saving lent) a = noted_by m a
accepted_by m (loading line) a = set_back_to m a (noted_beside line m.notes)

-- A refused call changes nothing.
unfoldable pub next : Setting → Model → Call → Model
next s m c = pick (is_accepted (says s m.run c).number) (accepted_by m c (says s m.run c)) m

-- the model after a list of calls
unfoldable pub play : Setting → Model → List Call → Model
play s m [] = m
play s m (c ∷ cs) = play s (next s m c) cs

-- Which calls a list may have: a piece of the text that begins at the position, marked last only if it reaches the text's end;
-- a line that an earlier call wrote, or a text refused with 18.
unfoldable pub Allowed : Setting → Model → Call → Type 0
Allowed s m (feeding form piece last lent) = (rest : List ℕ) × (drop m.position s.text ≡ piece ++ rest) × (last ≡ true → rest ≡ [])
Allowed s m (saving lent) = Unit {0}
Allowed s m (loading line) = ((n : Note) × (noted_beside line m.notes ≡ some n)) ⊎ ((read_of line).number ≡ 18)

-- every call of a list is allowed where it stands, by the model of the calls before it
unfoldable pub AllAllowed : Setting → Model → List Call → Type 0
AllAllowed s m [] = Unit {0}
AllAllowed s m (c ∷ cs) = Allowed s m c × AllAllowed s (next s m c) cs

-- The whole reading (document 01: the uncut reading). With a bad shape or another page than the run's it takes no step.
unfoldable pub whole_of : Setting → Fed
whole_of s =
    pick (is_good (first_fault s.tables) && eqb s.page s.tables.page)
    (whole (reader_of s.direction s.tables) s.policy (default_of s.direction s.tables) s.text)
    (halt 0)
