-- The C interface: runs and answers as numbers, and what each exported call gives.
use Rattle.std.specs.Prelude.{Bool, true, false, not, ◌&&◌, ◌||◌, Ok, Err, List, [], ◌≡◌, ℕ, leb, ltb, eqb, length}
use Rattle.std.proofs.Math.Option.{Option, none, some}
use Rattle.codepage.specs.CodePage.{CodePage, code_page, pick, first_fault, is_good, Report}
use Rattle.codepage.specs.Reading.{is_high}
use Rattle.codepage.specs.declared.Fault.TheVariants.{Page, ClassesSize, SinglesSize, PairsSize, IndexSize, BlocksSize, Class, Lead, Number}
use Rattle.engine.specs.declared.Direction.{Direction}
use Rattle.engine.specs.declared.Direction.TheVariants.{Decoding, Encoding}
use Rattle.engine.specs.Policies.{digits}
use Rattle.codepage.specs.Lent.{over}
use Rattle.convert.specs.declared.Pending.{Pending}
use Rattle.convert.specs.declared.Pending.TheVariants.{Nothing, Byte, High}
use Rattle.convert.specs.declared.Run.{Run}
use Rattle.convert.specs.declared.Outcome.{Outcome}
use Rattle.convert.specs.Runs.{piece_limit, Start, start_of}
use Rattle.convert.specs.Calls.{Called, check, refusal, run_call, number_of}
use Rattle.checkpoint.specs.Line.{Saving, unwritten, write_of, Loading}
use Rattle.capi.specs.declared.TillRun.{TillRun}
use Rattle.capi.specs.declared.TillOutcome.{TillOutcome}
use Rattle.capi.specs.declared.TillHanded.{TillHanded}
use Rattle.capi.specs.declared.TillSaved.{TillSaved}
use Rattle.capi.specs.declared.TillFault.{TillFault}

-- ---- A run as numbers

-- direction: 0 decoding, 1 encoding
abbrev pub direction_in : ℕ → Direction
direction_in n = pick (eqb n 0) Decoding Encoding

-- a direction's number
abbrev pub direction_out : Direction → ℕ
direction_out Decoding = 0
direction_out Encoding = 1

-- pending: the pending byte, the pending high surrogate, or 256 for none
abbrev pub pending_in : ℕ → Pending
pending_in n = pick (ltb n 256) (Byte n) (pick (eqb n 256) Nothing (High n))

-- the number of what is pending
abbrev pub pending_out : Pending → ℕ
pending_out Nothing = 256
pending_out (Byte byte) = byte
pending_out (High unit) = unit

-- the numbers that say what is pending: no other unit than a high surrogate is pending
unfoldable pub is_pending : ℕ → Bool
is_pending n = leb n 256 || is_high n

-- ended: 0 or 1
abbrev pub flag_out : Bool → ℕ
flag_out true = 1
flag_out false = 0

-- The numbers are those of a run: direction 0 or 1, pending at most 256 or a high surrogate, ended 0 or 1.
unfoldable pub is_run : TillRun → Bool
is_run r = leb r.direction 1 && (is_pending r.pending && leb r.ended 1)

-- The run that the numbers name, on a page.
unfoldable pub run_on : (page : ℕ) → TillRun → Run
run_on page r =
    record {
      direction = direction_in r.direction;
      page = page;
      policy = digits r.single r.pair r.invalid;
      pending = pending_in r.pending;
      flags = r.flags;
      read = r.read;
      written = r.written;
      ended = eqb r.ended 1;
    }

-- the run that the numbers name, on the page they name
abbrev pub run_in : TillRun → Run
run_in r = run_on r.page r

-- The numbers of a run.
unfoldable pub run_out : Run → TillRun
run_out run =
    record {
      read = run.read;
      written = run.written;
      page = run.page;
      pending = pending_out run.pending;
      direction = direction_out run.direction;
      single = run.policy.single;
      pair = run.policy.pair;
      invalid = run.policy.invalid;
      flags = run.flags;
      ended = flag_out run.ended;
    }

-- The table set of a call.
abbrev pub till_page : (page byte unit : ℕ) → (classes singles pairs index blocks : List ℕ) → CodePage
till_page page byte unit classes singles pairs index blocks =
    code_page (record { page = page; default_byte = byte; default_unit = unit }) classes singles pairs index blocks

-- ---- Run calls

-- What a run call gives: its answer's number, the units of the piece read, what is written, and the new run.
pub record TillCalled : Type 0 where
  pub number : ℕ
  pub read : ℕ
  pub output : List ℕ
  pub run : TillRun

-- what the rules give for a run call, with the new run as numbers
abbrev pub called_out : Called → TillCalled
called_out c = record { number = c.number; read = c.read; output = c.output; run = run_out c.run }

-- A run call checks 10 to 16 in that order; numbers that name no run break the run rules, so 12 is their check. 0: it is accepted.
unfoldable pub till_refusal : Direction → TillRun → CodePage → (count : ℕ) → ℕ
till_refusal direction run p count =
    check 10 (is_good (first_fault p))
    (check 11 (leb count piece_limit)
    (check 12 (is_run run)
    (refusal direction (run_in run) p count)))

-- A refused run call gives back the numbers it was handed, read 0, written 0.
abbrev pub till_refused : ℕ → TillRun → TillCalled
till_refused number run = record { number = number; read = 0; output = []; run = run }

-- Any mark but 0 is last.
abbrev pub is_last : ℕ → Bool
is_last last = not (eqb last 0)

-- What a run call through C gives: as the call of the run that the numbers name, or the refusal.
unfoldable pub till_call : Direction → TillRun → CodePage → (piece : List ℕ) → (last : ℕ) → (room : ℕ) → TillCalled
till_call direction run p piece last room =
    pick (eqb (till_refusal direction run p (length piece)) 0) (called_out (run_call direction (run_in run) p piece (is_last last) room))
    (till_refused (till_refusal direction run p (length piece)) run)

-- The promise of a run call: c is what the rules give, r what it returns, and the lent output before and after.
pub record TillAnswered (c : TillCalled) (r : TillOutcome) (before after : List ℕ) : Type 0 where
  pub number : r.number ≡ c.number
  pub read : r.read ≡ c.read
  pub written : r.written ≡ length c.output
  pub run : r.run ≡ c.run
  pub lent : after ≡ over before c.output

-- the page of numbers that name a run; no run has page 0
abbrev pub page_named : TillRun → ℕ
page_named r = pick (is_run r) r.page 0

-- what a call answers by the outcome of the run's call: numbers that name no run are given back as they were
unfoldable pub answer_out : TillRun → Outcome → TillOutcome
answer_out run o = record { run = pick (is_run run) (run_out o.run) run; read = o.read; written = o.written; number = number_of o.answer }

-- ---- Start and the saved line

-- the numbers beside a refused start or reading: no run has page 0
unfoldable pub no_run : TillRun
no_run =
    record {
      read = 0;
      written = 0;
      page = 0;
      pending = 256;
      direction = 0;
      single = 0;
      pair = 0;
      invalid = 0;
      flags = 0;
      ended = 0;
    }

abbrev pub run_or : Option Run → TillRun
run_or none = no_run
run_or (some run) = run_out run

-- a number with the run it gives, or with the numbers of no run
unfoldable pub handed : (number : ℕ) → Option Run → TillHanded
handed number run = record { run = run_or run; number = number }

-- what a start gives, as numbers
abbrev pub start_out : Start → TillHanded
start_out s = handed s.number s.run

-- What `till_start` gives: a direction that is neither 0 nor 1 is refused with 17, as a digit that is not allowed.
unfoldable pub till_start : (direction page single pair invalid : ℕ) → TillHanded
till_start direction page single pair invalid =
    pick (leb direction 1) (start_out (start_of (direction_in direction) page (digits single pair invalid))) (handed 17 none)

-- what line reading gives, as numbers
abbrev pub load_out : Loading → TillHanded
load_out l = handed l.number l.run

-- What `till_save` gives: numbers that name no run break the rules of runs, and are refused with 12.
unfoldable pub till_save : TillRun → (room : ℕ) → Saving
till_save run room = pick (is_run run) (write_of (run_in run) room) (unwritten 12)

-- The promise of line writing: s is what the rules give, r what it returns, and the lent output before and after.
pub record TillSavedAs (s : Saving) (r : TillSaved) (before after : List ℕ) : Type 0 where
  pub number : r.number ≡ s.number
  pub size : r.size ≡ length s.line
  pub lent : after ≡ over before s.line

-- ---- The shape report

abbrev pub fault_at : (number place : ℕ) → TillFault
fault_at number place = record { place = place; number = number }

-- 0: good; 1: the page; 2 to 6: a table's size, in the order of the tables; 7, 8, 9: a class, a low lead, an index number
abbrev pub fault_out : Report → TillFault
fault_out (Ok _) = fault_at 0 0
fault_out (Err Page) = fault_at 1 0
fault_out (Err ClassesSize) = fault_at 2 0
fault_out (Err SinglesSize) = fault_at 3 0
fault_out (Err PairsSize) = fault_at 4 0
fault_out (Err IndexSize) = fault_at 5 0
fault_out (Err BlocksSize) = fault_at 6 0
fault_out (Err (Class byte)) = fault_at 7 byte
fault_out (Err (Lead byte)) = fault_at 8 byte
fault_out (Err (Number place)) = fault_at 9 place
