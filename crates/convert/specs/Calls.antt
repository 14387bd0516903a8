-- Document 01, "One call of a run", as amended by CR 2 and CR 5. docs/RULES.md, "A call of a run".
use Rattle.std.specs.Prelude.{Bool, true, false, not, ◌&&◌, List, [], ◌∷◌, ◌⊎◌, ◌≡◌, ℕ, ◌+◌, ◌-◌, ◌≤◌, leb, eqb, length}
use Rattle.std.proofs.Math.Option.{Option, none, some}
use Rattle.std.specs.Int.Bits.{bit_or}
use Rattle.codepage.specs.CodePage.{CodePage, pick, entry_at, is_lead, first_fault, is_good}
use Rattle.codepage.specs.Reading.{as_units}
use Rattle.engine.specs.declared.Direction.{Direction}
use Rattle.engine.specs.declared.Direction.TheVariants.{Decoding, Encoding}
use Rattle.convert.specs.declared.Pending.{Pending}
use Rattle.convert.specs.declared.Pending.TheVariants.{Nothing, Byte, High}
use Rattle.convert.specs.declared.Run.{Run}
use Rattle.convert.specs.declared.Answer.{Answer}
use Rattle.convert.specs.declared.Answer.TheVariants.{AllRead, UnitPending, OutputFull, Stopped, Refused}
use Rattle.convert.specs.declared.Refusal.{Refusal}
use Rattle.convert.specs.declared.Refusal.TheVariants.{BadShape, PieceTooLong, InvalidRun, OtherRun, PendingNotLead, RunEnded, ReadLimit}
use Rattle.convert.specs.declared.Outcome.{Outcome}
use Rattle.codepage.specs.Lent.{over}
use Rattle.engine.specs.Engine.{converter_of, limit, Fed, feed_from}
use Rattle.convert.specs.Runs.{piece_limit, read_limit, valid_run}

-- The number of each refusal.
abbrev pub refusal_number : Refusal → ℕ
refusal_number BadShape = 10
refusal_number PieceTooLong = 11
refusal_number InvalidRun = 12
refusal_number OtherRun = 13
refusal_number PendingNotLead = 14
refusal_number RunEnded = 15
refusal_number ReadLimit = 16

-- The number of each answer.
abbrev pub number_of : Answer → ℕ
number_of AllRead = 0
number_of UnitPending = 1
number_of OutputFull = 2
number_of Stopped = 3
number_of (Refused refusal) = refusal_number refusal

-- whether two directions are the same: the first half of check 13
abbrev pub same_direction : Direction → Direction → Bool
same_direction Decoding Decoding = true
same_direction Decoding Encoding = false
same_direction Encoding Decoding = false
same_direction Encoding Encoding = true

-- a pending byte is a lead here; of a pending unit nothing is asked
abbrev pub lead_in : (classes : List ℕ) → Pending → Bool
lead_in classes Nothing = true
lead_in classes (Byte byte) = is_lead (entry_at classes byte)
lead_in classes (High unit) = true

-- a check that holds, and the next one, or the number that it refuses with
abbrev pub check : ℕ → Bool → ℕ → ℕ
check number holds next = pick holds next number

-- A run call on a piece of `count` units checks 10 to 16 in that order. 0: it is accepted.
unfoldable pub refusal : Direction → Run → CodePage → (count : ℕ) → ℕ
refusal direction run p count =
    check 10 (is_good (first_fault p))
    (check 11 (leb count piece_limit)
    (check 12 (valid_run run)
    (check 13 (same_direction direction run.direction && eqb run.page p.page)
    (check 14 (lead_in p.classes run.pending)
    (check 15 (not run.ended)
    (check 16 (leb (run.read + count) read_limit)
    0))))))

-- What a run call gives: its answer's number, the units of the piece read, what is written, and the new run.
pub record Called : Type 0 where
  pub number : ℕ
  pub read : ℕ
  pub output : List ℕ
  pub run : Run

-- The reading promise, as amended by CR 2: a unit of input is read, or the pending one is settled (pending before, not pending after).
abbrev pub ReadsOrSettles : (read : ℕ) → (before after : Pending) → Type 0
ReadsOrSettles read before after = (1 ≤ read) ⊎ ((before ≡ Nothing → ⊥) × (after ≡ Nothing))

-- What is pending as a unit that waits. All that a call does with it goes through this.
abbrev pub pending_unit : Pending → Option ℕ
pending_unit Nothing = none
pending_unit (Byte byte) = some byte
pending_unit (High unit) = some unit

-- how many units are pending
abbrev pub pending_count : Pending → ℕ
pending_count pending = length (as_units (pending_unit pending))

-- a unit of input that is pending: a byte in decoding, a unit in encoding
abbrev pub pending_as : Direction → ℕ → Pending
pending_as Decoding byte = Byte byte
pending_as Encoding unit = High unit

-- the final unit: the piece's or, where it is empty, the one that was pending
abbrev pub final_unit : Direction → Pending → List ℕ → Pending
final_unit direction pending [] = pending
final_unit direction pending (a ∷ units) = final_unit direction (pending_as direction a) units

-- all of the piece where the final unit waits, else its units among those of the codes taken
unfoldable pub units_read : Pending → (count answer used : ℕ) → ℕ
units_read pending count answer used = pick (eqb answer 1) count (used - pending_count pending)

-- the final unit where it waits; what was pending stays so until a code with it is taken
unfoldable pub pending_after : Direction → Pending → (piece : List ℕ) → (answer used : ℕ) → Pending
pending_after direction pending piece answer used = pick (eqb answer 1) (final_unit direction pending piece) (pick (eqb used 0) pending Nothing)

-- a stop ends the run; in a call marked last it ends when all is read and nothing is pending
unfoldable pub ended_after : (last : Bool) → (answer : ℕ) → Bool
ended_after last answer = pick (eqb answer 3) true (pick (eqb answer 0) last false)

-- the run after a call that read, wrote and set flags
unfoldable pub run_after : Run → Pending → (read written flags : ℕ) → (ended : Bool) → Run
run_after run pending read written flags ended =
    record {
      direction = run.direction;
      page = run.page;
      policy = run.policy;
      pending = pending;
      flags = bit_or run.flags flags;
      read = run.read + read;
      written = run.written + written;
      ended = ended;
    }

-- What an accepted call takes: the codes of what is pending and the piece, under the run's policy, while they fit the room.
unfoldable pub fed_by : Direction → Run → CodePage → (piece : List ℕ) → (last : Bool) → (room : ℕ) → Fed
fed_by direction run p piece last room = feed_from (converter_of direction p run.policy) last (limit room) (pending_unit run.pending) piece

-- An accepted call: the answer and the output of the codes taken, the units of the piece that were read, and the run after it.
unfoldable pub accepted_call : Run → (piece : List ℕ) → (last : Bool) → Fed → Called
accepted_call run piece last f =
    record {
      number = f.answer;
      read = units_read run.pending (length piece) f.answer f.used;
      output = f.output;
      run =
          run_after run (pending_after run.direction run.pending piece f.answer f.used) (units_read run.pending (length piece) f.answer f.used) (length f.output) f.flags
          (ended_after last f.answer);
    }

-- A refused run call returns the run it was handed, read 0, written 0.
unfoldable pub refused_call : ℕ → Run → Called
refused_call number run = record { number = number; read = 0; output = []; run = run }

-- THE CALL: refused with the first number that applies and nothing changed, or accepted.
unfoldable pub run_call : Direction → Run → CodePage → (piece : List ℕ) → (last : Bool) → (room : ℕ) → Called
run_call direction run p piece last room =
    pick (eqb (refusal direction run p (length piece)) 0) (accepted_call run piece last (fed_by direction run p piece last room))
    (refused_call (refusal direction run p (length piece)) run)

-- The promise of a run call: c is what the rules give, r what it returns, and the lent output before and after.
pub record Answered (c : Called) (r : Outcome) (before after : List ℕ) : Type 0 where
  pub number : number_of r.answer ≡ c.number
  pub read : r.read ≡ c.read
  pub written : r.written ≡ length c.output
  pub run : r.run ≡ c.run
  pub lent : after ≡ over before c.output
