-- Definitions that the private functions' contracts cite, and that no promise does.
use Rattle.std.specs.Prelude.{not, ◌&&◌, List, ◌≡◌, ℕ, ◌+◌, leb, eqb}
use Rattle.std.specs.Prelude.{Bool}
use Rattle.std.specs.Prelude.{Option, None, Some}
use Rattle.std.specs.Prelude.{Result, Ok, Err}
use Rattle.engine.specs.declared.Direction.{Direction}
use Rattle.engine.specs.declared.progress.Progress.{Progress}
use Rattle.convert.specs.declared.Pending.{Pending}
use Rattle.convert.specs.declared.Pending.TheVariants.{Nothing, Byte, High}
use Rattle.convert.specs.declared.Run.{Run}
use Rattle.convert.specs.declared.Answer.TheVariants as answer
use Rattle.convert.specs.declared.Refusal.{Refusal}
use Rattle.convert.specs.declared.Outcome.{Outcome}
use Rattle.convert.specs.Runs.{piece_limit, read_limit, valid_run}
use Rattle.convert.specs.Calls.{refusal_number, number_of, same_direction, lead_in, check, units_read, run_after, ended_after}

-- the pending byte of a decoding run, or none
abbrev pub pending_byte : Pending → Option ℕ
pending_byte Nothing = None
pending_byte (Byte byte) = Some byte
pending_byte (High unit) = None

-- the pending unit of an encoding run, a high surrogate, or none
abbrev pub pending_high : Pending → Option ℕ
pending_high Nothing = None
pending_high (Byte byte) = None
pending_high (High unit) = Some unit

-- checks 11 to 13: the piece, the run rules, direction and page
abbrev pub run_refusal : Direction → Run → (page count : ℕ) → ℕ
run_refusal direction run page count =
    check 11 (leb count piece_limit) (check 12 (valid_run run) (check 13 (same_direction direction run.direction && eqb run.page page) 0))

-- checks 14 to 16: what is pending, the end, and the read total
abbrev pub rest_refusal : Run → (classes : List ℕ) → (count : ℕ) → ℕ
rest_refusal run classes count = check 14 (lead_in classes run.pending) (check 15 (not run.ended) (check 16 (leb (run.read + count) read_limit) 0))

-- the number that checks refuse with, or 0
abbrev pub refused_as : {A : Type 0} → Result A Refusal → ℕ
refused_as (Ok passed) = 0
refused_as (Err refusal) = refusal_number refusal

-- the result of an accepted call
pub record Finished (run : Run) (s : Progress) (pending : Pending) (count : ℕ) (last : Bool) (r : Outcome) : Type 0 where
  pub number : number_of r.answer ≡ s.answer
  pub read : r.read ≡ units_read run.pending count s.answer s.used
  pub written : r.written ≡ s.written
  pub run' : r.run ≡ run_after run pending (units_read run.pending count s.answer s.used) s.written s.flags (ended_after last s.answer)

-- the result of a refused call: the run that it was handed, nothing read, nothing written
abbrev pub refused_outcome : Refusal → Run → Outcome
refused_outcome refusal run = record { answer = answer.Refused refusal; read = 0; written = 0; run = run }
