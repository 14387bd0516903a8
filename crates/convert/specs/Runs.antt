-- Document 01, "The run and its saved line", as amended by CR 5: the run, its limits and rules, and the start of a run.
-- docs/RULES.md, "The run, and its saved line".
use Rattle.std.specs.Prelude.{Bool, true, false, not, ◌&&◌, ◌||◌, List, [], ◌∷◌, ◌≡◌, ℕ, ◌+◌, ◌*◌, ◌<◌, ◌≤◌, leb, ltb, eqb}
use Rattle.std.proofs.Math.Option.{Option, none, some}
use Rattle.codepage.specs.CodePage.{pick}
use Rattle.codepage.specs.Reading.{is_high}
use Rattle.engine.specs.declared.Direction.{Direction}
use Rattle.engine.specs.declared.Direction.TheVariants.{Decoding, Encoding}
use Rattle.engine.specs.declared.Policy.{Policy}
use Rattle.convert.specs.declared.Pending.{Pending}
use Rattle.convert.specs.declared.Pending.TheVariants.{Nothing, Byte, High}
use Rattle.convert.specs.declared.Run.{Run}
use Rattle.convert.specs.declared.StartError.{StartError}
use Rattle.convert.specs.declared.StartError.TheVariants.{NotAllowed}
use Rattle.std.specs.Prelude.{Result, Ok, Err}
use Rattle.engine.specs.Policies.{stopped_flag, highest_single, policy_allowed}

-- The limits of a run: the units of one piece, and of all that it reads.
abbrev pub piece_limit : ℕ
piece_limit = 65536

-- All that a run reads: 4,294,967,295 units; more is refused with 16.
abbrev pub read_limit : ℕ
read_limit = 4294967295

-- so much can be written for it: two bytes a unit
abbrev pub written_limit : ℕ
written_limit = 8589934590

-- whether a run turns bytes into units
abbrev pub is_decoding : Direction → Bool
is_decoding Decoding = true
is_decoding Encoding = false

-- whether a run turns units into bytes
abbrev pub is_encoding : Direction → Bool
is_encoding direction = not (is_decoding direction)

-- written at most read (decoding) or twice read (encoding)
abbrev pub most_written : Direction → ℕ → ℕ
most_written Decoding read = read
most_written Encoding read = 2 * read

-- a pending byte only if decoding, not ended, written below read; a pending unit only if encoding, a high surrogate, not ended,
-- written plus 2 at most 2 × read
abbrev pub pending_allowed : Pending → Direction → (ended : Bool) → (written read : ℕ) → Bool
pending_allowed Nothing direction ended written read = true
pending_allowed (Byte byte) direction ended written read = is_decoding direction && (not ended && ltb written read)
pending_allowed (High unit) direction ended written read = is_encoding direction && (is_high unit && (not ended && leb (written + 2) (2 * read)))

-- all tests of a list hold
abbrev pub every : List Bool → Bool
every [] = true
every (b ∷ bs) = b && every bs

-- The run rules: page not 0; digits allowed; flags at most 15; read within the limit; written at most read or twice read;
-- flag 8 only if ended; a pending byte or unit only where it is allowed.
unfoldable pub valid_run : Run → Bool
valid_run run =
    every
    (not (eqb run.page 0)
    ∷ policy_allowed run.direction run.policy
    ∷ leb run.flags 15
    ∷ leb run.read read_limit
    ∷ leb run.written (most_written run.direction run.read)
    ∷ (ltb run.flags 8 || run.ended)
    ∷ pending_allowed run.pending run.direction run.ended run.written run.read
    ∷ [])

-- The same in propositions; `Rules_Exact` says that they are the rules.
pub record RunRules (run : Run) : Type 0 where
  -- page not 0
  pub page : run.page ≡ 0 → ⊥
  -- digits allowed
  pub digits : (run.policy.single ≤ highest_single run.direction) × (run.policy.pair ≤ 5) × (run.policy.invalid ≤ 5)
  -- flags at most 15
  pub flags : run.flags ≤ 15
  -- read within the limit
  pub read : run.read ≤ read_limit
  -- written at most read (decoding) or twice read (encoding)
  pub written : run.written ≤ most_written run.direction run.read
  -- flag 8 only if ended
  pub stopped : stopped_flag ≤ run.flags → run.ended ≡ true
  -- a pending byte only if decoding, not ended, written below read
  pub pending_byte : (byte : ℕ) → run.pending ≡ Byte byte → (run.direction ≡ Decoding) × (run.ended ≡ false) × (run.written < run.read)
  -- a pending unit only if encoding, a high surrogate, not ended, written plus 2 at most 2 × read
  pub pending_high : (unit : ℕ) → run.pending ≡ High unit
      → (run.direction ≡ Encoding) × (0xD800 ≤ unit) × (unit ≤ 0xDBFF) × (run.ended ≡ false) × (run.written + 2 ≤ 2 * run.read)

-- An accepted start gives a fresh run.
abbrev pub fresh : Direction → ℕ → Policy → Run
fresh direction page policy =
    record {
      direction = direction;
      page = page;
      policy = policy;
      pending = Nothing;
      flags = 0;
      read = 0;
      written = 0;
      ended = false;
    }

-- What a start gives: 0 and the run, or 17, start numbers not allowed (page 0, a policy digit).
pub record Start : Type 0 where
  pub number : ℕ
  pub run : Option Run

-- A start is accepted if the page is not 0 and the digits are allowed in the direction; else it is refused with 17.
unfoldable pub start_of : Direction → ℕ → Policy → Start
start_of direction page policy =
    pick (not (eqb page 0) && policy_allowed direction policy) (record { number = 0; run = some (fresh direction page policy) }) (record { number = 17; run = none })

-- the number of a refused start
abbrev pub start_number : StartError → ℕ
start_number NotAllowed = 17

-- the number and values of each case of the answer
abbrev pub started_as : Result Run StartError → Start
started_as (Ok run) = record { number = 0; run = some run }
started_as (Err e) = record { number = start_number e; run = none }
