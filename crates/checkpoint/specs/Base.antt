-- The saved line of document 01 before CR 5: what was read then, by the run rules of then. A run has a byte pending, or nothing.
-- docs/RULES.md, "The run, and its saved line", has the line and the rules of now.
use Rattle.std.specs.Prelude.{Bool, true, false, not, ◌&&◌, ◌||◌, List, [], ◌∷◌, ℕ, leb, ltb, eqb}
use Rattle.std.proofs.Math.Option.{Option, none, some}
use Rattle.codepage.specs.CodePage.{pick}
use Rattle.engine.specs.Policies.{policy_allowed}
use Rattle.convert.specs.declared.Pending.{Pending}
use Rattle.convert.specs.declared.Pending.TheVariants.{Nothing, Byte, High}
use Rattle.convert.specs.declared.Run.{Run}
use Rattle.convert.specs.Runs.{read_limit, is_decoding, most_written, every}
use Rattle.checkpoint.specs.Line.{Parsed, Parser, succeed, ◌>>=◌, or_else, one, is_byte, letter, number, three_digits, hex_pair, field, closing}

-- what has to hold if a byte is pending; a unit never was
abbrev pub base_if_pending : Pending → Bool → Bool
base_if_pending Nothing holds = true
base_if_pending (Byte byte) holds = holds
base_if_pending (High unit) holds = false

-- The run rules: page not 0; digits allowed; flags at most 15; read within the limit; written at most read or twice read;
-- flag 8 only if ended; a pending byte only if decoding, not ended, written below read.
unfoldable pub base_valid_run : Run → Bool
base_valid_run run =
    every
    (not (eqb run.page 0)
    ∷ policy_allowed run.direction run.policy
    ∷ leb run.flags 15
    ∷ leb run.read read_limit
    ∷ leb run.written (most_written run.direction run.read)
    ∷ (ltb run.flags 8 || run.ended)
    ∷ base_if_pending run.pending (is_decoding run.direction && (not run.ended && ltb run.written run.read))
    ∷ [])

-- the pending byte as two capital hex digits, or `-`, in a `D` line and in an `E` line
unfoldable pub base_hex : Parser Pending
base_hex = do
  byte ← hex_pair
  succeed (Byte byte)

-- `-`, or two hex digits: a pending byte, whatever the line's letter
unfoldable pub base_pending : Parser Pending
base_pending = or_else (one (is_byte 0x2D Nothing)) base_hex

-- The fields in their order, with numbers of any size.
unfoldable pub base_fields : Parser Run
base_fields = do
  direction ← field letter
  page ← field number
  policy ← field three_digits
  pending ← field base_pending
  flags ← field number
  read ← field number
  written ← field number
  ended ← closing
  succeed
      (record {
        direction = direction;
        page = page;
        policy = policy;
        pending = pending;
        flags = flags;
        read = read;
        written = written;
        ended = ended;
      })

-- the fields' run, if the page is at most 65,535 and the run keeps the rules of then
unfoldable pub base_kept : Option (Parsed Run) → Option Run
base_kept none = none
base_kept (some r) = pick (leb r.value.page 65535 && base_valid_run r.value) (some r.value) none

-- The run of a line as it was read before CR 5, or none.
unfoldable pub base_run_of : List ℕ → Option Run
base_run_of line = base_kept (base_fields line)
