-- Definitions that the contracts of the loops cite, and that no promise does.
use Rattle.std.specs.Prelude.{true, Option, None, List, ◌≡◌, ℕ, length}
use Rattle.codepage_lookup.specs.declared.tables.ByteTables.{ByteTables}
use Rattle.codepage_lookup.specs.Tables.{byte_reader, OnlySingles}
use Rattle.engine_fastpath.specs.Runs.{Plain}
use Rattle.engine_loops.specs.declared.decoder.Way.{Way}
use Rattle.engine_loops.specs.declared.decoder.Way.TheVariants.{Copied, Singles, Codes}

-- what is known of each way: the piece was plain and is copied; the page has only singles; or nothing. The output is as before but for
-- the first.
abbrev pub OnWay : (tables : ByteTables) (piece : List ℕ) → (pending : Option ℕ) → (out out' : List ℕ) → Way → Type 0
OnWay tables piece pending out out' Copied = (pending ≡ None) × Plain (byte_reader tables) piece out true out'
OnWay tables piece pending out out' Singles = (pending ≡ None) × OnlySingles tables × (out' ≡ out)
OnWay tables piece pending out out' Codes = out' ≡ out

-- how a decoding call goes on
pub record WayFound (tables : ByteTables) (piece : List ℕ) (pending : Option ℕ) (out : List ℕ) (way : Way) (out' : List ℕ) : Type 0 where
  pub known : OnWay tables piece pending out out' way
  pub same : length out' ≡ length out
