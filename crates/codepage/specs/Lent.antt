-- Document 01, "One call of a run": what a lent slice holds after a call. Beyond what was written it is as before.
-- docs/RULES.md, "A call of a run".
use Rattle.std.specs.Prelude.{List, ◌++◌, ℕ, length, drop}

-- what was written, and behind it what was there before
unfoldable pub over : (before written : List ℕ) → List ℕ
over before written = written ++ drop (length written) before
