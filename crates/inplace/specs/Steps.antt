-- Definitions that the private functions' contracts cite, and that no promise does.
use Rattle.std.specs.Prelude.{true, List, ◌≡◌, ℕ, ◌+◌, ◌*◌, ◌<◌, ◌≤◌, eqb, length, drop}
use Rattle.std.specs.Int.Bits.{bit_or}
use Rattle.codepage.specs.CodePage.{pick}
use Rattle.utf16.specs.Utf16.{utf16_units}
use Rattle.engine.specs.declared.progress.Progress.{Progress}
use Rattle.engine.specs.Engine.{Converter, endless, feed}
use Rattle.engine.specs.Steps.{sofar, Ends}
use Rattle.inplace.specs.declared.Encoded.{Encoded}
use Rattle.inplace.specs.declared.Ending.TheVariants.{All, Stopped}

-- the answer, from the numbers of the reading
abbrev pub answered : Progress → Encoded
answered s = record { ending = pick (eqb s.answer 3) Stopped All; flags = s.flags; read = s.used; written = s.written }

-- what a chunk gave, behind what was before it: a stop ends the call, and a unit that stays pending is not read yet
abbrev pub chunk_added : (s made : Progress) → Progress
chunk_added s made =
    record { answer = pick (eqb made.answer 3) 3 0; used = s.used + made.used; written = s.written + made.written; flags = bit_or s.flags made.flags }

-- The call has come to s: `before` is the buffer at its beginning, `buffer` what it holds now. What was written has not reached what is
-- still to be read (`behind`), and from there on the buffer is as it was (`kept`).
pub record PartDone (v : Converter) (before : List ℕ) (s : Progress) (buffer : List ℕ) : Type 0 where
  pub going : s.answer ≡ 0
  pub inside : s.used ≤ length (utf16_units before)
  pub behind : s.written ≤ 2 * s.used
  pub same : length buffer ≡ length before
  pub kept : drop s.written buffer ≡ drop s.written before
  pub sum : feed v true endless (utf16_units before) ≡ sofar s buffer (feed v true endless (drop s.used (utf16_units before)))

-- From s a chunk was taken up to r, or it stopped the call there.
pub record ChunkDone (v : Converter) (before : List ℕ) (s : Progress) (buffer : List ℕ) (r : Progress) : Type 0 where
  pub further : s.used < r.used
  pub goes : r.answer ≡ 0 → PartDone v before r buffer
  pub ends : (r.answer ≡ 0 → ⊥) → Ends (feed v true endless (utf16_units before)) before buffer r
