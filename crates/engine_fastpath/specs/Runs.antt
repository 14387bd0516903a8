-- Definitions that the contracts of the fast paths cite, and that no promise does.
use Rattle.std.specs.Prelude.{Bool, true, false, List, ◌≡◌, ℕ, ◌+◌, ◌-◌, ◌<◌, ◌≤◌, length, take, drop}
use Rattle.std.proofs.Math.Option.{none}
use Rattle.codepage.specs.CodePage.{entry_at}
use Rattle.codepage.specs.Reading.{Reader, decoder}
use Rattle.engine.specs.declared.Policy.{Policy}
use Rattle.engine.specs.declared.progress.Progress.{Progress}
use Rattle.codepage.specs.Lent.{over}
use Rattle.codepage_lookup.specs.Profile.{ClearPage}
use Rattle.engine.specs.Engine.{Fed, limit, converter, feed_from}
use Rattle.engine.specs.Steps.{sofar, moved_to}

-- every number of a list is below a bound
abbrev pub EachBelow : ℕ → List ℕ → Type 0
EachBelow bound xs = (k : ℕ) → k < length xs → entry_at xs k < bound

-- the first i units of a piece are copied to the front of an output; beyond them it is as before
pub record Copied (piece before out : List ℕ) (i : ℕ) : Type 0 where
  pub same : length out ≡ length before
  pub front : take i out ≡ take i piece
  pub back : drop i out ≡ drop i before

-- what feeding gives where each unit of a piece is written as it is
abbrev pub all_taken : List ℕ → Fed
all_taken piece = record { answer = 0; used = length piece; output = piece; flags = 0 }

-- the whole piece is taken and copied, or nothing is changed
pub record Plain (R : Reader) (piece out : List ℕ) (copied : Bool) (out' : List ℕ) : Type 0 where
  pub fed : copied ≡ true → (policy : Policy) (default : ℕ) (last : Bool) → feed_from (converter R policy default) last (limit (length out)) none piece ≡ all_taken piece
  pub laid : copied ≡ true → out' ≡ over out piece
  pub left : copied ≡ false → out' ≡ out
  pub same : length out' ≡ length out

-- From index i of a piece and place w of an output to i' and w' codes were taken that have characters: what a call that is there
-- gives is what it gives from i' and w' on.
pub record Ran (R : Reader) (piece out : List ℕ) (i w : ℕ) (out' : List ℕ) (i' w' : ℕ) : Type 0 where
  pub same : length out' ≡ length out
  pub within : w' ≤ length out'
  pub grows : w ≤ w'
  pub ahead : i ≤ i'
  pub inside : i' ≤ length piece
  pub kept : drop w' out' ≡ drop w' out
  pub goes : (policy : Policy) (default : ℕ) (last : Bool) (s : Progress) → s.written ≡ w
      → sofar s out (feed_from (converter R policy default) last (limit (length out - w)) none (drop i piece))
      ≡ sofar (moved_to s (i' - i) w') out' (feed_from (converter R policy default) last (limit (length out' - w')) none (drop i' piece))

-- k bytes alone were taken, whatever the classes and pairs of the page, where its singles alone tell which bytes have a character
pub record SinglesTaken (singles piece out : List ℕ) (from at : ℕ) (out' : List ℕ) (k : ℕ) : Type 0 where
  pub same : length out' ≡ length out
  pub ran : (classes pairs : List ℕ) → ClearPage classes singles → Ran (decoder classes singles pairs) piece out from at out' (from + k) (at + k)
