-- Definitions that the contracts of the loops' turns cite, and that no promise does.
use Rattle.std.specs.Prelude.{Bool, true, false, Option, Some, None, List, [], ◌≡◌, ℕ, ◌+◌, ◌-◌, ◌<◌, ◌≤◌, length, drop}
use Rattle.engine.specs.declared.progress.Progress.{Progress}
use Rattle.engine.specs.Engine.{Converter, Fed, limit, feed_from}
use Rattle.engine.specs.Steps.{sofar, ended, moved_to, optional, one_if}
use Rattle.engine_loops.specs.declared.turns.Turn.{Turn}

-- ---- where a turn comes to

-- the beginning of a call: nothing is read, and the unit that is pending waits
abbrev pub start_turn : (waits : Bool) → (first : ℕ) → Turn
start_turn waits first = record { progress = record { answer = 0; used = 0; written = 0; flags = 0 }; at = 0; waits = waits; first = first }

-- the first turn of a call, by what is pending
abbrev pub first_turn : Option ℕ → Turn
first_turn None = start_turn false 0
first_turn (Some first) = start_turn true first

-- past codes that have characters, up to an index of the piece and a place of the output
abbrev pub moved_turn : Turn → (at written : ℕ) → Turn
moved_turn t at written = record { progress = moved_to t.progress (at - t.at) written; at = at; waits = false; first = t.first }

-- past a code that ends some units on: none waits
abbrev pub past_turn : Turn → (count : ℕ) → Progress → Turn
past_turn t count s = record { progress = s; at = t.at + count; waits = false; first = t.first }

-- past one more unit, which waits
abbrev pub wait_turn : Turn → (first : ℕ) → Turn
wait_turn t first = record { progress = t.progress; at = t.at + 1; waits = true; first = first }

-- the unit that waits stays pending
abbrev pub stays_pending : Progress → Progress
stays_pending s = record { answer = 1; used = s.used; written = s.written; flags = s.flags }

-- ---- what a turn keeps

-- the most turns that are left: one reads a unit, and one settles it if it waits
abbrev pub steps_left : (piece : List ℕ) → Turn → ℕ
steps_left piece t = (length piece - t.at) + (length piece - t.at) + one_if t.waits

-- A turn that a loop can go on from: the call has not ended, and the turn is within the piece and the output.
pub record Ready (piece out : List ℕ) (t : Turn) : Type 0 where
  pub going : t.progress.answer ≡ 0
  pub inside : t.at ≤ length piece
  pub within : t.progress.written ≤ length out
  pub few : t.progress.used + one_if t.waits ≤ t.at + t.at + 1

-- what a call gives that has come to t, with the units `rest` to come
unfoldable pub rest_of : Converter → (last : Bool) → (out : List ℕ) → Turn → (rest : List ℕ) → Fed
rest_of v last out t rest = sofar t.progress out (feed_from v last (limit (length out - t.progress.written)) (optional t.waits t.first) rest)

-- From t codes of a piece were taken up to r, or one ended the call there: whatever else the call has to take.
pub record Turned (v : Converter) (piece out : List ℕ) (t : Turn) (out' : List ℕ) (r : Turn) : Type 0 where
  pub same : length out' ≡ length out
  pub within : r.progress.written ≤ length out'
  pub grows : t.progress.written ≤ r.progress.written
  pub kept : drop r.progress.written out' ≡ drop r.progress.written out
  pub left : steps_left piece r ≤ steps_left piece t
  pub ready : r.progress.answer ≡ 0 → Ready piece out t → Ready piece out' r
  pub pending_waits : r.waits ≡ true → v.reader.waits r.first ≡ true
  pub goes : r.progress.answer ≡ 0 → (last : Bool) → rest_of v last out t (drop t.at piece) ≡ rest_of v last out' r (drop r.at piece)
  pub ends : (r.progress.answer ≡ 0 → ⊥) → (last : Bool) → rest_of v last out t (drop t.at piece) ≡ ended r.progress out'

-- A turn of a loop: it comes nearer to its end.
pub record Advanced (v : Converter) (piece out : List ℕ) (t : Turn) (out' : List ℕ) (r : Turn) : Type 0 where
  pub turned : Turned v piece out t out' r
  pub falls : steps_left piece r < steps_left piece t

-- A unit that waits is settled, or none waits and nothing was done.
pub record Settled (v : Converter) (piece out : List ℕ) (t : Turn) (out' : List ℕ) (r : Turn) : Type 0 where
  pub turned : Turned v piece out t out' r
  pub none_waits : r.waits ≡ false
  pub as_before : t.waits ≡ false → r ≡ t
  pub falls : t.waits ≡ true → steps_left piece r < steps_left piece t

-- At the end of a piece the call has come to t: r is what it answers.
pub record Closed (v : Converter) (last : Bool) (out : List ℕ) (t : Turn) (out' : List ℕ) (r : Progress) : Type 0 where
  pub same : length out' ≡ length out
  pub within : r.written ≤ length out'
  pub grows : t.progress.written ≤ r.written
  pub kept : drop r.written out' ≡ drop r.written out
  pub gives : rest_of v last out t [] ≡ ended r out'

-- F is what the whole call gives, and t and out what it has come to.
pub record Loop (v : Converter) (last : Bool) (F : Fed) (out₀ piece out : List ℕ) (t : Turn) : Type 0 where
  pub ready : Ready piece out t
  pub pending_waits : t.waits ≡ true → v.reader.waits t.first ≡ true
  pub sum : F ≡ rest_of v last out t (drop t.at piece)
  pub same : length out ≡ length out₀
  pub kept : drop t.progress.written out ≡ drop t.progress.written out₀
