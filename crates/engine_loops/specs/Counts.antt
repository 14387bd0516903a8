-- Definitions that the contracts of counting cite, and that no promise does.
use Rattle.std.specs.Prelude.{true, List, ◌≡◌, ℕ, ◌+◌, ◌^◌, ◌<◌, ◌≤◌, length, drop}
use Rattle.std.proofs.Math.Option.{none}
use Rattle.codepage.specs.CodePage.{pick}
use Rattle.engine.specs.declared.progress.Progress.{Progress}
use Rattle.engine.specs.Engine.{Effect, Converter, endless, after, feed_from}
use Rattle.engine.specs.Steps.{summary, optional, one_if, stopped_by, taken_by}
use Rattle.engine_loops.specs.declared.turns.Turn.{Turn}
use Rattle.engine_loops.specs.Turns.{steps_left}

-- the code k of n units is met after s: it comes to r
pub record Came (k : Effect) (n : ℕ) (s r : Progress) : Type 0 where
  pub to : r ≡ pick k.stops (stopped_by k.flag n s) (taken_by k.flag n s (length k.writes))
  pub short : length k.writes ≤ 2

-- Counting a text has come to t: `ys` is what the codes before it write.
pub record Counting (v : Converter) (text : List ℕ) (t : Turn) : Type 0 where
  pub inside : t.at ≤ length text
  pub short : length text < 2 ^ 63
  pub few : t.progress.used + one_if t.waits ≤ t.at
  pub little : t.progress.written ≤ t.progress.used + t.progress.used
  pub pending_waits : t.waits ≡ true → v.reader.waits t.first ≡ true
  pub zero_so_far : t.progress.answer ≡ 0
  pub ys : List ℕ
  pub count : length ys ≡ t.progress.written
  pub sum : feed_from v true endless none text ≡ after t.progress.used ys t.progress.flags (feed_from v true endless (optional t.waits t.first) (drop t.at text))

-- From t counting has come to r, or a code ended it there. A unit waits only at the text's end.
pub record CountTurn (v : Converter) (text : List ℕ) (t r : Turn) : Type 0 where
  pub left : steps_left text r ≤ steps_left text t
  pub last : r.waits ≡ true → length text ≤ r.at
  pub goes : r.progress.answer ≡ 0 → Counting v text r
  pub ends : (r.progress.answer ≡ 0 → ⊥) → r.progress ≡ summary (feed_from v true endless none text)
