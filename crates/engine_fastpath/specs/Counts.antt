-- Definitions that the contracts of counting by runs cite, and that no promise does.
use Rattle.std.specs.Prelude.{true, List, ◌≡◌, ℕ, ◌+◌, ◌-◌, ◌≤◌, length, drop}
use Rattle.std.proofs.Math.Option.{none}
use Rattle.codepage.specs.Reading.{Reader}
use Rattle.engine.specs.declared.Policy.{Policy}
use Rattle.engine.specs.Engine.{endless, after, converter, feed_from}

-- From index i to i' of a text codes were met that have characters and write n units: what counting gives from i on is what it
-- gives from i' on, with i' - i more read and n more written.
pub record Met (R : Reader) (text : List ℕ) (i i' n : ℕ) : Type 0 where
  pub ahead : i ≤ i'
  pub inside : i' ≤ length text
  pub little : n ≤ (i' - i) + (i' - i)
  pub ys : List ℕ
  pub count : length ys ≡ n
  pub goes : (policy : Policy) (default : ℕ)
      → feed_from (converter R policy default) true endless none (drop i text) ≡ after (i' - i) ys 0 (feed_from (converter R policy default) true endless none (drop i' text))
