use Rattle.codepage.specs.CodePage.{entry_at, is_single}
use Rattle.codepage.specs.Reading.{decoder}
use mathlib.Core.Bool.{true}
use mathlib.Core.List.{List}
use mathlib.Core.Path.{◌≡◌}
use Prim.Native.Nat.{ℕ, ◌+◌, ◌-◌, ◌<◌, ◌≤◌}
use Rattle.engine_fastpath.specs.Counts.{Met}
use Rattle.engine_fastpath.proofs.counted.met_singles.Given as goal

abbrev pub invariant-loop-k : goal.invariant-loop-k
invariant-loop-k l = (l.k ≤ l.n) × ((classes pairs : List ℕ) → ((byte : ℕ) → byte < 256 → is_single (entry_at classes byte) ≡ true) → Met (decoder classes l.tables.singles.now pairs) l.text l.from (l.from + l.k) l.k)
