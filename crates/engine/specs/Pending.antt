-- A pending unit, as the program has it, and as the engine's definitions do.
use Rattle.std.specs.Prelude.{ℕ, Option, Some, None}
use Rattle.std.proofs.Math.Option.{none, some}
use Rattle.std.proofs.Math.Option as math

-- the pending unit or none
abbrev pub waiting : Option ℕ → math.Option ℕ
waiting None = none
waiting (Some a) = some a
