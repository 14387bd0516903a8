-- What is known on the way that was found.
use Rattle.std.proofs.Common.{Option}
use mathlib.Core.List.{List}
use mathlib.Core.Path.{◌≡◌, subst}
use Prim.Native.Nat.{ℕ}
use Rattle.codepage_lookup.specs.declared.tables.ByteTables.{ByteTables}
use Rattle.engine_loops.specs.declared.decoder.Way.{Way}
use Rattle.engine_loops.specs.Ways.{OnWay, WayFound}

-- where the way is this one, what is known of this one
pub way_known : {tables : ByteTables} {piece out out' : List ℕ} {pending : Option ℕ} {way v : Way} → WayFound tables piece pending out way out' → way ≡ v → OnWay tables piece pending out out' v
way_known {tables = tables} {piece = piece} {out = out} {out' = out'} {pending = pending} w e = subst (λ (x : Way). OnWay tables piece pending out out' x) e w.known
