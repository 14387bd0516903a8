-- How many codes a run under 555 replaces, by what it writes and what a run under 111 does.
use mathlib.Core.Bool.{false}
use mathlib.Core.List.{List, [], ◌∷◌}
use mathlib.Core.Option.{none}
use mathlib.Core.Path.{◌≡◌, refl}
use Prim.Native.Nat.{ℕ, ◌+◌}
use native.Mathlib.Omega.{arith}
use lib.ListN.{length, length-append}
use Rattle.codepage.specs.Reading.{Reader, Code, codes}
use Rattle.codepage.specs.declared.Kind.TheVariants.{UndefinedSingle, UndefinedPair, Invalid}
use Rattle.codepage.specs.Reading.{Lookup}
use Rattle.std.specs.Prelude.{Ok, Err}
use Rattle.engine.specs.Policies.{action_of, replacing, skipping}
use Rattle.engine.specs.Engine.{Effect, effect_of, converter, endless, fits, room_left, Fed, halt, after, take_when, take_code, take_codes, whole, lacks, lacking_in}

-- One code: what it does under 555 and under 111.
record Replaced (found : Lookup) (k m : Effect) : Type 0 where
  goes : k.stops ≡ false
  skips : m.stops ≡ false
  size : length k.writes ≡ lacks found + length m.writes

module _ (r : Reader) (default : ℕ) where
  replaced_one : (first : ℕ) (found : Lookup) → Replaced found (effect_of r.writes replacing default first found) (effect_of r.writes skipping default first found)
  unfolding effect_of action_of
  replaced_one first (Ok value) = record { goes = refl; skips = refl; size = omega arith }
  replaced_one first (Err UndefinedSingle) = record { goes = refl; skips = refl; size = refl }
  replaced_one first (Err UndefinedPair) = record { goes = refl; skips = refl; size = refl }
  replaced_one first (Err Invalid) = record { goes = refl; skips = refl; size = refl }

  -- a code that does not stop, with endless room: what it writes comes before what the rest does
  take_size : (n : ℕ) (k : Effect) (f : Fed) → k.stops ≡ false → length (take_code endless n k f).output ≡ length k.writes + length f.output
  unfolding take_code take_when fits after
  take_size n k f q = rw q (length-append k.writes f.output)

  replaced_take : (n rest : ℕ) (found : Lookup) (k m : Effect) (f g : Fed) → Replaced found k m → length f.output ≡ rest + length g.output
      → length (take_code endless n k f).output ≡ lacks found + rest + length (take_code endless n m g).output
  replaced_take n rest found k m f g one h = omega (arith, take_size n k f one.goes, take_size n m g one.skips, one.size, h)

  replaced_codes : (ks : List Code) → length (take_codes (converter r replacing default) endless ks none).output
      ≡ lacking_in ks + length (take_codes (converter r skipping default) endless ks none).output
  unfolding take_codes converter lacking_in halt room_left
  replaced_codes [] = refl
  replaced_codes (k ∷ ks) = replaced_take _ (lacking_in ks) k.means _ _ _ _ (replaced_one k.first k.means) (replaced_codes ks)

  -- A TEXT GIVES AS MANY UNITS MORE UNDER 555 THAN UNDER 111 AS IT HAS CODES WITHOUT A CHARACTER.
  pub replaced_are_more : (text : List ℕ) → length (whole r replacing default text).output ≡ lacking_in (codes r text) + length (whole r skipping default text).output
  unfolding whole
  replaced_are_more text = replaced_codes (codes r text)
