-- Definitions that the contracts of the loops cite, and that no promise does: how the program's numbers stand for the effects
-- and feedings of Engine.
use Rattle.std.specs.Prelude.{Bool, true, false, List, [], ◌∷◌, ◌≡◌, ℕ, ◌+◌, ◌-◌, ◌/◌, ◌%◌, ◌≤◌, eqb, length, take, drop}
use Rattle.std.proofs.Math.Option.{Option, none, some}
use Rattle.codepage.specs.CodePage.{pick}
use Rattle.engine.specs.declared.policies.Action.{Action}
use Rattle.engine.specs.declared.policies.Action.TheVariants.{Stop, Skip, Write}
use Rattle.engine.specs.declared.policies.CodeEffect.{CodeEffect}
use Rattle.codepage.specs.Reading.{decoder, encoder, alone, together, settled}
use Rattle.engine.specs.declared.Policy.{Policy}
use Rattle.engine.specs.declared.progress.Progress.{Progress}
use Rattle.std.specs.Int.Bits.{bit_or}
use Rattle.engine.specs.Policies.{stopped_flag}
use Rattle.codepage.specs.Lent.{over}
use Rattle.engine.specs.Engine.{Effect, Converter, Fed, after, take_code, limit, converter, feed_from}

-- what a unit does that is a code by itself, two units that are one code, and a pending unit settled by the one after it
abbrev pub does_alone : Converter → ℕ → Effect
does_alone v a = v.does (alone v.reader a)

-- what two units do that are one code
abbrev pub does_together : Converter → ℕ → ℕ → Effect
does_together v a b = v.does (together v.reader a b)

-- what the code of a pending unit does, settled by the unit after it
abbrev pub does_settled : Converter → ℕ → ℕ → Effect
does_settled v a b = v.does (settled v.reader a b)

-- what an action does, in numbers
abbrev pub acted_as : ℕ → Action → CodeEffect
acted_as flag Stop = record { flag = flag; count = 0; value = 0; stops = true }
acted_as flag Skip = record { flag = flag; count = 0; value = 0; stops = false }
acted_as flag (Write value) = record { flag = flag; count = 1; value = value; stops = false }

-- the effect that the numbers stand for: in units, and in bytes
unfoldable pub unit_effect : CodeEffect → Effect
unit_effect d = record { flag = d.flag; writes = pick (eqb d.count 0) [] (d.value ∷ []); stops = d.stops }

-- the same in bytes: none, the value's low half, or its high half and then its low half
unfoldable pub byte_effect : CodeEffect → Effect
byte_effect d =
    record {
      flag = d.flag;
      writes = pick (eqb d.count 0) [] (pick (eqb d.count 1) (d.value % 256 ∷ []) (d.value / 256 ∷ d.value % 256 ∷ []));
      stops = d.stops;
    }

-- what a feeding gives, in numbers
unfoldable pub summary : Fed → Progress
summary f = record { answer = f.answer; used = f.used; written = length f.output; flags = f.flags }

-- what a call has given so far, with `rest` for what is to come; and what it gives where it ends there
unfoldable pub sofar : Progress → List ℕ → Fed → Fed
sofar s out rest = after s.used (take s.written out) s.flags rest

-- what a call gives that ends at this progress: its output is the front of the lent one
unfoldable pub ended : Progress → List ℕ → Fed
ended s out = record { answer = s.answer; used = s.used; output = take s.written out; flags = s.flags }

-- the progress after a code with a flag that stops, one that does not fit, and one that was taken
abbrev pub stopped_by : (flag size : ℕ) → Progress → Progress
stopped_by flag size s = record { answer = 3; used = s.used + size; written = s.written; flags = bit_or s.flags (bit_or flag stopped_flag) }

-- the next code does not fit: nothing of it is read or written
abbrev pub full_at : Progress → Progress
full_at s = record { answer = 2; used = s.used; written = s.written; flags = s.flags }

-- a code of `size` units was taken that set a flag and wrote `count`
abbrev pub taken_by : (flag size : ℕ) → Progress → (count : ℕ) → Progress
taken_by flag size s count = record { answer = 0; used = s.used + size; written = s.written + count; flags = bit_or s.flags flag }

-- the progress after codes of some units were taken that set no flags
abbrev pub moved_to : Progress → (size written : ℕ) → Progress
moved_to s size written = record { answer = 0; used = s.used + size; written = written; flags = s.flags }

-- The code k of n units is met after s, and r and out' are what is left: r answers 0 and goes on, or it ends the call.
pub record Took (k : Effect) (n : ℕ) (s : Progress) (out : List ℕ) (r : Progress) (out' : List ℕ) : Type 0 where
  pub same : length out' ≡ length out
  pub within : r.written ≤ length out'
  pub grows : s.written ≤ r.written
  pub kept : drop r.written out' ≡ drop r.written out
  pub more : r.answer ≡ 0 → (r.written ≡ s.written + length k.writes) × (r.used ≡ s.used + n)
  pub goes : r.answer ≡ 0 → (rest : Fed) → sofar s out (take_code (limit (length out - s.written)) n k rest) ≡ sofar r out' rest
  pub ends : (r.answer ≡ 0 → ⊥) → (rest : Fed) → sofar s out (take_code (limit (length out - s.written)) n k rest) ≡ ended r out'

-- the call's result is F's, and its output is laid over what was there
pub record Ends (F : Fed) (out₀ out : List ℕ) (r : Progress) : Type 0 where
  pub result : r ≡ summary F
  pub laid : out ≡ over out₀ F.output
  pub same : length out ≡ length out₀

-- a pending unit as a flag and a number; and how many units that is
abbrev pub optional : Bool → ℕ → Option ℕ
optional true a = some a
optional false a = none

-- how many units are pending, by that flag
abbrev pub one_if : Bool → ℕ
one_if true = 1
one_if false = 0

-- what one call of a loop gives
abbrev pub decode_fed : (classes singles pairs : List ℕ) → Policy → (default : ℕ) → (last : Bool) → (room : ℕ) → Option ℕ → List ℕ → Fed
decode_fed classes singles pairs policy default last room pending piece = feed_from (converter (decoder classes singles pairs) policy default) last (limit room) pending piece

-- the same of encoding
abbrev pub encode_fed : (index blocks : List ℕ) → Policy → (default : ℕ) → (last : Bool) → (room : ℕ) → Option ℕ → List ℕ → Fed
encode_fed index blocks policy default last room pending piece = feed_from (converter (encoder index blocks) policy default) last (limit room) pending piece
