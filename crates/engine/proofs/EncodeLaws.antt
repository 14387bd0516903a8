-- A code of encoding, as the loop meets it.
use mathlib.Core.Bool.{Bool, true, false}
use mathlib.Core.List.{List, [], ◌∷◌}
use mathlib.Core.Path.{◌≡◌, ap, ◌∙◌}
use Prim.Native.Nat.{ℕ, ◌+◌, ◌-◌, ◌/◌, ◌%◌, ◌<◌, ◌≤◌}
use native.Mathlib.Numerals.{add-one}
use native.Mathlib.Omega.{arith}
use lib.ListN.{length, set}
use borrow.Author.Tests.{eq-eqb, ne_eqb}
use Rattle.codepage.specs.Reading.{is_high, unit_alone, bytes_of, encoder, settled}
use Rattle.codepage.specs.Reading.{Lookup}
use Rattle.codepage_lookup.specs.declared.SettledCode.{SettledCode}
use Rattle.codepage_lookup.specs.Profile.{SettledAs}
use Rattle.engine.specs.declared.Policy.{Policy}
use Rattle.engine.specs.declared.policies.CodeEffect.{CodeEffect}
use Rattle.engine.specs.declared.progress.Progress.{Progress}
use Rattle.engine.specs.Engine.{effect_of, converter}
use Rattle.engine.specs.Steps.{byte_effect, stopped_by, full_at, taken_by, Took, does_alone, does_settled}
use Rattle.engine.proofs.SettledLaws.{settled_does}
use Rattle.engine.proofs.LoopLaws.{took_stop, took_lacks, took_none, took_writes}

-- ---- the six ways of a code
module _ (d : CodeEffect) (n : ℕ) (s : Progress) (out : List ℕ) (h : s.written ≤ length out) where
  -- it stops the call: its units are read, and nothing is written
  pub bytes_stop : d.stops ≡ true → Took (byte_effect d) n s out (stopped_by d.flag n s) out
  unfolding byte_effect
  bytes_stop e = took_stop (byte_effect d) n s out h e

  -- it writes nothing, so it needs no room
  pub bytes_none : d.stops ≡ false → d.count ≡ 0 → Took (byte_effect d) n s out (taken_by d.flag n s 0) out
  unfolding byte_effect
  bytes_none e c = took_none (byte_effect d) n s out h e (rw (eq-eqb _ _ c))

  module _ (e : d.stops ≡ false) (z : d.count ≡ 0 → ⊥) where
    -- it writes one byte, and there is room
    pub bytes_one : d.count ≡ 1 → s.written < length out → Took (byte_effect d) n s out (taken_by d.flag n s 1) (set out s.written (d.value % 256))
    unfolding byte_effect
    bytes_one c f = took_writes (byte_effect d) n s out h (d.value % 256 ∷ []) e (rw (ne_eqb _ _ z, eq-eqb _ _ c)) (omega arith)

    -- it would write one byte, and no room is left
    pub bytes_one_full : d.count ≡ 1 → length out ≤ s.written → Took (byte_effect d) n s out (full_at s) out
    unfolding byte_effect
    bytes_one_full c f = took_lacks (byte_effect d) n s out h (d.value % 256 ∷ []) e (rw (ne_eqb _ _ z, eq-eqb _ _ c)) (omega arith)

    -- it writes two bytes, the high half and then the low half, and there is room
    pub bytes_two : (d.count ≡ 1 → ⊥) → 2 ≤ length out - s.written
        → Took (byte_effect d) n s out (taken_by d.flag n s 2) (set (set out s.written (d.value / 256)) (s.written + 1) (d.value % 256))
    unfolding byte_effect
    bytes_two c f = rw (add-one s.written) (took_writes (byte_effect d) n s out h (d.value / 256 ∷ d.value % 256 ∷ []) e (rw (ne_eqb _ _ z, ne_eqb _ _ c)) (omega arith))

    -- it would write two bytes, and there is room for less
    pub bytes_two_full : (d.count ≡ 1 → ⊥) → length out - s.written < 2 → Took (byte_effect d) n s out (full_at s) out
    unfolding byte_effect
    bytes_two_full c f = took_lacks (byte_effect d) n s out h (d.value / 256 ∷ d.value % 256 ∷ []) e (rw (ne_eqb _ _ z, ne_eqb _ _ c)) (omega arith)

-- the effects of the converter
pub encoded_one : (index blocks : List ℕ) (policy : Policy) (default unit : ℕ) (d : CodeEffect) (found : Lookup) → found ≡ unit_alone index blocks unit
    → byte_effect d ≡ effect_of bytes_of policy default unit found → byte_effect d ≡ does_alone (converter (encoder index blocks) policy default) unit
unfolding converter encoder
encoded_one index blocks policy default unit d found e q = q ∙ ap (effect_of bytes_of policy default unit) e

-- in encoding a unit waits exactly if it is a high surrogate
pub encoder_waits : (index blocks : List ℕ) (policy : Policy) (default unit : ℕ) (t : Bool) → is_high unit ≡ t → (converter (encoder index blocks) policy default).reader.waits unit ≡ t
unfolding converter encoder
encoder_waits index blocks policy default unit t e = e

-- a unit that waits in encoding is a high surrogate
pub encoder_high : (index blocks : List ℕ) (policy : Policy) (default unit : ℕ) → (converter (encoder index blocks) policy default).reader.waits unit ≡ true → is_high unit ≡ true
unfolding converter encoder
encoder_high index blocks policy default unit e = e

-- ---- a high surrogate that waits, settled by the unit after it
pub encoded_settled : (index blocks : List ℕ) (policy : Policy) (default high unit : ℕ) {k : SettledCode} → SettledAs (settled (encoder index blocks) high unit) k → (d : CodeEffect)
    → byte_effect d ≡ effect_of bytes_of policy default high k.means → byte_effect d ≡ does_settled (converter (encoder index blocks) policy default) high unit
unfolding encoder
encoded_settled index blocks policy default high unit a d q = settled_does (encoder index blocks) policy default high unit a q
