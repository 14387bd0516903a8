-- A code of decoding, as the loop meets it.
use mathlib.Core.Bool.{Bool, true, false}
use mathlib.Core.List.{List, [], ◌∷◌}
use mathlib.Core.Path.{◌≡◌, ap, ◌∙◌}
use Prim.Native.Nat.{ℕ, zero, suc, ◌+◌, ◌*◌, ◌<◌, ◌≤◌}
use native.Mathlib.Omega.{arith}
use lib.ListN.{length, set}
use borrow.Author.Tests.{eq-eqb, ne_eqb}
use Rattle.codepage.specs.CodePage.{entry_at, is_lead}
use Rattle.codepage.specs.Reading.{byte_alone, unit_of, decoder, settled}
use Rattle.codepage.specs.Reading.{Lookup}
use Rattle.codepage_lookup.specs.declared.SettledCode.{SettledCode}
use Rattle.codepage_lookup.specs.Profile.{SettledAs}
use Rattle.engine.specs.declared.Policy.{Policy}
use Rattle.engine.specs.declared.policies.CodeEffect.{CodeEffect}
use Rattle.engine.specs.declared.progress.Progress.{Progress}
use Rattle.engine.specs.Engine.{effect_of, converter}
use Rattle.engine.specs.Steps.{unit_effect, stopped_by, full_at, taken_by, Took, does_alone, does_settled}
use Rattle.engine.proofs.SettledLaws.{settled_does}
use Rattle.engine.proofs.LoopLaws.{took_stop, took_lacks, took_none, took_writes}

-- ---- the four ways of a code
module _ (d : CodeEffect) (n : ℕ) (s : Progress) (out : List ℕ) (h : s.written ≤ length out) where
  -- it stops the call: its units are read, and nothing is written
  pub units_stop : d.stops ≡ true → Took (unit_effect d) n s out (stopped_by d.flag n s) out
  unfolding unit_effect
  units_stop e = took_stop (unit_effect d) n s out h e

  -- it writes nothing, so it needs no room
  pub units_none : d.stops ≡ false → d.count ≡ 0 → Took (unit_effect d) n s out (taken_by d.flag n s 0) out
  unfolding unit_effect
  units_none e c = took_none (unit_effect d) n s out h e (rw (eq-eqb _ _ c))

  -- it writes a unit, and there is room
  pub units_one : d.stops ≡ false → (d.count ≡ 0 → ⊥) → s.written < length out → Took (unit_effect d) n s out (taken_by d.flag n s 1) (set out s.written d.value)
  unfolding unit_effect
  units_one e c f = took_writes (unit_effect d) n s out h (d.value ∷ []) e (rw (ne_eqb _ _ c)) (omega arith)

  -- it would write a unit, and no room is left
  pub units_full : d.stops ≡ false → (d.count ≡ 0 → ⊥) → length out ≤ s.written → Took (unit_effect d) n s out (full_at s) out
  unfolding unit_effect
  units_full e c f = took_lacks (unit_effect d) n s out h (d.value ∷ []) e (rw (ne_eqb _ _ c)) (omega arith)

-- the effects of the converter
module _ (classes singles pairs : List ℕ) (policy : Policy) (default : ℕ) (d : CodeEffect) (found : Lookup) where
  -- what the policy gives for a byte alone, as it was looked up, is what the converter does with it
  pub decoded_one : (byte : ℕ) → found ≡ byte_alone classes singles byte → unit_effect d ≡ effect_of unit_of policy default byte found
      → unit_effect d ≡ does_alone (converter (decoder classes singles pairs) policy default) byte
  unfolding converter decoder
  decoded_one byte e q = q ∙ ap (effect_of unit_of policy default byte) e

-- in decoding a byte waits exactly if it is a lead
pub decoder_waits : (classes singles pairs : List ℕ) (policy : Policy) (default byte : ℕ) (t : Bool) → is_lead (entry_at classes byte) ≡ t
    → (converter (decoder classes singles pairs) policy default).reader.waits byte ≡ t
unfolding converter decoder
decoder_waits classes singles pairs policy default byte t e = e

-- a byte that waits in decoding is a lead
pub decoder_lead : (classes singles pairs : List ℕ) (policy : Policy) (default byte : ℕ) → (converter (decoder classes singles pairs) policy default).reader.waits byte ≡ true
    → is_lead (entry_at classes byte) ≡ true
unfolding converter decoder
decoder_lead classes singles pairs policy default byte e = e

-- ---- a lead that waits, settled by the byte after it
pub decoded_settled : (classes singles pairs : List ℕ) (policy : Policy) (default lead byte : ℕ) {k : SettledCode} → SettledAs (settled (decoder classes singles pairs) lead byte) k → (d : CodeEffect)
    → unit_effect d ≡ effect_of unit_of policy default lead k.means → unit_effect d ≡ does_settled (converter (decoder classes singles pairs) policy default) lead byte
unfolding decoder
decoded_settled classes singles pairs policy default lead byte a d q = settled_does (decoder classes singles pairs) policy default lead byte a q
