-- A pending unit, settled by the one after it, over any reader: what the program looked up is what the code does.
use mathlib.Core.Path.{◌≡◌, sym, ap, ◌∙◌}
use Prim.Native.Nat.{ℕ, ◌≤◌}
use native.Mathlib.Omega.{arith}
use lib.ListN.{length}
use Rattle.codepage.specs.Reading.{Reader, settled}
use Rattle.codepage.proofs.ReadingLaws.{settled_first, more_le}
use Rattle.codepage_lookup.specs.declared.SettledCode.{SettledCode}
use Rattle.codepage_lookup.specs.Profile.{SettledAs}
use Rattle.engine.specs.declared.Policy.{Policy}
use Rattle.engine.specs.Engine.{Effect, effect_of, converter}
use Rattle.engine.specs.Steps.{does_settled}

-- the code takes at most one unit after the first
pub settled_more : (r : Reader) (c b : ℕ) {k : SettledCode} → SettledAs (settled r c b) k → k.more ≤ 1
settled_more r c b a = omega (arith, a.more, more_le r c b)

module _ (r : Reader) (policy : Policy) (default c b : ℕ) {k : SettledCode} (a : SettledAs (settled r c b) k) where
  -- what the policy gives for what was looked up is what the converter does with the code
  pub settled_does : {e : Effect} → e ≡ effect_of r.writes policy default c k.means → e ≡ does_settled (converter r policy default) c b
  unfolding converter
  settled_does q =
      q ∙ ap (effect_of r.writes policy default c) a.means
      ∙ ap (λ (first : ℕ). effect_of r.writes policy default first (settled r c b).means) (sym (settled_first r c b))

  -- what was looked up takes as many units as the code
  pub settled_size : k.more ≡ length (settled (converter r policy default).reader c b).more
  unfolding converter
  settled_size = a.more
