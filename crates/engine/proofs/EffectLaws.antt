-- The program's numbers stand for the effects of the rules.
use mathlib.Core.Bool.{true, false}
use mathlib.Core.Path.{◌≡◌, refl, ap, ◌∙◌}
use Prim.Native.Nat.{ℕ, zero, suc, ◌%◌, ◌<◌, ◌≤◌}
use native.Mathlib.Omega.{arith}
use lib.Dec.{leb}
use borrow.Author.Tests.{leb-true, le-leb, lt-leb}
use Rattle.codepage.specs.Reading.{unit_of, bytes_of}
use Rattle.codepage.specs.declared.Kind.{Kind}
use Rattle.codepage.specs.declared.Kind.TheVariants.{UndefinedSingle, UndefinedPair, Invalid}
use Rattle.std.specs.Prelude.{Ok, Err}
use Rattle.codepage.proofs.ShapeLaws.{and_left, and_right}
use Rattle.engine.specs.declared.Direction.TheVariants.{Encoding}
use Rattle.engine.specs.declared.Policy.{Policy}
use Rattle.engine.specs.declared.policies.Action.{Action}
use Rattle.engine.specs.declared.policies.Action.TheVariants.{Stop, Skip, Write}
use Rattle.engine.specs.declared.policies.CodeEffect.{CodeEffect}
use Rattle.engine.specs.Policies.{digit_of, flag_of, action_of, policy_allowed}
use Rattle.engine.specs.Engine.{acted, effect_of}
use Rattle.engine.specs.Steps.{acted_as, unit_effect, byte_effect}

unit_acted : (flag : ℕ) (action : Action) → unit_effect (acted_as flag action) ≡ acted flag action
unfolding unit_effect
unit_acted flag Stop = refl
unit_acted flag Skip = refl
unit_acted flag (Write value) = refl

-- decoding: what a digit does about a code without a character, in numbers
pub unit_lacking : (policy : Policy) (default byte : ℕ) (kind : Kind) (d : CodeEffect) → d ≡ acted_as (flag_of kind) (action_of (digit_of policy kind) default byte)
    → unit_effect d ≡ effect_of unit_of policy default byte (Err kind)
unfolding effect_of
unit_lacking policy default byte kind d e = ap unit_effect e ∙ unit_acted (flag_of kind) (action_of (digit_of policy kind) default byte)

-- a digit up to 5 writes a byte, whatever the unit
byte_acted : (digit default unit flag : ℕ) → digit ≤ 5 → default < 256 → byte_effect (acted_as flag (action_of digit default 0)) ≡ acted flag (action_of digit default unit)
unfolding byte_effect action_of
byte_acted zero default unit flag h d = refl
byte_acted (suc zero) default unit flag h d = refl
byte_acted (suc (suc zero)) default unit flag h d = refl
byte_acted (suc (suc (suc zero))) default unit flag h d = refl
byte_acted (suc (suc (suc (suc zero)))) default unit flag h d = refl
byte_acted (suc (suc (suc (suc (suc zero))))) default unit flag h d =
    let e : default % 256 ≡ default = omega arith in
    rw e
byte_acted (suc (suc (suc (suc (suc (suc n)))))) default unit flag h d = absurd (omega arith)

digit_low : (policy : Policy) (kind : Kind) → policy_allowed Encoding policy ≡ true → digit_of policy kind ≤ 5
unfolding policy_allowed
digit_low policy UndefinedSingle h = leb-true _ _ (and_left (leb policy.single 5) _ h)
digit_low policy UndefinedPair h = leb-true _ _ (and_left (leb policy.pair 5) _ (and_right (leb policy.single 5) _ h))
digit_low policy Invalid h = leb-true _ _ (and_right (leb policy.pair 5) _ (and_right (leb policy.single 5) _ h))

-- encoding: the same, under digits that are allowed there
pub byte_lacking : (policy : Policy) (default unit : ℕ) (kind : Kind) → policy_allowed Encoding policy ≡ true → default < 256
    → byte_effect (acted_as (flag_of kind) (action_of (digit_of policy kind) default 0)) ≡ effect_of bytes_of policy default unit (Err kind)
unfolding effect_of
byte_lacking policy default unit kind h d = byte_acted (digit_of policy kind) default unit (flag_of kind) (digit_low policy kind h) d

-- a unit whose code is up to 00FF writes one byte
pub byte_one : (policy : Policy) (default unit code : ℕ) → code ≤ 0xFF
    → byte_effect (record { flag = 0; count = 1; value = code; stops = false }) ≡ effect_of bytes_of policy default unit (Ok code)
unfolding byte_effect effect_of bytes_of
byte_one policy default unit code h =
    let e : code % 256 ≡ code = omega arith in
    rw (e, le-leb code 0xFF h)

-- a unit whose code is larger writes two bytes
pub byte_two : (policy : Policy) (default unit code : ℕ) → 0xFF < code
    → byte_effect (record { flag = 0; count = 2; value = code; stops = false }) ≡ effect_of bytes_of policy default unit (Ok code)
unfolding byte_effect effect_of bytes_of
byte_two policy default unit code h = rw (lt-leb code 0xFF h)
