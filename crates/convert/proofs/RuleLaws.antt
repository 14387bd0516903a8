-- The run rules and their propositions are one.
use mathlib.Core.Bool.{Bool, true, false, not, ◌||◌, false≢true}
use mathlib.Core.Logic.{◌↔◌}
use mathlib.Core.Path.{◌≡◌, refl, sym, ◌∙◌, subst}
use Prim.Native.Nat.{ℕ, ◌+◌, ◌*◌, ◌<◌, ◌≤◌}
use native.Mathlib.Omega.{arith}
use lib.Dec.{leb, ltb, eqb}
use borrow.Author.Tests.{eqb-true, eqb-false, leb-true, ltb-true, ltb-false, le-leb, lt-ltb, not-true}
use Rattle.codepage.specs.Reading.{is_high}
use Rattle.codepage.proofs.ShapeLaws.{and_left, and_right}
use Rattle.engine.specs.declared.Direction.{Direction}
use Rattle.engine.specs.declared.Direction.TheVariants.{Decoding, Encoding}
use Rattle.engine.specs.declared.Policy.{Policy}
use Rattle.engine.specs.Policies.{stopped_flag, highest_single, policy_allowed}
use Rattle.convert.specs.declared.Pending.{Pending}
use Rattle.convert.specs.declared.Pending.TheVariants.{Nothing, Byte, High}
use Rattle.convert.specs.declared.Run.{Run}
use Rattle.convert.specs.Runs.{is_decoding, is_encoding, pending_allowed, valid_run, RunRules, start_of}
use Rattle.convert.proofs.CallLaws.{valid_facts, valid_of}

-- ---- digits
-- the first digit is at most the highest of the direction, the other two at most 5
abbrev pub Digits : Direction → Policy → Type 0
Digits direction policy = (policy.single ≤ highest_single direction) × (policy.pair ≤ 5) × (policy.invalid ≤ 5)

-- A policy is allowed exactly if its three digits are within those of the direction.
pub digits_allowed : (direction : Direction) (policy : Policy) → (policy_allowed direction policy ≡ true) ↔ Digits direction policy
unfolding policy_allowed
digits_allowed direction policy = (
  λ e. let rest = and_right (leb policy.single (highest_single direction)) _ e in
      (leb-true _ _ (and_left (leb policy.single (highest_single direction)) _ e), leb-true _ _ (and_left (leb policy.pair 5) _ rest), leb-true _ _ (and_right (leb policy.pair 5) _ rest)),
  λ h. rw (le-leb _ _ h.0, le-leb _ _ h.1, le-leb _ _ h.2),
)

-- ---- flag 8
flag_ended : (flags : ℕ) (ended : Bool) → ((ltb flags 8 || ended) ≡ true) ↔ (stopped_flag ≤ flags → ended ≡ true)
flag_ended flags ended = by_test (ltb flags 8) refl
  where
    by_test : (t : Bool) → ltb flags 8 ≡ t → ((ltb flags 8 || ended) ≡ true) ↔ (stopped_flag ≤ flags → ended ≡ true)
    by_test true q = rw q ((λ e h. absurd (omega (arith, ltb-true flags 8 q)), λ h. refl))
    by_test false q = rw q ((λ e h. e, λ h. h (ltb-false flags 8 q)))

-- ---- what is pending
is_decoding_lem : (direction : Direction) → is_decoding direction ≡ true → direction ≡ Decoding
is_decoding_lem Decoding e = refl
is_decoding_lem Encoding e = absurd (false≢true e)

is_encoding_lem : (direction : Direction) → is_encoding direction ≡ true → direction ≡ Encoding
is_encoding_lem Decoding e = absurd (false≢true e)
is_encoding_lem Encoding e = refl

-- what has to hold if a byte is pending, and if a unit is
abbrev ByteRule : Direction → Bool → (written read : ℕ) → Type 0
ByteRule direction ended written read = (direction ≡ Decoding) × (ended ≡ false) × (written < read)

abbrev HighRule : (unit : ℕ) → Direction → Bool → (written read : ℕ) → Type 0
HighRule unit direction ended written read = (direction ≡ Encoding) × (0xD800 ≤ unit) × (unit ≤ 0xDBFF) × (ended ≡ false) × (written + 2 ≤ 2 * read)

module _ (direction : Direction) (ended : Bool) (written read : ℕ) where
  abbrev Allowed : Pending → Type 0
  Allowed pending = pending_allowed pending direction ended written read ≡ true

  byte_rule : (byte : ℕ) → Allowed (Byte byte) → ByteRule direction ended written read
  byte_rule byte e =
      let rest = and_right (is_decoding direction) _ e in
      (is_decoding_lem direction (and_left (is_decoding direction) _ e), not-true _ (and_left (not ended) _ rest), ltb-true _ _ (and_right (not ended) _ rest))

  high_rule : (unit : ℕ) → Allowed (High unit) → HighRule unit direction ended written read
  unfolding is_high
  high_rule unit e =
      let e₁ = and_right (is_encoding direction) _ e in
      let high = and_left (is_high unit) _ e₁ in
      let e₂ = and_right (is_high unit) _ e₁ in (
        is_encoding_lem direction (and_left (is_encoding direction) _ e),
        leb-true _ _ (and_left (leb 0xD800 unit) _ high),
        leb-true _ _ (and_right (leb 0xD800 unit) _ high),
        not-true _ (and_left (not ended) _ e₂),
        leb-true _ _ (and_right (not ended) _ e₂),
      )

  pending_rules : (pending : Pending) → Allowed pending
      → ((byte : ℕ) → pending ≡ Byte byte → ByteRule direction ended written read) × ((unit : ℕ) → pending ≡ High unit → HighRule unit direction ended written read)
  pending_rules pending e = (λ byte q. byte_rule byte (subst Allowed q e), λ unit q. high_rule unit (subst Allowed q e))

  allowed_by : (pending : Pending) → ((byte : ℕ) → pending ≡ Byte byte → ByteRule direction ended written read)
      → ((unit : ℕ) → pending ≡ High unit → HighRule unit direction ended written read) → Allowed pending
  unfolding is_high
  allowed_by Nothing b u = refl
  allowed_by (Byte byte) b u = let h = b byte refl in rw (h.0, h.1, lt-ltb written read h.2)
  allowed_by (High unit) b u =
      let h = u unit refl in
      rw (h.0, le-leb 0xD800 unit h.1, le-leb unit 0xDBFF h.2, h.3, le-leb (written + 2) (2 * read) h.4)

-- THE RUN RULES, test and propositions.
pub rules_exact : (run : Run) → (valid_run run ≡ true) ↔ RunRules run
rules_exact run = (
  λ e. let v = valid_facts run e in
      record {
        page = v.page;
        digits = (digits_allowed run.direction run.policy).0 v.policy;
        flags = v.flags;
        read = v.read;
        written = v.written;
        stopped = (flag_ended run.flags run.ended).0 v.stopped;
        pending_byte = (pending_rules run.direction run.ended run.written run.read run.pending v.pending).0;
        pending_high = (pending_rules run.direction run.ended run.written run.read run.pending v.pending).1;
      },
  λ h. valid_of run
      (record {
        page = h.page;
        policy = (digits_allowed run.direction run.policy).1 h.digits;
        flags = h.flags;
        read = h.read;
        written = h.written;
        stopped = (flag_ended run.flags run.ended).1 h.stopped;
        pending = allowed_by run.direction run.ended run.written run.read run.pending h.pending_byte h.pending_high;
      }),
)

-- ---- the start
-- Start numbers that are allowed: page not 0, digits allowed.
abbrev pub StartAllowed : Direction → ℕ → Policy → Type 0
StartAllowed direction page policy = (page ≡ 0 → ⊥) × Digits direction policy

-- A START is accepted exactly if its numbers are allowed, else 17.
pub start_exact : (direction : Direction) (page : ℕ) (policy : Policy)
    → (((start_of direction page policy).number ≡ 0) ↔ StartAllowed direction page policy) × (((start_of direction page policy).number ≡ 17) ↔ (StartAllowed direction page policy → ⊥))
unfolding start_of
start_exact direction page policy = by_test (eqb page 0) (policy_allowed direction policy) refl refl
  where
    by_test : (z d : Bool) → eqb page 0 ≡ z → policy_allowed direction policy ≡ d
        → (((start_of direction page policy).number ≡ 0) ↔ StartAllowed direction page policy) × (((start_of direction page policy).number ≡ 17) ↔ (StartAllowed direction page policy → ⊥))
    by_test true d e q = rw e ((λ h. absurd (omega arith), λ h. absurd (h.0 (eqb-true _ _ e))), (λ h s. s.0 (eqb-true _ _ e), λ h. refl))
    by_test false true e q =
        let allowed : StartAllowed direction page policy = (eqb-false _ _ e, (digits_allowed direction policy).0 q) in
        rw (e, q) ((λ h. allowed, λ h. refl), (λ h s. omega arith, λ h. absurd (h allowed)))
    by_test false false e q =
        let not_allowed : StartAllowed direction page policy → ⊥ = λ s. false≢true (sym q ∙ (digits_allowed direction policy).1 s.1) in
        rw (e, q) ((λ h. absurd (omega arith), λ h. absurd (not_allowed h)), (λ h. not_allowed, λ h. refl))
