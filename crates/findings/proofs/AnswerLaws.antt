-- Each answer of the call exactly in its case.
use mathlib.Core.Bool.{Bool, true, false}
use mathlib.Core.List.{List}
use mathlib.Core.Logic.{◌↔◌, ◌⊎◌, inl, inr}
use mathlib.Core.Option.{Option, none, some}
use mathlib.Core.Path.{◌≡◌, refl, ap, ◌∙◌}
use Prim.Native.Nat.{ℕ}
use native.Mathlib.Omega.{arith}
use lib.ListN.{length}
use Rattle.codepage.specs.CodePage.{CodePage}
use Rattle.codepage.proofs.ShapeLaws.{shape_exact}
use Rattle.engine.specs.declared.Direction.TheVariants.{Decoding}
use Rattle.engine.specs.declared.Policy.{Policy}
use Rattle.engine.specs.Policies.{policy_allowed}
use Rattle.convert.specs.Runs.{piece_limit}
use Rattle.codepage_walk.specs.Checks.{TextPasses, TextFails}
use Rattle.codepage_walk.proofs.CheckLaws.{refused_exact, passed_exact, text_cases, not_good}
use Rattle.findings.specs.declared.Finding.{Finding}
use Rattle.findings.specs.declared.Refusal.{Refusal}
use Rattle.findings.specs.declared.Refusal.TheVariants.{BadPolicy, BadShape, TooLong}
use Rattle.std.specs.Prelude.{Ok, Err}
use Rattle.findings.specs.Findings.{filled_front}
use Rattle.findings.specs.Calls.{findings_refusal, findings_text, FindingsCall, call_unless, findings_call}
use Rattle.findings.specs.Claims.{FindingsSays, FindingsPasses}
use Rattle.findings.proofs.CallLaws.{refused_policy, refused_shape, refused_long, accepted, call_refused, call_accepted}
use Rattle.findings.proofs.FillLaws.{filled_none}

-- the answer, and the first check that fails
answer_refused : (o : Option Refusal) (fs : List Finding) (why : Refusal) → (call_unless o fs).answer ≡ Err why → o ≡ some why
answer_refused none fs why e = absurd (let z : ◌≡◌ {A = ℕ} 0 1 = cc in omega arith)
answer_refused (some other) fs why e = let same : other ≡ why = cc in ap (λ (w : Refusal). some w) same

answer_number : (o : Option Refusal) (fs : List Finding) (n : ℕ) → (call_unless o fs).answer ≡ Ok n → (o ≡ none) × (length fs ≡ n)
answer_number none fs n e = (refl, cc)
answer_number (some other) fs n e = absurd (let z : ◌≡◌ {A = ℕ} 0 1 = cc in omega arith)

module _ (policy : Policy) (p : CodePage) (text : List ℕ) where
  pub says : (why : Refusal) → FindingsSays policy p text why → findings_refusal policy p text ≡ some why
  says BadPolicy a = refused_policy policy p text a
  says BadShape (a, h) = refused_shape policy p text a (not_good p h)
  says TooLong (a, g, h) = refused_long policy p text a ((shape_exact p).1 g) h

  pub passes : FindingsPasses policy p text → findings_refusal policy p text ≡ none
  passes (a, (g, h)) = accepted policy p text a ((shape_exact p).1 g) h

  cases : ((why : Refusal) × FindingsSays policy p text why) ⊎ FindingsPasses policy p text
  cases = by (policy_allowed Decoding policy) refl
    where
      by_text : policy_allowed Decoding policy ≡ true → TextFails p piece_limit (length text) ⊎ TextPasses p piece_limit (length text) → ((why : Refusal) × FindingsSays policy p text why) ⊎ FindingsPasses policy p text
      by_text a (inl (inl h)) = inl (BadShape, (a, h))
      by_text a (inl (inr (g, h))) = inl (TooLong, (a, g, h))
      by_text a (inr h) = inr (a, h)

      by : (t : Bool) → policy_allowed Decoding policy ≡ t → ((why : Refusal) × FindingsSays policy p text why) ⊎ FindingsPasses policy p text
      by false a = inl (BadPolicy, a)
      by true a = by_text a (text_cases p piece_limit (length text))

  refusal_said : (why : Refusal) → (findings_refusal policy p text ≡ some why) ↔ FindingsSays policy p text why
  refusal_said = refused_exact (FindingsSays policy p text) (FindingsPasses policy p text) (findings_refusal policy p text) says passes cases

  -- EACH REFUSAL EXACTLY IN ITS CASE: 17, 10, 11.
  pub findings_refused_exact : (why : Refusal) → ((findings_call policy p text).answer ≡ Err why) ↔ FindingsSays policy p text why
  unfolding findings_call
  findings_refused_exact why = (
    λ e. (refusal_said why).0 (answer_refused (findings_refusal policy p text) (findings_text policy p text) why e),
    λ h. ap (λ (c : FindingsCall). c.answer) (call_refused policy p text why ((refusal_said why).1 h)),
  )

  -- A REFUSED CALL changes nothing in the list.
  pub refused_untouched : (why : Refusal) (before : List Finding) → FindingsSays policy p text why → filled_front before (findings_call policy p text).entries ≡ before
  refused_untouched why before h = ap (λ (c : FindingsCall). filled_front before c.entries) (call_refused policy p text why ((refusal_said why).1 h)) ∙ filled_none before

  -- ACCEPTED exactly if 17, 10 and 11 pass; THE NUMBER IS THAT OF ALL FINDINGS, whatever the list's length.
  pub findings_number_exact : (n : ℕ) → ((findings_call policy p text).answer ≡ Ok n) ↔ (FindingsPasses policy p text × (length (findings_text policy p text) ≡ n))
  unfolding findings_call
  findings_number_exact n = (
    λ e. let (o, size) = answer_number (findings_refusal policy p text) (findings_text policy p text) n e in ((passed_exact (FindingsSays policy p text) (FindingsPasses policy p text) (findings_refusal policy p text) says passes cases).0 o, size),
    λ (h, size). ap (λ (c : FindingsCall). c.answer) (call_accepted policy p text (passes h)) ∙ ap (λ (m : ℕ). Ok m) size,
  )

  -- then the entries are the text's findings
  pub accepted_entries : FindingsPasses policy p text → (findings_call policy p text).entries ≡ findings_text policy p text
  accepted_entries h = ap (λ (c : FindingsCall). c.entries) (call_accepted policy p text (passes h))
