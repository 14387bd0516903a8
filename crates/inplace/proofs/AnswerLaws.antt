-- Each answer of the call exactly in its case.
use mathlib.Core.Bool.{Bool, true, false, false≢true}
use mathlib.Core.List.{List}
use mathlib.Core.Logic.{◌↔◌, ◌⊎◌, inl, inr}
use mathlib.Core.Option.{Option, none, some}
use mathlib.Core.Path.{◌≡◌, refl, sym, ap, ◌∙◌}
use Prim.Native.Nat.{ℕ, ◌%◌, ◌≤◌, ◌<◌}
use native.Mathlib.Omega.{arith}
use lib.Dec.{leb, eqb}
use lib.ListN.{length}
use borrow.Author.Tests.{eqb-true, eqb-false, leb-true, leb-false}
use Rattle.codepage.specs.CodePage.{CodePage, first_fault, is_good}
use Rattle.codepage.specs.Reading.{Code, codes}
use Rattle.codepage.specs.Lent.{over}
use Rattle.codepage.proofs.ShapeLaws.{shape_exact}
use Rattle.codepage_walk.proofs.CheckLaws as checks
use Rattle.utf16.specs.Utf16.{utf16_units}
use Rattle.engine.specs.declared.Direction.TheVariants.{Encoding}
use Rattle.engine.specs.declared.Policy.{Policy}
use Rattle.engine.specs.Policies.{policy_allowed}
use Rattle.engine.specs.Engine.{Converter, endless, whole, converter_of, reader_of}
use Rattle.engine.proofs.AnswerLaws.{Goes, StopsAt, codes_exact, AnswerCases, answer_cases}
use Rattle.convert.specs.Runs.{piece_limit}
use Rattle.inplace.specs.declared.Refusal.{Refusal}
use Rattle.inplace.specs.declared.Refusal.TheVariants.{BadPolicy, BadShape, OddBytes, TooLong}
use Rattle.std.specs.Prelude.{Ok, Err}
use Rattle.inplace.specs.InPlace.{encoded_number, buffer_refusal, held_reading, encoded_by, in_place_unless, in_place_of}
use Rattle.inplace.specs.Claims.{RefusalSays, BufferPasses}
use Rattle.inplace.proofs.CallLaws.{bad_policy, bad_shape, odd_bytes, too_long, all_pass}
use Rattle.inplace.proofs.Theorems.{number_by, reading_ends}

-- not true is false
untrue : (b : Bool) → (b ≡ true → ⊥) → b ≡ false
untrue true h = absurd (h refl)
untrue false h = refl

module _ (policy : Policy) (p : CodePage) (buffer : List ℕ) where
  says : (why : Refusal) → RefusalSays policy p buffer why → buffer_refusal policy p buffer ≡ some why
  says BadPolicy h = bad_policy policy p buffer (untrue (policy_allowed Encoding policy) h)
  says BadShape (a, h) = bad_shape policy p buffer a (checks.not_good p h)
  says OddBytes ((a, g), h) = odd_bytes policy p buffer a ((shape_exact p).1 g) (λ e. omega arith)
  says TooLong (((a, g), o), h) = too_long policy p buffer a ((shape_exact p).1 g) o h

  passes : BufferPasses policy p buffer → buffer_refusal policy p buffer ≡ none
  passes (((a, g), o), h) = all_pass policy p buffer a ((shape_exact p).1 g) o h

  -- one of the cases is met
  cases : ((why : Refusal) × RefusalSays policy p buffer why) ⊎ BufferPasses policy p buffer
  cases = by (policy_allowed Encoding policy) (is_good (first_fault p)) (eqb (length buffer % 2) 0) (leb (length (utf16_units buffer)) piece_limit) refl refl refl refl
    where
      by : (a b c d : Bool) → policy_allowed Encoding policy ≡ a → is_good (first_fault p) ≡ b → eqb (length buffer % 2) 0 ≡ c → leb (length (utf16_units buffer)) piece_limit ≡ d
          → ((why : Refusal) × RefusalSays policy p buffer why) ⊎ BufferPasses policy p buffer
      by false b c d ea eb ec ed = inl (BadPolicy, λ e. false≢true (sym ea ∙ e))
      by true false c d ea eb ec ed = inl (BadShape, (ea, λ g. false≢true (sym eb ∙ (shape_exact p).1 g)))
      by true true false d ea eb ec ed =
          let odd : length buffer % 2 ≡ 0 → ⊥ = eqb-false (length buffer % 2) 0 ec in
          inl (OddBytes, ((ea, (shape_exact p).0 eb), by_two (length buffer) odd))
        where
          by_two : (n : ℕ) → (n % 2 ≡ 0 → ⊥) → n % 2 ≡ 1
          by_two n h = omega arith
      by true true true false ea eb ec ed = inl (TooLong, (((ea, (shape_exact p).0 eb), eqb-true _ _ ec), leb-false _ _ ed))
      by true true true true ea eb ec ed = inr (((ea, (shape_exact p).0 eb), eqb-true _ _ ec), leb-true _ _ ed)

  refusal_exact : (why : Refusal) → (buffer_refusal policy p buffer ≡ some why) ↔ RefusalSays policy p buffer why
  refusal_exact = checks.refused_exact (RefusalSays policy p buffer) (BufferPasses policy p buffer) (buffer_refusal policy p buffer) says passes cases

  -- the answer by the refusal
  answer_by : (o : Option Refusal) → buffer_refusal policy p buffer ≡ o → (in_place_of policy p buffer).answer ≡ (in_place_unless o buffer (held_reading policy p buffer)).answer
  unfolding in_place_of
  answer_by o e = ap (λ (x : Option Refusal). (in_place_unless x buffer (held_reading policy p buffer)).answer) e

  -- EACH REFUSAL EXACTLY IN ITS CASE: it is the first check that fails.
  pub refused_exact : (why : Refusal) → ((in_place_of policy p buffer).answer ≡ Err why) ↔ RefusalSays policy p buffer why
  refused_exact why = (λ e. by (buffer_refusal policy p buffer) refl e, λ h. answer_by (some why) (says why h))
    where
      by : (o : Option Refusal) → buffer_refusal policy p buffer ≡ o → (in_place_of policy p buffer).answer ≡ Err why → RefusalSays policy p buffer why
      by none q e =
          let z : Ok (encoded_by (held_reading policy p buffer)) ≡ Err why = sym (answer_by none q) ∙ e in
          absurd (let n : ◌≡◌ {A = ℕ} 0 1 = cc in omega arith)
      by (some other) q e =
          let z : Err other ≡ Err why = sym (answer_by (some other) q) ∙ e in
          let same : other ≡ why = cc in
          (refusal_exact why).0 (q ∙ ap some same)

  -- A REFUSED CALL LEAVES THE BUFFER UNTOUCHED.
  pub refused_untouched : (why : Refusal) → RefusalSays policy p buffer why → (in_place_of policy p buffer).buffer ≡ buffer
  unfolding in_place_of
  refused_untouched why h = ap (λ (x : Option Refusal). (in_place_unless x buffer (held_reading policy p buffer)).buffer) (says why h)

  -- AN ACCEPTED CALL lays what the whole reading writes over the buffer: bytes beyond it are as before.
  pub accepted_laid : BufferPasses policy p buffer → (in_place_of policy p buffer).buffer ≡ over buffer (held_reading policy p buffer).output
  unfolding in_place_of
  accepted_laid h = ap (λ (x : Option Refusal). (in_place_unless x buffer (held_reading policy p buffer)).buffer) (passes h)

  -- its number
  accepted_number : BufferPasses policy p buffer → encoded_number (in_place_of policy p buffer).answer ≡ (held_reading policy p buffer).answer
  accepted_number h = ap encoded_number (answer_by none (passes h)) ∙ number_by (held_reading policy p buffer) (reading_ends policy p buffer)

  refused_number : (why : Refusal) → 10 ≤ encoded_number (Err why)
  refused_number BadPolicy = omega arith
  refused_number BadShape = omega arith
  refused_number OddBytes = omega arith
  refused_number TooLong = omega arith

  -- a number below 10 is that of an accepted call
  low_passes : encoded_number (in_place_of policy p buffer).answer < 10 → BufferPasses policy p buffer
  low_passes l = by cases
    where
      by : ((why : Refusal) × RefusalSays policy p buffer why) ⊎ BufferPasses policy p buffer → BufferPasses policy p buffer
      by (inl (why, h)) = absurd (omega (arith, refused_number why, l, ap encoded_number (answer_by (some why) (says why h))))
      by (inr h) = h

  abbrev v : Converter
  v = converter_of Encoding p policy

  abbrev ks : List Code
  ks = codes (reader_of Encoding p) (utf16_units buffer)

  reading_cases : AnswerCases v endless ks none (held_reading policy p buffer).answer
  unfolding whole
  reading_cases = answer_cases v endless ks none _ (codes_exact v endless ks none)

  -- 0 EXACTLY IF THE CALL IS ACCEPTED AND NO CODE STOPS IT
  pub all_exact : (encoded_number (in_place_of policy p buffer).answer ≡ 0) ↔ (BufferPasses policy p buffer × Goes v endless ks)
  all_exact = (
    λ e. let h = low_passes (omega arith) in (h, (reading_cases.all_read.0 (sym (accepted_number h) ∙ e)).0),
    λ h. accepted_number h.0 ∙ reading_cases.all_read.1 (h.1, refl),
  )

  -- 3 EXACTLY IF IT IS ACCEPTED AND A CODE STOPS IT
  pub stopped_exact : (encoded_number (in_place_of policy p buffer).answer ≡ 3) ↔ (BufferPasses policy p buffer × StopsAt v endless ks)
  stopped_exact = (
    λ e. let h = low_passes (omega arith) in (h, reading_cases.stopped.0 (sym (accepted_number h) ∙ e)),
    λ h. accepted_number h.0 ∙ reading_cases.stopped.1 h.1,
  )

  -- and it is accepted exactly if all checks pass
  pub accepted_exact : (encoded_number (in_place_of policy p buffer).answer < 10) ↔ BufferPasses policy p buffer
  accepted_exact = (low_passes, λ h. by (reading_ends policy p buffer) h)
    where
      by : ((held_reading policy p buffer).answer ≡ 0) ⊎ ((held_reading policy p buffer).answer ≡ 3) → BufferPasses policy p buffer → encoded_number (in_place_of policy p buffer).answer < 10
      by (inl e) h = omega (arith, accepted_number h, e)
      by (inr e) h = omega (arith, accepted_number h, e)
