-- Each answer of the two calls exactly in its case.
use mathlib.Core.Bool.{Bool, true, false}
use mathlib.Core.List.{List, []}
use mathlib.Core.Logic.{◌↔◌, ◌⊎◌, inl, inr}
use mathlib.Core.Option.{Option, none, some}
use mathlib.Core.Path.{◌≡◌, refl, sym, ap, ◌∙◌}
use Rattle.std.proofs.Common.{Ok, Err}
use Prim.Native.Nat.{ℕ}
use native.Mathlib.Omega.{arith}
use lib.Dec.{leb}
use lib.ListN.{length}
use borrow.Author.Tests.{leb-true, leb-false}
use Rattle.codepage.specs.CodePage.{CodePage}
use Rattle.codepage.proofs.ShapeLaws.{shape_exact}
use Rattle.convert.specs.Runs.{piece_limit}
use Rattle.codepage_walk.specs.Checks.{bytes_reader, TextPasses, TextFails}
use Rattle.codepage_walk.proofs.CheckLaws.{refused_exact, passed_exact, text_cases, not_good}
use Rattle.linebreak.specs.declared.Refusal.{Refusal}
use Rattle.linebreak.specs.declared.Refusal.TheVariants.{BadShape, TooLong, NotAcceptable, NoneExists, ListTooShort}
use Rattle.linebreak.specs.Breaks.{acceptable, ours, breakable}
use Rattle.linebreak.specs.Calls.{check_refusal, check_answer, check_of, propose_refusal, proposal_unless, proposal_of}
use Rattle.linebreak.specs.Claims.{CheckSays, CheckPasses, OursExist, ProposeSays, ProposePasses}
use Rattle.linebreak.proofs.CallLaws.{check_bad, check_long, check_refused, check_accepted, propose_bad, propose_long, propose_none, propose_short, propose_accepted}
use Rattle.linebreak.proofs.Theorems.{ours_acceptable, exist_breakable, none_exists}

-- ---- checking
module _ (p : CodePage) (text : List ℕ) (width : ℕ) (breaks : List ℕ) where
  check_says : (why : Refusal) → CheckSays p text width breaks why → check_of p text width breaks ≡ Err why
  check_says BadShape h = check_bad p text width breaks (not_good p h)
  check_says TooLong (g, h) = check_long p text width breaks ((shape_exact p).1 g) h
  check_says NotAcceptable ((g, h), a) = check_refused p text width breaks ((shape_exact p).1 g) h a
  check_says NoneExists h = absurd h
  check_says ListTooShort h = absurd h

  check_passes : CheckPasses p text width breaks → check_of p text width breaks ≡ Ok tt
  check_passes ((g, h), a) = check_accepted p text width breaks ((shape_exact p).1 g) h a

  -- the answer, and the first check that fails
  answer_refused : (o : Option Refusal) (why : Refusal) → check_answer o ≡ Err why → o ≡ some why
  answer_refused none why e = absurd (let z : ◌≡◌ {A = ℕ} 0 1 = cc in omega arith)
  answer_refused (some other) why e = let same : other ≡ why = cc in ap (λ (w : Refusal). some w) same

  answer_accepted : (o : Option Refusal) → check_answer o ≡ Ok tt → o ≡ none
  answer_accepted none e = refl
  answer_accepted (some other) e = absurd (let z : ◌≡◌ {A = ℕ} 0 1 = cc in omega arith)

  check_cases : ((why : Refusal) × CheckSays p text width breaks why) ⊎ CheckPasses p text width breaks
  check_cases = by (text_cases p piece_limit (length text))
    where
      by_breaks : TextPasses p piece_limit (length text) → (t : Bool) → acceptable (bytes_reader p) text width breaks ≡ t → ((why : Refusal) × CheckSays p text width breaks why) ⊎ CheckPasses p text width breaks
      by_breaks h true e = inr (h, e)
      by_breaks h false e = inl (NotAcceptable, (h, e))

      by : TextFails p piece_limit (length text) ⊎ TextPasses p piece_limit (length text) → ((why : Refusal) × CheckSays p text width breaks why) ⊎ CheckPasses p text width breaks
      by (inl (inl h)) = inl (BadShape, h)
      by (inl (inr h)) = inl (TooLong, h)
      by (inr h) = by_breaks h (acceptable (bytes_reader p) text width breaks) refl

  refusal_said : (why : Refusal) → CheckSays p text width breaks why → check_refusal p text width breaks ≡ some why
  unfolding check_of
  refusal_said why h = answer_refused (check_refusal p text width breaks) why (check_says why h)

  refusal_passed : CheckPasses p text width breaks → check_refusal p text width breaks ≡ none
  unfolding check_of
  refusal_passed h = answer_accepted (check_refusal p text width breaks) (check_passes h)

  -- EACH ANSWER OF A CHECK EXACTLY IN ITS CASE: 10, 11, 30; and accepted exactly the acceptable breaks.
  pub check_refused_exact : (why : Refusal) → (check_of p text width breaks ≡ Err why) ↔ CheckSays p text width breaks why
  unfolding check_of
  check_refused_exact why = (
    λ e. (refused_exact (CheckSays p text width breaks) (CheckPasses p text width breaks) (check_refusal p text width breaks) refusal_said refusal_passed check_cases why).0
        (answer_refused (check_refusal p text width breaks) why e),
    check_says why,
  )

  pub check_accepted_exact : (check_of p text width breaks ≡ Ok tt) ↔ CheckPasses p text width breaks
  unfolding check_of
  check_accepted_exact = (
    λ e. (passed_exact (CheckSays p text width breaks) (CheckPasses p text width breaks) (check_refusal p text width breaks) refusal_said refusal_passed check_cases).0
        (answer_accepted (check_refusal p text width breaks) e),
    check_passes,
  )

-- ---- proposing
module _ (p : CodePage) (text : List ℕ) (width room : ℕ) where
  ours_exist : OursExist p text width → breakable (bytes_reader p) text width ≡ true
  ours_exist (h, a) = exist_breakable (bytes_reader p) text width (ours (bytes_reader p) text width) a

  propose_says : (why : Refusal) → ProposeSays p text width room why → propose_refusal p text width room ≡ some why
  propose_says BadShape h = propose_bad p text width room (not_good p h)
  propose_says TooLong (g, h) = propose_long p text width room ((shape_exact p).1 g) h
  propose_says NotAcceptable h = absurd h
  propose_says NoneExists ((g, h), n) = propose_none p text width room ((shape_exact p).1 g) h ((none_exists (bytes_reader p) text width).1 n)
  propose_says ListTooShort (((g, h), a), s) = propose_short p text width room ((shape_exact p).1 g) h (exist_breakable (bytes_reader p) text width (ours (bytes_reader p) text width) a) s

  propose_passes : ProposePasses p text width room → propose_refusal p text width room ≡ none
  propose_passes (((g, h), a), s) = propose_accepted p text width room ((shape_exact p).1 g) h (exist_breakable (bytes_reader p) text width (ours (bytes_reader p) text width) a) s

  propose_cases : ((why : Refusal) × ProposeSays p text width room why) ⊎ ProposePasses p text width room
  propose_cases = by (text_cases p piece_limit (length text))
    where
      by_room : OursExist p text width → (t : Bool) → leb (length (ours (bytes_reader p) text width)) room ≡ t → ((why : Refusal) × ProposeSays p text width room why) ⊎ ProposePasses p text width room
      by_room h true e = inr (h, leb-true _ _ e)
      by_room h false e = inl (ListTooShort, (h, leb-false _ _ e))

      by_codes : TextPasses p piece_limit (length text) → (t : Bool) → breakable (bytes_reader p) text width ≡ t → ((why : Refusal) × ProposeSays p text width room why) ⊎ ProposePasses p text width room
      by_codes h true e = by_room (h, ours_acceptable (bytes_reader p) text width e) (leb (length (ours (bytes_reader p) text width)) room) refl
      by_codes h false e = inl (NoneExists, (h, (none_exists (bytes_reader p) text width).0 e))

      by : TextFails p piece_limit (length text) ⊎ TextPasses p piece_limit (length text) → ((why : Refusal) × ProposeSays p text width room why) ⊎ ProposePasses p text width room
      by (inl (inl h)) = inl (BadShape, h)
      by (inl (inr h)) = inl (TooLong, h)
      by (inr h) = by_codes h (breakable (bytes_reader p) text width) refl

  given_refused : (o : Option Refusal) (breaks : List ℕ) (why : Refusal) → (proposal_unless o breaks).answer ≡ Err why → o ≡ some why
  given_refused none breaks why e = absurd (let z : ◌≡◌ {A = ℕ} 0 1 = cc in omega arith)
  given_refused (some other) breaks why e = let same : other ≡ why = cc in ap (λ (w : Refusal). some w) same

  given_breaks : (o : Option Refusal) (breaks : List ℕ) (count : ℕ) → (proposal_unless o breaks).answer ≡ Ok count → (o ≡ none) × (count ≡ length breaks)
  given_breaks none breaks count e = (refl, cc)
  given_breaks (some other) breaks count e = absurd (let z : ◌≡◌ {A = ℕ} 0 1 = cc in omega arith)

  -- EACH ANSWER OF A PROPOSAL EXACTLY IN ITS CASE: 10, 11, 31, 32, with nothing written; else ours, and how many they are.
  pub propose_refused_exact : (why : Refusal) → ((proposal_of p text width room).answer ≡ Err why) ↔ ProposeSays p text width room why
  unfolding proposal_of
  propose_refused_exact why = (
    λ e. (refused_exact (ProposeSays p text width room) (ProposePasses p text width room) (propose_refusal p text width room) propose_says propose_passes propose_cases why).0
        (given_refused (propose_refusal p text width room) (ours (bytes_reader p) text width) why e),
    λ h. ap (λ (o : Option Refusal). (proposal_unless o (ours (bytes_reader p) text width)).answer) (propose_says why h),
  )

  pub refused_untouched : (why : Refusal) → (proposal_of p text width room).answer ≡ Err why → (proposal_of p text width room).breaks ≡ []
  unfolding proposal_of
  refused_untouched why e =
      ap (λ (o : Option Refusal). (proposal_unless o (ours (bytes_reader p) text width)).breaks) (given_refused (propose_refusal p text width room) (ours (bytes_reader p) text width) why e)

  pub propose_accepted_exact : (count : ℕ) → ((proposal_of p text width room).answer ≡ Ok count) ↔ (ProposePasses p text width room × (count ≡ length (ours (bytes_reader p) text width)))
  unfolding proposal_of
  propose_accepted_exact count = (
    λ e. let (accepted, n) = given_breaks (propose_refusal p text width room) (ours (bytes_reader p) text width) count e in
        ((passed_exact (ProposeSays p text width room) (ProposePasses p text width room) (propose_refusal p text width room) propose_says propose_passes propose_cases).0 accepted, n),
    λ (h, n). ap (λ (o : Option Refusal). (proposal_unless o (ours (bytes_reader p) text width)).answer) (propose_passes h) ∙ ap (λ (k : ℕ). Ok k) (sym n),
  )

  pub accepted_ours : ProposePasses p text width room → (proposal_of p text width room).breaks ≡ ours (bytes_reader p) text width
  unfolding proposal_of
  accepted_ours h = ap (λ (o : Option Refusal). (proposal_unless o (ours (bytes_reader p) text width)).breaks) (propose_passes h)
