-- Each answer of the call exactly in its case, and the claims of CR 8 about calls that are accepted.
use mathlib.Core.Bool.{Bool, true, false}
use mathlib.Core.List.{List, []}
use mathlib.Core.Logic.{◌↔◌, ◌⊎◌, inl, inr}
use mathlib.Core.Option.{Option, none, some}
use mathlib.Core.Path.{◌≡◌, refl, sym, ap, ◌∙◌, subst}
use Prim.Native.Nat.{ℕ, ◌≤◌}
use native.Mathlib.Omega.{arith}
use lib.Dec.{leb}
use lib.ListN.{length}
use borrow.Author.Tests.{leb-true, leb-false}
use Rattle.codepage.specs.CodePage.{CodePage}
use Rattle.codepage.proofs.ShapeLaws.{shape_exact}
use Rattle.convert.specs.Runs.{piece_limit}
use Rattle.codepage_walk.specs.Checks.{TextPasses, TextFails}
use Rattle.codepage_walk.proofs.CheckLaws.{refused_exact, passed_exact, text_cases, not_good}
use Rattle.spelling.specs.declared.Refusal.{Refusal}
use Rattle.spelling.specs.declared.Refusal.TheVariants.{BadShape, TooLong, AtFault, SpellingTooLong}
use Rattle.std.specs.Prelude.{Ok, Err}
use Rattle.spelling.specs.Calls.{fault_in, spelling_text, spelling_refusal, Spelling, spelling_unless, spelling_of}
use Rattle.spelling.specs.Claims.{NoFault, units_meant, SpellingSays, SpellingPasses}
use Rattle.spelling.proofs.CallLaws.{spelling_bad, spelling_long, spelling_fault, spelling_over, spelling_no_room, spelling_accepted}
use Rattle.spelling.proofs.FaultLaws.{fault_exact, clear_exact}
use Rattle.spelling.proofs.Theorems.{spelling_clear, spelling_again, same_units}

-- the answer, and the first check that fails
answer_refused : (o : Option Refusal) (bytes : List ℕ) (why : Refusal) → (spelling_unless o bytes).answer ≡ Err why → o ≡ some why
answer_refused none bytes why e = absurd (let z : ◌≡◌ {A = ℕ} 0 1 = cc in omega arith)
answer_refused (some other) bytes why e = let same : other ≡ why = cc in ap (λ (w : Refusal). some w) same

answer_bytes : (o : Option Refusal) (bytes : List ℕ) (n : ℕ) → (spelling_unless o bytes).answer ≡ Ok n → (o ≡ none) × (length bytes ≡ n)
answer_bytes none bytes n e = (refl, cc)
answer_bytes (some other) bytes n e = absurd (let z : ◌≡◌ {A = ℕ} 0 1 = cc in omega arith)

module _ (p : CodePage) (text : List ℕ) (room : ℕ) where
  says : (why : Refusal) → SpellingSays p text room why → spelling_refusal p text room ≡ some why
  says BadShape h = spelling_bad p text room (not_good p h)
  says TooLong (g, h) = spelling_long p text room ((shape_exact p).1 g) h
  says (AtFault place) ((g, h), f) = spelling_fault p text room ((shape_exact p).1 g) h place ((fault_exact p text place).1 f)
  says SpellingTooLong ((g, h), c, inl l) = spelling_over p text room ((shape_exact p).1 g) h ((clear_exact p text).1 c) l
  says SpellingTooLong ((g, h), c, inr s) = by (leb (length (spelling_text p text)) piece_limit) refl
    where
      by : (t : Bool) → leb (length (spelling_text p text)) piece_limit ≡ t → spelling_refusal p text room ≡ some SpellingTooLong
      by true e = spelling_no_room p text room ((shape_exact p).1 g) h ((clear_exact p text).1 c) (leb-true _ _ e) s
      by false e = spelling_over p text room ((shape_exact p).1 g) h ((clear_exact p text).1 c) (leb-false _ _ e)

  passes : SpellingPasses p text room → spelling_refusal p text room ≡ none
  passes ((g, h), c, l, s) = spelling_accepted p text room ((shape_exact p).1 g) h ((clear_exact p text).1 c) l s

  cases : ((why : Refusal) × SpellingSays p text room why) ⊎ SpellingPasses p text room
  cases = by (text_cases p piece_limit (length text))
    where
      by_room : TextPasses p piece_limit (length text) → NoFault p text → (a b : Bool) → leb (length (spelling_text p text)) piece_limit ≡ a → leb (length (spelling_text p text)) room ≡ b
          → ((why : Refusal) × SpellingSays p text room why) ⊎ SpellingPasses p text room
      by_room h c true true e q = inr (h, c, leb-true _ _ e, leb-true _ _ q)
      by_room h c true false e q = inl (SpellingTooLong, (h, c, inr (leb-false _ _ q)))
      by_room h c false b e q = inl (SpellingTooLong, (h, c, inl (leb-false _ _ e)))

      by_fault : TextPasses p piece_limit (length text) → (o : Option ℕ) → fault_in p text ≡ o → ((why : Refusal) × SpellingSays p text room why) ⊎ SpellingPasses p text room
      by_fault h none e = by_room h ((clear_exact p text).0 e) (leb (length (spelling_text p text)) piece_limit) (leb (length (spelling_text p text)) room) refl refl
      by_fault h (some place) e = inl (AtFault place, (h, (fault_exact p text place).0 e))

      by : TextFails p piece_limit (length text) ⊎ TextPasses p piece_limit (length text) → ((why : Refusal) × SpellingSays p text room why) ⊎ SpellingPasses p text room
      by (inl (inl h)) = inl (BadShape, h)
      by (inl (inr h)) = inl (TooLong, h)
      by (inr h) = by_fault h (fault_in p text) refl

  refusal_said : (why : Refusal) → (spelling_refusal p text room ≡ some why) ↔ SpellingSays p text room why
  refusal_said = refused_exact (SpellingSays p text room) (SpellingPasses p text room) (spelling_refusal p text room) says passes cases

  -- EACH REFUSAL EXACTLY IN ITS CASE: 10, 11; 24 if some code is at fault, with the place of the first such; 25 if none is, and the
  -- spelling is over the limit or does not fit the room.
  pub spelling_refused_exact : (why : Refusal) → ((spelling_of p text room).answer ≡ Err why) ↔ SpellingSays p text room why
  unfolding spelling_of
  spelling_refused_exact why = (
    λ e. (refusal_said why).0 (answer_refused (spelling_refusal p text room) (spelling_text p text) why e),
    λ h. ap (λ (o : Option Refusal). (spelling_unless o (spelling_text p text)).answer) ((refusal_said why).1 h),
  )

  -- A refused call writes nothing.
  pub refused_untouched : (why : Refusal) → SpellingSays p text room why → (spelling_of p text room).bytes ≡ []
  unfolding spelling_of
  refused_untouched why h = ap (λ (o : Option Refusal). (spelling_unless o (spelling_text p text)).bytes) ((refusal_said why).1 h)

  -- what an accepted call gives
  given : SpellingPasses p text room → spelling_of p text room ≡ record { answer = Ok (length (spelling_text p text)); bytes = spelling_text p text }
  unfolding spelling_of
  given h = ap (λ (o : Option Refusal). spelling_unless o (spelling_text p text)) (passes h)

  -- ACCEPTED exactly if 10 and 11 pass, no code is at fault, and the spelling has at most 65,536 bytes and fits the room; the answer
  -- is its length.
  pub spelling_accepted_exact : (n : ℕ) → ((spelling_of p text room).answer ≡ Ok n) ↔ (SpellingPasses p text room × (length (spelling_text p text) ≡ n))
  unfolding spelling_of
  spelling_accepted_exact n = (
    λ e. let (o, size) = answer_bytes (spelling_refusal p text room) (spelling_text p text) n e in ((passed_exact (SpellingSays p text room) (SpellingPasses p text room) (spelling_refusal p text room) says passes cases).0 o, size),
    λ (h, size). ap (λ (s : Spelling). s.answer) (given h) ∙ ap (λ (m : ℕ). Ok m) size,
  )

  -- then the spelling is written
  pub accepted_bytes : (n : ℕ) → (spelling_of p text room).answer ≡ Ok n → (spelling_of p text room).bytes ≡ spelling_text p text
  accepted_bytes n e = ap (λ (s : Spelling). s.bytes) (given ((spelling_accepted_exact n).0 e).0)

-- A SPELLING IS ACCEPTED IN THAT ROOM AND ITS SPELLING IS ITSELF: the call on it gives the same answer and the same bytes.
pub spelled_again : (p : CodePage) (text : List ℕ) (room n : ℕ) → (spelling_of p text room).answer ≡ Ok n → spelling_of p (spelling_of p text room).bytes room ≡ spelling_of p text room
spelled_again p text room n e =
    let ((whole, clear, l, s), size) = (spelling_accepted_exact p text room n).0 e in
    let again = spelling_again p text clear in
    let passes_again : SpellingPasses p (spelling_text p text) room =
    ((whole.0, l), spelling_clear p text clear, subst (λ (bytes : List ℕ). length bytes ≤ piece_limit) (sym again) l, subst (λ (bytes : List ℕ). length bytes ≤ room) (sym again) s) in
    ap (λ (bytes : List ℕ). spelling_of p bytes room) (accepted_bytes p text room n e)
    ∙ given p (spelling_text p text) room passes_again
    ∙ ap (λ (bytes : List ℕ). record { answer = Ok (length bytes); bytes = bytes }) again
    ∙ sym (given p text room (whole, clear, l, s))

-- TWO ACCEPTED TEXTS MEAN THE SAME UNITS exactly if their spellings are equal bytes, whatever the rooms.
pub spelled_alike : (p : CodePage) (a b : List ℕ) (room_a room_b m n : ℕ) → (spelling_of p a room_a).answer ≡ Ok m → (spelling_of p b room_b).answer ≡ Ok n
    → (units_meant p a ≡ units_meant p b) ↔ ((spelling_of p a room_a).bytes ≡ (spelling_of p b room_b).bytes)
spelled_alike p a b room_a room_b m n e q =
    let alike = same_units p a b ((spelling_accepted_exact p a room_a m).0 e).0.1 ((spelling_accepted_exact p b room_b n).0 q).0.1 in
    let here = accepted_bytes p a room_a m e in
    let there = accepted_bytes p b room_b n q in (
      λ same. here ∙ alike.0 same ∙ sym there,
      λ same. alike.1 (sym here ∙ same ∙ there),
    )
