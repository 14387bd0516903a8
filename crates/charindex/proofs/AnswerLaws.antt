-- Each answer of the two calls exactly in its case, and the calls on a right index.
use mathlib.Core.Bool.{Bool, true, false, false≢true}
use mathlib.Core.List.{List}
use mathlib.Core.Logic.{◌↔◌, ◌⊎◌, inl, inr}
use mathlib.Core.Option.{Option, none, some}
use mathlib.Core.Path.{◌≡◌, refl, sym, ap, ◌∙◌, subst}
use Rattle.std.proofs.Common.{Result, Ok, Err}
use Prim.Native.Nat.{ℕ, zero, suc, ◌-◌, ◌*◌, ◌≤◌, ◌<◌}
use native.Mathlib.Omega.{arith}
use lib.Dec.{leb}
use lib.ListN.{length, take}
use lib.Seq.{length-take-le}
use borrow.Author.Tests.{lt-leb, leb-true, leb-false}
use Rattle.codepage.specs.CodePage.{CodePage, entry_at}
use Rattle.codepage.specs.Reading.{size_of}
use Rattle.codepage.proofs.ShapeLaws.{shape_exact}
use Rattle.convert.specs.Runs.{piece_limit}
use Rattle.codepage_walk.specs.Checks.{refuse_unless, bytes_reader, TextPasses, TextFails}
use Rattle.codepage_walk.proofs.CheckLaws.{refused_exact, passed_exact, text_cases, not_good}
use Rattle.codepage_walk.specs.Walk.{Placed, placed}
use Rattle.charindex.specs.declared.Found.{Found}
use Rattle.charindex.specs.declared.Refusal.{Refusal}
use Rattle.charindex.specs.declared.Refusal.TheVariants.{BadShape, TooLong, FormerTooLong, BadIndex, NoSuchCode}
use Rattle.charindex.specs.Index.{count_of, blocks_of, append_of, code_number, find_of}
use Rattle.charindex.specs.Calls.{counts_within, append_refusal, append_unless, appending_of, found_or29, finding_of}
use Rattle.charindex.specs.Claims.{Right, OverCounted, AppendSays, AppendPasses, FindPasses, FindSays}
use Rattle.charindex.proofs.CallLaws.{find_bad, find_long, find_short, find_given, append_bad, append_long, append_former, append_short, append_rest}
use Rattle.charindex.proofs.FindLaws.{found_at}
use Rattle.charindex.proofs.Theorems.{find_right, append_right, right_within, number_none}

-- ---- finding
module _ (p : CodePage) (journal entries : List ℕ) (n : ℕ) where
  find_says : (why : Refusal) → FindSays p journal entries n why → finding_of p journal entries n ≡ Err why
  find_says BadShape h = find_bad p journal entries n (not_good p h)
  find_says TooLong (g, h) = find_long p journal entries n ((shape_exact p).1 g) h
  find_says FormerTooLong h = absurd h
  find_says BadIndex ((g, h), s) = find_short p journal entries n ((shape_exact p).1 g) h s
  find_says NoSuchCode (((g, h), s), e) = find_given p journal entries n ((shape_exact p).1 g) h s ∙ ap found_or29 e

  -- a code is found
  pub record CodeFound : Type 0 where
    pub passes : FindPasses p journal entries
    pub code : Placed
    pub found_it : find_of (bytes_reader p) journal entries n ≡ some code

  find_passes : (c : CodeFound) → finding_of p journal entries n ≡ Ok (record { place = c.code.place; length = size_of c.code.code })
  find_passes c = let ((g, h), s) = c.passes in find_given p journal entries n ((shape_exact p).1 g) h s ∙ ap found_or29 c.found_it

  find_cases : ((why : Refusal) × FindSays p journal entries n why) ⊎ CodeFound
  find_cases = by (text_cases p piece_limit (length journal))
    where
      by_code : FindPasses p journal entries → (o : Option Placed) → find_of (bytes_reader p) journal entries n ≡ o → ((why : Refusal) × FindSays p journal entries n why) ⊎ CodeFound
      by_code h none e = inl (NoSuchCode, (h, e))
      by_code h (some code) e = inr (record { passes = h; code = code; found_it = e })

      by_size : TextPasses p piece_limit (length journal) → (t : Bool) → leb (blocks_of (length journal)) (length entries) ≡ t → ((why : Refusal) × FindSays p journal entries n why) ⊎ CodeFound
      by_size h true e = by_code (h, leb-true _ _ e) (find_of (bytes_reader p) journal entries n) refl
      by_size h false e = inl (BadIndex, (h, leb-false _ _ e))

      by : TextFails p piece_limit (length journal) ⊎ TextPasses p piece_limit (length journal) → ((why : Refusal) × FindSays p journal entries n why) ⊎ CodeFound
      by (inl (inl h)) = inl (BadShape, h)
      by (inl (inr h)) = inl (TooLong, h)
      by (inr h) = by_size h (leb (blocks_of (length journal)) (length entries)) refl

  -- EACH REFUSAL OF FINDING EXACTLY IN ITS CASE: 10, 11, 28, and 29 if the rule finds no block or no code.
  pub find_refused_exact : (why : Refusal) → (finding_of p journal entries n ≡ Err why) ↔ FindSays p journal entries n why
  find_refused_exact why = (λ e. by e find_cases, find_says why)
    where
      by : finding_of p journal entries n ≡ Err why → ((why : Refusal) × FindSays p journal entries n why) ⊎ CodeFound → FindSays p journal entries n why
      by e (inl (other, h)) =
          let q : ◌≡◌ {A = Result Found Refusal} (Err other) (Err why) = sym (find_says other h) ∙ e in
          let same : other ≡ why = cc in
          subst (FindSays p journal entries n) same h
      by e (inr c) =
          let q : ◌≡◌ {A = Result Found Refusal} (Ok (record { place = c.code.place; length = size_of c.code.code })) (Err why) = sym (find_passes c) ∙ e in
          absurd (let z : ◌≡◌ {A = ℕ} 0 1 = cc in omega arith)

  -- A CODE IS FOUND exactly if 10, 11 and 28 pass and the rule finds one; the answer is its place and its length.
  pub find_found_exact : (place size : ℕ) → (finding_of p journal entries n ≡ Ok (record { place = place; length = size })) ↔ ((c : CodeFound) × (c.code.place ≡ place) × (size_of c.code.code ≡ size))
  find_found_exact place size = (λ e. by e find_cases, λ (c, a, b). find_passes c ∙ ap (λ (i : ℕ). Ok (found_at i (size_of c.code.code))) a ∙ ap (λ (i : ℕ). Ok (found_at place i)) b)
    where
      by : finding_of p journal entries n ≡ Ok (record { place = place; length = size }) → ((why : Refusal) × FindSays p journal entries n why) ⊎ CodeFound
          → (c : CodeFound) × (c.code.place ≡ place) × (size_of c.code.code ≡ size)
      by e (inl (other, h)) =
          let q : ◌≡◌ {A = Result Found Refusal} (Err other) (Ok (record { place = place; length = size })) = sym (find_says other h) ∙ e in
          absurd (let z : ◌≡◌ {A = ℕ} 0 1 = cc in omega arith)
      by e (inr c) =
          let q : ◌≡◌ {A = Result Found Refusal} (Ok (record { place = c.code.place; length = size_of c.code.code })) (Ok (record { place = place; length = size })) = sym (find_passes c) ∙ e in
          let same : found_at c.code.place (size_of c.code.code) ≡ found_at place size = cc in
          let a : c.code.place ≡ place = ap (λ (f : Found). f.place) same in
          let b : size_of c.code.code ≡ size = ap (λ (f : Found). f.length) same in
          (c, a, b)

  -- BY A RIGHT INDEX finding answers the place and the length of code n of the whole reading, or 29 exactly if there is none.
  pub finds_whole : FindPasses p journal entries → Right (bytes_reader p) journal entries → finding_of p journal entries n ≡ found_or29 (code_number n (placed (bytes_reader p) journal))
  finds_whole ((g, h), s) right = find_given p journal entries n ((shape_exact p).1 g) h s ∙ ap found_or29 (find_right (bytes_reader p) journal entries right n)

  found_none : (o : Option Placed) → found_or29 o ≡ Err NoSuchCode → o ≡ none
  found_none none e = refl
  found_none (some k) e = absurd (let z : ◌≡◌ {A = ℕ} 0 1 = cc in omega arith)

  -- By a right index, 29 exactly if the whole reading has at most n codes.
  pub whole_has_none : FindPasses p journal entries → Right (bytes_reader p) journal entries → (finding_of p journal entries n ≡ Err NoSuchCode) ↔ (length (placed (bytes_reader p) journal) ≤ n)
  whole_has_none passes right = (
    λ e. (number_none n (placed (bytes_reader p) journal)).0 (found_none (code_number n (placed (bytes_reader p) journal)) (sym (finds_whole passes right) ∙ e)),
    λ h. finds_whole passes right ∙ ap found_or29 ((number_none n (placed (bytes_reader p) journal)).1 h),
  )

-- ---- appending
module _ (p : CodePage) (journal : List ℕ) (former : ℕ) (entries : List ℕ) where
  over_counted : (blocks : ℕ) → OverCounted entries blocks → counts_within entries blocks ≡ false
  unfolding counts_within
  over_counted zero (h, o) = absurd (omega arith)
  over_counted (suc block) (h, o) =
      let same : suc block - 1 ≡ block = omega arith in
      lt-leb (count_of (entry_at entries block)) (512 * block) (subst (λ (b : ℕ). 512 * b < count_of (entry_at entries b)) same o)

  counted_cases : (blocks : ℕ) → OverCounted entries blocks ⊎ (counts_within entries blocks ≡ true)
  unfolding counts_within
  counted_cases zero = inr refl
  counted_cases (suc block) = by (leb (count_of (entry_at entries block)) (512 * block)) refl
    where
      by : (t : Bool) → leb (count_of (entry_at entries block)) (512 * block) ≡ t → OverCounted entries (suc block) ⊎ (leb (count_of (entry_at entries block)) (512 * block) ≡ true)
      by true e = inr e
      by false e =
          let same : block ≡ suc block - 1 = omega arith in
          inl (omega arith, subst (λ (b : ℕ). 512 * b < count_of (entry_at entries b)) same (leb-false _ _ e))

  rest_false : counts_within entries (blocks_of former) ≡ false → refuse_unless BadIndex (counts_within entries (blocks_of former)) none ≡ some BadIndex
  rest_false e = rw e

  rest_true : counts_within entries (blocks_of former) ≡ true → refuse_unless BadIndex (counts_within entries (blocks_of former)) none ≡ none
  rest_true e = rw e

  append_says : (why : Refusal) → AppendSays p journal former entries why → append_refusal p journal former entries ≡ some why
  append_says BadShape h = append_bad p journal former entries (not_good p h)
  append_says TooLong (g, h) = append_long p journal former entries ((shape_exact p).1 g) h
  append_says FormerTooLong ((g, h), f) = append_former p journal former entries ((shape_exact p).1 g) h f
  append_says BadIndex ((g, h), f, inl s) = append_short p journal former entries ((shape_exact p).1 g) h f s
  append_says BadIndex ((g, h), f, inr o) = by (leb (blocks_of (length journal)) (length entries)) refl
    where
      by : (t : Bool) → leb (blocks_of (length journal)) (length entries) ≡ t → append_refusal p journal former entries ≡ some BadIndex
      by true e = append_rest p journal former entries ((shape_exact p).1 g) h f (leb-true _ _ e) ∙ rest_false (over_counted (blocks_of former) o)
      by false e = append_short p journal former entries ((shape_exact p).1 g) h f (leb-false _ _ e)
  append_says NoSuchCode h = absurd h

  append_passes : AppendPasses p journal former entries → append_refusal p journal former entries ≡ none
  append_passes ((g, h), f, s, o) = append_rest p journal former entries ((shape_exact p).1 g) h f s ∙ by (counted_cases (blocks_of former))
    where
      by : OverCounted entries (blocks_of former) ⊎ (counts_within entries (blocks_of former) ≡ true) → refuse_unless BadIndex (counts_within entries (blocks_of former)) none ≡ none
      by (inl over) = absurd (o over)
      by (inr e) = rest_true e

  append_cases : ((why : Refusal) × AppendSays p journal former entries why) ⊎ AppendPasses p journal former entries
  append_cases = by (text_cases p piece_limit (length journal))
    where
      by_count : TextPasses p piece_limit (length journal) → former ≤ length journal → blocks_of (length journal) ≤ length entries
          → OverCounted entries (blocks_of former) ⊎ (counts_within entries (blocks_of former) ≡ true) → ((why : Refusal) × AppendSays p journal former entries why) ⊎ AppendPasses p journal former entries
      by_count h f s (inl o) = inl (BadIndex, (h, f, inr o))
      by_count h f s (inr e) = inr (h, f, s, λ o. false≢true (sym (over_counted (blocks_of former) o) ∙ e))

      by_size : TextPasses p piece_limit (length journal) → former ≤ length journal → (t : Bool) → leb (blocks_of (length journal)) (length entries) ≡ t
          → ((why : Refusal) × AppendSays p journal former entries why) ⊎ AppendPasses p journal former entries
      by_size h f true e = by_count h f (leb-true _ _ e) (counted_cases (blocks_of former))
      by_size h f false e = inl (BadIndex, (h, f, inl (leb-false _ _ e)))

      by_former : TextPasses p piece_limit (length journal) → (t : Bool) → leb former (length journal) ≡ t → ((why : Refusal) × AppendSays p journal former entries why) ⊎ AppendPasses p journal former entries
      by_former h true e = by_size h (leb-true _ _ e) (leb (blocks_of (length journal)) (length entries)) refl
      by_former h false e = inl (FormerTooLong, (h, leb-false _ _ e))

      by : TextFails p piece_limit (length journal) ⊎ TextPasses p piece_limit (length journal) → ((why : Refusal) × AppendSays p journal former entries why) ⊎ AppendPasses p journal former entries
      by (inl (inl h)) = inl (BadShape, h)
      by (inl (inr h)) = inl (TooLong, h)
      by (inr h) = by_former h (leb former (length journal)) refl

  given_refused : (o : Option Refusal) (blocks : ℕ) (after : List ℕ) (why : Refusal) → (append_unless o blocks entries after).answer ≡ Err why → o ≡ some why
  given_refused none blocks after why e = absurd (let z : ◌≡◌ {A = ℕ} 0 1 = cc in omega arith)
  given_refused (some other) blocks after why e = let same : other ≡ why = cc in ap (λ (w : Refusal). some w) same

  -- EACH REFUSAL OF APPENDING EXACTLY IN ITS CASE: 10, 11, 33, 28; the index is then as before.
  pub append_refused_exact : (why : Refusal) → ((appending_of p journal former entries).answer ≡ Err why) ↔ AppendSays p journal former entries why
  unfolding appending_of
  append_refused_exact why = (
    λ e. (refused_exact (AppendSays p journal former entries) (AppendPasses p journal former entries) (append_refusal p journal former entries) append_says append_passes append_cases why).0
        (given_refused (append_refusal p journal former entries) (blocks_of (length journal)) (append_of (bytes_reader p) journal former entries) why e),
    λ h. ap (λ (o : Option Refusal). (append_unless o (blocks_of (length journal)) entries (append_of (bytes_reader p) journal former entries)).answer) (append_says why h),
  )

  -- a refused call leaves the index as it was
  pub refused_untouched : (why : Refusal) → (appending_of p journal former entries).answer ≡ Err why → (appending_of p journal former entries).entries ≡ entries
  unfolding appending_of
  refused_untouched why e =
      ap (λ (o : Option Refusal). (append_unless o (blocks_of (length journal)) entries (append_of (bytes_reader p) journal former entries)).entries)
      (given_refused (append_refusal p journal former entries) (blocks_of (length journal)) (append_of (bytes_reader p) journal former entries) why e)

  given_entries : (o : Option Refusal) (blocks : ℕ) (after : List ℕ) (count : ℕ) → (append_unless o blocks entries after).answer ≡ Ok count → (o ≡ none) × (count ≡ blocks)
  given_entries none blocks after count e = (refl, cc)
  given_entries (some other) blocks after count e = absurd (let z : ◌≡◌ {A = ℕ} 0 1 = cc in omega arith)

  -- ACCEPTED EXACTLY if all checks pass; the answer is the number of the journal's blocks.
  pub append_accepted_exact : (count : ℕ) → ((appending_of p journal former entries).answer ≡ Ok count) ↔ (AppendPasses p journal former entries × (count ≡ blocks_of (length journal)))
  unfolding appending_of
  append_accepted_exact count = (
    λ e. let (o, c) = given_entries (append_refusal p journal former entries) (blocks_of (length journal)) (append_of (bytes_reader p) journal former entries) count e in (
      (passed_exact (AppendSays p journal former entries) (AppendPasses p journal former entries) (append_refusal p journal former entries) append_says append_passes append_cases).0 o,
      c,
    ),
    λ (passes, c). rw (append_passes passes) (ap (λ (k : ℕ). Ok k) (sym c)),
  )

  -- A RIGHT INDEX THAT IS LONG ENOUGH IS ACCEPTED.
  pub right_passes : TextPasses p piece_limit (length journal) → former ≤ length journal → blocks_of (length journal) ≤ length entries → Right (bytes_reader p) (take former journal) entries → AppendPasses p journal former entries
  right_passes h f s right = (h, f, s, not_over)
    where
      size : length (take former journal) ≡ former
      size = length-take-le former journal f

      not_over : OverCounted entries (blocks_of former) → ⊥
      not_over (some_block, over) =
          let within = right_within (bytes_reader p) (take former journal) entries right (blocks_of former - 1) (omega (arith, size)) in
          omega arith

  -- A RIGHT INDEX APPENDED TO: the call leaves the index of the journal made anew, and says how many entries it has.
  pub appends_anew : TextPasses p piece_limit (length journal) → former ≤ length journal → blocks_of (length journal) ≤ length entries → Right (bytes_reader p) (take former journal) entries
      → ((appending_of p journal former entries).answer ≡ Ok (blocks_of (length journal))) × Right (bytes_reader p) journal (appending_of p journal former entries).entries
  unfolding appending_of
  appends_anew h f s right = rw (append_passes (right_passes h f s right)) (refl, append_right (bytes_reader p) journal former entries f right s)
