-- Laws of the call: what it gives in each of its cases, and what its functions require.
use mathlib.Core.Bool.{true, false}
use mathlib.Core.List.{List}
use mathlib.Core.Option.{Option, none, some}
use mathlib.Core.Path.{◌≡◌, refl, sym, ap, ◌∙◌}
use Prim.Native.Nat.{ℕ, ◌+◌, ◌*◌, ◌≤◌, ◌<◌}
use native.Mathlib.Omega.{arith}
use lib.ListN.{length}
use borrow.Author.Tests.{le-leb, lt-leb}
use Rattle.codepage.specs.CodePage.{CodePage, GoodShape, entry_at, leads, first_fault, is_good}
use Rattle.codepage.specs.Lent.{over}
use Rattle.codepage.specs.Marks.{NoLowLead}
use Rattle.codepage.proofs.ShapeLaws.{shape_exact}
use Rattle.codepage_lookup.specs.Profile.{KnownClasses}
use Rattle.convert.specs.Runs.{piece_limit}
use Rattle.convert.proofs.CallLaws.{index_high}
use Rattle.codepage_walk.specs.Checks.{bytes_reader}
use Rattle.spelling.specs.declared.Refusal.{Refusal}
use Rattle.spelling.specs.declared.Refusal.TheVariants.{BadShape, TooLong, AtFault, SpellingTooLong}
use Rattle.std.specs.Prelude.{Result, Ok, Err}
use Rattle.spelling.specs.Calls.{fault_in, spelling_text, spelling_refusal, spelling_of, SpelledAs}
use Rattle.spelling.specs.Steps.{counted_unless, counted_of}

-- ---- tables of a good shape
module _ (p : CodePage) (e : is_good (first_fault p) ≡ true) where
  good : GoodShape p
  good = (shape_exact p).0 e

  -- what tables carry whose shape is good
  pub byte_shape : (length p.classes ≡ 256) × (length p.singles ≡ 256) × (length p.pairs ≡ 256 * leads p.classes) × KnownClasses p.classes × NoLowLead p.classes
  byte_shape = (good.classes, good.singles, good.pairs, good.class, good.low)

  pub unit_shape : (length p.index ≡ 256) × ((high : ℕ) → 256 * entry_at p.index high + 256 ≤ length p.blocks)
  unit_shape = (good.index, λ high. index_high p.index (length p.blocks) high good.index good.number (omega (arith, good.blocks)))

-- ---- what counting found
counted_cases : (o : Option ℕ) (n bytes : ℕ) → Ok bytes ≡ counted_unless o n → (o ≡ none) × (n ≡ bytes)
counted_cases none n bytes e = (refl, cc)
counted_cases (some place) n bytes e = absurd (let z : ◌≡◌ {A = ℕ} 0 1 = cc in omega arith)

refused_cases : (o : Option ℕ) (n : ℕ) (why : Refusal) → Err why ≡ counted_unless o n → (place : ℕ) × (o ≡ some place) × (why ≡ AtFault place)
refused_cases none n why e = absurd (let z : ◌≡◌ {A = ℕ} 0 1 = cc in omega arith)
refused_cases (some place) n why e = (place, refl, cc)

module _ (p : CodePage) (e : is_good (first_fault p) ≡ true) (text : List ℕ) (c : Result ℕ Refusal) (w : c ≡ counted_of (bytes_reader p) p.index p.blocks text) where
  -- so many bytes: no code is at fault
  pub counted_bytes : (bytes : ℕ) → c ≡ Ok bytes → (fault_in p text ≡ none) × (length (spelling_text p text) ≡ bytes)
  unfolding counted_of
  counted_bytes bytes q = counted_cases (fault_in p text) (length (spelling_text p text)) bytes (sym q ∙ w)

  -- a refusal: the first code at fault
  pub counted_fault : (why : Refusal) → c ≡ Err why → (place : ℕ) × (fault_in p text ≡ some place) × (why ≡ AtFault place)
  unfolding counted_of
  counted_fault why q = refused_cases (fault_in p text) (length (spelling_text p text)) why (sym q ∙ w)

-- ---- the refusals
module _ (p : CodePage) (text : List ℕ) (room : ℕ) where
  -- 10
  pub spelling_bad : is_good (first_fault p) ≡ false → spelling_refusal p text room ≡ some BadShape
  unfolding spelling_refusal
  spelling_bad e = rw e

  module _ (e : is_good (first_fault p) ≡ true) where
    -- 11
    pub spelling_long : piece_limit < length text → spelling_refusal p text room ≡ some TooLong
    unfolding spelling_refusal
    spelling_long h = rw (e, lt-leb (length text) piece_limit h)

    module _ (h : length text ≤ piece_limit) where
      -- 24
      pub spelling_fault : (place : ℕ) → fault_in p text ≡ some place → spelling_refusal p text room ≡ some (AtFault place)
      unfolding spelling_refusal
      spelling_fault place f = rw (e, le-leb (length text) piece_limit h, f)

      module _ (f : fault_in p text ≡ none) where
        -- 25: the spelling is over the limit
        pub spelling_over : piece_limit < length (spelling_text p text) → spelling_refusal p text room ≡ some SpellingTooLong
        unfolding spelling_refusal
        spelling_over l = rw (e, le-leb (length text) piece_limit h, f, lt-leb (length (spelling_text p text)) piece_limit l)

        module _ (l : length (spelling_text p text) ≤ piece_limit) where
          -- 25: it does not fit the room
          pub spelling_no_room : room < length (spelling_text p text) → spelling_refusal p text room ≡ some SpellingTooLong
          unfolding spelling_refusal
          spelling_no_room s = rw (e, le-leb (length text) piece_limit h, f, le-leb (length (spelling_text p text)) piece_limit l, lt-leb (length (spelling_text p text)) room s)

          -- else there is no refusal
          pub spelling_accepted : length (spelling_text p text) ≤ room → spelling_refusal p text room ≡ none
          unfolding spelling_refusal
          spelling_accepted s = rw (e, le-leb (length text) piece_limit h, f, le-leb (length (spelling_text p text)) piece_limit l, le-leb (length (spelling_text p text)) room s)

-- ---- what the call returns
module _ (p : CodePage) (text before : List ℕ) where
  -- refused: the output is as before
  pub spelled_refused : (why : Refusal) → spelling_refusal p text (length before) ≡ some why → SpelledAs (spelling_of p text (length before)) (Err why) before before
  unfolding spelling_of over
  spelled_refused why e = rw e (record { answer = refl; lent = refl })

  -- accepted: the spelling is written
  pub spelled_given : (bytes : ℕ) (after : List ℕ) → spelling_refusal p text (length before) ≡ none → length (spelling_text p text) ≡ bytes → after ≡ over before (spelling_text p text)
      → SpelledAs (spelling_of p text (length before)) (Ok bytes) before after
  unfolding spelling_of
  spelled_given bytes after e n w = rw e (record { answer = ap (λ (m : ℕ). Ok m) (sym n); lent = w })

-- counting found a code at fault: the call returns what counting did
pub spelled_fault : (p : CodePage) → is_good (first_fault p) ≡ true → (text before : List ℕ) → length text ≤ piece_limit → (c : Result ℕ Refusal) → c ≡ counted_of (bytes_reader p) p.index p.blocks text → (why : Refusal) → c ≡ Err why
    → SpelledAs (spelling_of p text (length before)) (Err why) before before
spelled_fault p e text before h c w why q =
    let (place, fault, same) = counted_fault p e text c w why q in
    rw same (spelled_refused p text before (AtFault place) (spelling_fault p text (length before) e h place fault))
