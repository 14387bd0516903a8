-- Each answer of the reader and of the writer exactly in its case; a refused line leaves the tables as they were.
use Rattle.std.specs.declared.result.Result.{Result}
use Rattle.std.specs.declared.option.Option.{Option}
use Rattle.lister.specs.declared.Line.{Line}
use mathlib.Core.Bool.{Bool, true, false, true≢false}
use mathlib.Core.List.{List}
use mathlib.Core.Logic.{◌⊎◌, inl, inr, ◌↔◌}
use mathlib.Core.Path.{◌≡◌, refl, sym, ap, ◌∙◌, subst}
use Prim.Native.Nat.{ℕ, ◌+◌, ◌≤◌, ◌<◌}
use native.Mathlib.Omega.{arith}
use lib.Dec.{leb, ltb}
use lib.ListN.{length}
use borrow.Author.Tests.{le-leb, lt-leb, lt-ltb, le-ltb, leb-true, leb-false, ltb-true, ltb-false}
use Rattle.codepage.specs.CodePage.{CodePage, GoodShape, first_fault, is_good}
use Rattle.codepage.proofs.ShapeLaws.{shape_exact}
use Rattle.codepage.specs.declared.Numbers.{Numbers}
use Rattle.listing.specs.declared.Progress.{Progress}
use Rattle.codepage.specs.declared.Sizes.{Sizes}
use Rattle.listing.specs.declared.Refusal.{Refusal}
use Rattle.listing.specs.declared.Refusal.TheVariants.{BadLine, TooSmall}
use Rattle.std.specs.declared.result.Result.TheVariants.{Ok, Err}
use Rattle.std.specs.declared.option.Option.TheVariants.{None, Some}
use Rattle.listing.specs.Form.{record_of}
use Rattle.listing.specs.Order.{rank, accepts, after_record, sizes_listed}
use Rattle.listing.specs.Tables.{Tables, Reading, reading_as, change_of, tables_fit, read_record, line_reading, listing_end}
use Rattle.lister.specs.declared.Cursor.{Cursor}
use Rattle.lister.specs.declared.Refusal.{Refusal as WriterRefusal}
use Rattle.lister.specs.declared.Refusal.TheVariants.{BadShape, NoRoom}
use Rattle.lister.specs.Lines.{record_line}
use Rattle.lister.specs.Lister.{places, record_at, next_place, NextLine, no_line, list_record, list_of}
use Rattle.listing_laws.specs.Claims.{ReadSays, ReadPasses, IsLeft, WriteSays}

-- ---- the reader
module _ (s : Progress) (line : List ℕ) (t : Tables) where
  -- a refused line: its answer, and the tables as they were
  pub read_says : (why : Refusal) → ReadSays s line t why → line_reading s line t ≡ reading_as (Err why) t
  unfolding line_reading read_record
  read_says BadLine e = rw e
  read_says TooSmall (e, f) = rw (e, f)

  -- a line that passes is accepted, and changes what its record means
  pub read_passes : ReadPasses s line t → line_reading s line t ≡ reading_as (Ok (after_record s (record_of line))) (change_of s (record_of line) t)
  unfolding line_reading read_record
  read_passes (e, f) = rw (e, f)

  refused_as : {a b : Refusal} → ◌≡◌ {A = Result Progress Refusal} (Err a) (Err b) → a ≡ b
  refused_as e = cc

  apart : {a : Refusal} {u : Progress} → ◌≡◌ {A = Result Progress Refusal} (Err a) (Ok u) → ⊥
  apart {a} {u} e = let z : ◌≡◌ {A = ℕ} 0 1 = cc in omega arith

  -- one of the three answers, with its case
  Answers : Type 0
  Answers = ((why : Refusal) × ((line_reading s line t).answer ≡ Err why) × ReadSays s line t why) ⊎ (((line_reading s line t).answer ≡ Ok (after_record s (record_of line))) × ReadPasses s line t)

  answers : Answers
  unfolding Answers
  answers = by_tests (accepts s (record_of line)) refl (tables_fit (sizes_listed (after_record s (record_of line))) t) refl
    where
      by_tests : (a : Bool) → accepts s (record_of line) ≡ a → (b : Bool) → tables_fit (sizes_listed (after_record s (record_of line))) t ≡ b
          → ((why : Refusal) × ((line_reading s line t).answer ≡ Err why) × ReadSays s line t why) ⊎ (((line_reading s line t).answer ≡ Ok (after_record s (record_of line))) × ReadPasses s line t)
      by_tests false q b w = inl (BadLine, ap (λ (r : Reading). r.answer) (read_says BadLine q), q)
      by_tests true q false w = inl (TooSmall, ap (λ (r : Reading). r.answer) (read_says TooSmall (q, w)), (q, w))
      by_tests true q true w = inr (ap (λ (r : Reading). r.answer) (read_passes (q, w)), (q, w))

  -- EACH REFUSAL exactly in its case: 22, then 23.
  pub read_refused_exact : (why : Refusal) → ((line_reading s line t).answer ≡ Err why) ↔ ReadSays s line t why
  unfolding Answers
  read_refused_exact why = (λ e. by e answers, λ c. ap (λ (r : Reading). r.answer) (read_says why c))
    where
      by : (line_reading s line t).answer ≡ Err why → ((x : Refusal) × ((line_reading s line t).answer ≡ Err x) × ReadSays s line t x) ⊎ (((line_reading s line t).answer ≡ Ok (after_record s (record_of line))) × ReadPasses s line t) → ReadSays s line t why
      by e (inl (x, f, c)) = subst (ReadSays s line t) (refused_as (sym f ∙ e)) c
      by e (inr (f, c)) = absurd (apart (sym e ∙ f))

  -- ACCEPTED exactly if neither refusal is the case; then the record is what changes the tables.
  pub read_accepted_exact : (u : Progress) → ((line_reading s line t).answer ≡ Ok u) ↔ (ReadPasses s line t × (u ≡ after_record s (record_of line)))
  unfolding Answers
  read_accepted_exact u = (λ e. by e answers, λ c. ap (λ (r : Reading). r.answer) (read_passes c.0) ∙ ap {B = Result Progress Refusal} Ok (sym c.1))
    where
      accepted_as : {a b : Progress} → ◌≡◌ {A = Result Progress Refusal} (Ok a) (Ok b) → a ≡ b
      accepted_as e = cc

      by : (line_reading s line t).answer ≡ Ok u → ((x : Refusal) × ((line_reading s line t).answer ≡ Err x) × ReadSays s line t x) ⊎ (((line_reading s line t).answer ≡ Ok (after_record s (record_of line))) × ReadPasses s line t)
          → ReadPasses s line t × (u ≡ after_record s (record_of line))
      by e (inl (x, f, c)) = absurd (apart (sym f ∙ e))
      by e (inr (f, c)) = (c, accepted_as (sym e ∙ f))

  -- A REFUSED LINE leaves the tables as before it.
  pub refused_unchanged : (why : Refusal) → (line_reading s line t).answer ≡ Err why → (line_reading s line t).lent ≡ t
  refused_unchanged why e = ap (λ (r : Reading). r.lent) (read_says why ((read_refused_exact why).0 e))

-- THE END is refused, by 22, exactly if `P` and `D` were not both read.
pub end_refused_exact : (s : Progress) → (listing_end s ≡ Err BadLine) ↔ (rank s.letter < 2)
unfolding listing_end
end_refused_exact s = (λ e. by_rank (leb 2 (rank s.letter)) refl e, λ h. rw (lt-leb 2 (rank s.letter) h))
  where
    whole_not : {n : Numbers} {z : Sizes} → ◌≡◌ {A = Result (Numbers × Sizes) Refusal} (Ok (n, z)) (Err BadLine) → ⊥
    whole_not {n} {z} e = let x : ◌≡◌ {A = ℕ} 0 1 = cc in omega arith

    by_rank : (b : Bool) → leb 2 (rank s.letter) ≡ b → listing_end s ≡ Err BadLine → rank s.letter < 2
    by_rank true q e = absurd (whole_not {n = s.numbers} {z = sizes_listed s} (sym (rw q) ∙ e))
    by_rank false q e = leb-false 2 (rank s.letter) q

-- ---- the writer
module _ (p : CodePage) (cursor : Cursor) (room : ℕ) where
  abbrev next : ℕ
  next = next_place p cursor.place

  write_says : (why : WriterRefusal) → WriteSays p cursor room why → list_of p cursor room ≡ no_line (Err why)
  unfolding list_of list_record
  write_says BadShape bad = by_shape (is_good (first_fault p)) refl
    where
      by_shape : (b : Bool) → is_good (first_fault p) ≡ b → list_of p cursor room ≡ no_line (Err BadShape)
      by_shape true q = absurd (bad ((shape_exact p).0 q))
      by_shape false q = rw q
  write_says NoRoom (good, left, small) = rw ((shape_exact p).1 good, lt-leb places next left, lt-ltb room (length (record_line (record_at p next))) small)

  -- done: the shape is good, and no record is left
  write_done : GoodShape p → places ≤ next → list_of p cursor room ≡ no_line (Ok None)
  unfolding list_of
  write_done good none = rw ((shape_exact p).1 good, le-leb places next none)

  write_line : GoodShape p → IsLeft p cursor → length (record_line (record_at p next)) ≤ room
      → list_of p cursor room ≡ record { answer = Ok (Some (record { length = length (record_line (record_at p next)); next = record { place = next + 1 } })); line = record_line (record_at p next) }
  unfolding list_of list_record
  write_line good left fits = rw ((shape_exact p).1 good, lt-leb places next left, le-ltb room (length (record_line (record_at p next))) fits)

  -- EACH REFUSAL exactly in its case: 10, then 19.
  pub write_refused_exact : (why : WriterRefusal) → ((list_of p cursor room).answer ≡ Err why) ↔ WriteSays p cursor room why
  write_refused_exact why = (λ e. by_shape e (is_good (first_fault p)) refl (leb places next) refl (ltb room (length (record_line (record_at p next)))) refl, λ c. ap (λ (n : NextLine). n.answer) (write_says why c))
    where
      refusal_as : {a b : WriterRefusal} → ◌≡◌ {A = Result (Option Line) WriterRefusal} (Err a) (Err b) → a ≡ b
      refusal_as e = cc

      done_not : {a : WriterRefusal} → ◌≡◌ {A = Result (Option Line) WriterRefusal} (Ok None) (Err a) → ⊥
      done_not {a} e = let x : ◌≡◌ {A = ℕ} 0 1 = cc in omega arith

      line_not : {n : ℕ} {c : Cursor} {a : WriterRefusal} → ◌≡◌ {A = Result (Option Line) WriterRefusal} (Ok (Some (record { length = n; next = c }))) (Err a) → ⊥
      line_not {n} {c} {a} e = let x : ◌≡◌ {A = ℕ} 0 1 = cc in omega arith

      told : (x : WriterRefusal) → WriteSays p cursor room x → (list_of p cursor room).answer ≡ Err why → WriteSays p cursor room why
      told x c e = subst (WriteSays p cursor room) (refusal_as (sym (ap (λ (n : NextLine). n.answer) (write_says x c)) ∙ e)) c

      by_shape : (list_of p cursor room).answer ≡ Err why → (a : Bool) → is_good (first_fault p) ≡ a → (b : Bool) → leb places next ≡ b → (d : Bool) → ltb room (length (record_line (record_at p next))) ≡ d → WriteSays p cursor room why
      by_shape e false q b w d o = told BadShape (λ g. true≢false (sym ((shape_exact p).1 g) ∙ q)) e
      by_shape e true q true w d o = absurd (done_not (sym (ap (λ (n : NextLine). n.answer) (write_done ((shape_exact p).0 q) (leb-true places next w))) ∙ e))
      by_shape e true q false w true o = told NoRoom ((shape_exact p).0 q, leb-false places next w, ltb-true room (length (record_line (record_at p next))) o) e
      by_shape e true q false w false o = absurd (line_not (sym (ap (λ (n : NextLine). n.answer) (write_line ((shape_exact p).0 q) (leb-false places next w) (ltb-false room (length (record_line (record_at p next))) o))) ∙ e))
