-- THE WRITER'S RUN: the lines of its calls, from the first cursor on, are the whole listing, and then it is done.
use mathlib.Core.Bool.{Bool, true, false}
use mathlib.Core.List.{List, [], ◌∷◌}
use mathlib.Core.Path.{◌≡◌, refl, ap, ◌∙◌}
use Prim.Native.Nat.{ℕ, zero, suc, ◌+◌, ◌≤◌, ◌<◌}
use native.Mathlib.Numerals.{add-one}
use native.Mathlib.Omega.{arith}
use lib.Dec.{ltb, eqb}
use lib.ListN.{length, length-append}
use borrow.Author.Tests.{le-leb, lt-leb, le-ltb}
use Rattle.codepage.specs.CodePage.{CodePage, GoodShape, pick, first_fault, is_good}
use Rattle.codepage.proofs.ShapeLaws.{shape_exact}
use Rattle.listing.specs.declared.Record.{Record}
use Rattle.listing.specs.declared.Record.TheVariants.{Page, Defaults, Single, Lead, Trail, Pair, Code, NoRecord}
use Rattle.lister.specs.declared.Cursor.{Cursor}
use Rattle.std.specs.declared.result.Result.TheVariants.{Ok}
use Rattle.std.specs.declared.option.Option.TheVariants.{None, Some}
use Rattle.lister.specs.Lines.{decimal_text, page_text, unit_text, single_text, record_line}
use Rattle.lister.specs.Lister.{places, record_at, is_record, NextLine, no_line, list_record, list_of, first_line}
use Rattle.lister.proofs.PlaceLaws.{next_end, next_here, next_turn}
use Rattle.listing_laws.specs.Round.{lines_from, whole_listing}
use Rattle.listing_laws.specs.Run.{line_then, then_write, write_all}

-- ---- a line has at most 12 bytes
page_short : (page : ℕ) → length (page_text page) ≤ 5
unfolding page_text
page_short page = by_size (ltb page 10) (ltb page 100) (ltb page 1000) (ltb page 10000)
  where
    by_size : (a b c d : Bool) → length (pick a (decimal_text 1 page) (pick b (decimal_text 2 page) (pick c (decimal_text 3 page) (pick d (decimal_text 4 page) (decimal_text 5 page))))) ≤ 5
    by_size true b c d = omega arith
    by_size false true c d = omega arith
    by_size false false true d = omega arith
    by_size false false false true = omega arith
    by_size false false false false = omega arith

single_short : (unit : ℕ) → length (single_text unit) ≤ 4
unfolding single_text
single_short unit = by_unit (eqb unit 0xFFFF)
  where
    by_unit : (t : Bool) → length (pick t (0x2D ∷ []) (unit_text unit)) ≤ 4
    by_unit true = omega arith
    by_unit false = omega arith

-- a line has at most 12 bytes
pub line_short : (r : Record) → length (record_line r) ≤ 12
line_short (Page page) = omega (arith, page_short page, length-append (page_text page) (10 ∷ []))
line_short (Defaults byte unit) = omega arith
line_short (Single byte unit) = omega (arith, single_short unit, length-append (single_text unit) (10 ∷ []))
line_short (Lead byte) = omega arith
line_short (Trail byte) = omega arith
line_short (Pair code unit) = omega arith
line_short (Code unit code) = omega arith
line_short NoRecord = omega arith

-- ---- a call at a place
module _ (p : CodePage) (good : GoodShape p) (room : ℕ) (roomy : 12 ≤ room) (place : ℕ) where
  shaped : is_good (first_fault p) ≡ true
  shaped = (shape_exact p).1 good

  abbrev at : Cursor
  at = record { place = place }

  call_done : places ≤ place → list_of p at room ≡ no_line (Ok None)
  unfolding list_of
  call_done h = rw (shaped, next_end p place h, le-leb places place h)

  call_line : place < places → is_record (record_at p place) ≡ true
      → list_of p at room ≡ record { answer = Ok (Some (record { length = length (record_line (record_at p place)); next = record { place = place + 1 } })); line = record_line (record_at p place) }
  unfolding list_of list_record
  call_line h e = rw (shaped, next_here p place h e, lt-leb places place h, le-ltb room (length (record_line (record_at p place))) (omega (arith, line_short (record_at p place))))

  call_turn : place < places → is_record (record_at p place) ≡ false → list_of p at room ≡ list_of p (record { place = place + 1 }) room
  unfolding list_of
  call_turn h e = rw (next_turn p place h e)

-- ---- every call
module _ (p : CodePage) (good : GoodShape p) (room : ℕ) (roomy : 12 ≤ room) where
  goes_on : (calls place : ℕ) → list_of p (record { place = place }) room ≡ list_of p (record { place = place + 1 }) room
      → write_all p room (suc calls) (record { place = place }) ≡ write_all p room (suc calls) (record { place = place + 1 })
  unfolding write_all
  goes_on calls place e = ap (λ (n : NextLine). then_write n.answer n.line (λ next. write_all p room calls next)) e

  line_goes : (calls count place : ℕ) → place < places → is_record (record_at p place) ≡ true → write_all p room calls (record { place = place + 1 }) ≡ record { lines = lines_from p count (place + 1); answer = Ok None }
      → write_all p room (suc calls) (record { place = place }) ≡ record { lines = lines_from p (suc count) place; answer = Ok None }
  unfolding write_all lines_from
  line_goes calls count place h q more =
      ap (λ (n : NextLine). then_write n.answer n.line (λ next. write_all p room calls next)) (call_line p good room roomy place h q)
      ∙ ap (line_then (record_line (record_at p place))) more
      ∙ ap (λ (l : List (List ℕ)). record { lines = l; answer = Ok None }) (rw (q, add-one place))

  turn_goes : (calls count place : ℕ) → place < places → is_record (record_at p place) ≡ false → write_all p room (suc calls) (record { place = place + 1 }) ≡ record { lines = lines_from p count (place + 1); answer = Ok None }
      → write_all p room (suc calls) (record { place = place }) ≡ record { lines = lines_from p (suc count) place; answer = Ok None }
  unfolding lines_from
  turn_goes calls count place h q more =
      goes_on calls place (call_turn p good room roomy place h q)
      ∙ more
      ∙ ap (λ (l : List (List ℕ)). record { lines = l; answer = Ok None }) (rw (q, add-one place))

  last_goes : (calls place : ℕ) → places ≤ place → write_all p room (suc calls) (record { place = place }) ≡ record { lines = lines_from p 0 place; answer = Ok None }
  unfolding write_all lines_from
  last_goes calls place h = ap (λ (n : NextLine). then_write n.answer n.line (λ next. write_all p room calls next)) (call_done p good room roomy place h)

  run_from : (count place calls : ℕ) → count + place ≡ 131842 → count < calls → write_all p room calls (record { place = place }) ≡ record { lines = lines_from p count place; answer = Ok None }
  run_from count place zero e h = absurd (omega arith)
  run_from zero place (suc calls) e h = last_goes calls place (omega arith)
  run_from (suc count) place (suc calls) e h =
      by_record (is_record (record_at p place)) refl (run_from count (place + 1) calls (omega arith) (omega arith)) (run_from count (place + 1) (suc calls) (omega arith) (omega arith))
    where
      by_record : (t : Bool) → is_record (record_at p place) ≡ t
          → write_all p room calls (record { place = place + 1 }) ≡ record { lines = lines_from p count (place + 1); answer = Ok None }
          → write_all p room (suc calls) (record { place = place + 1 }) ≡ record { lines = lines_from p count (place + 1); answer = Ok None }
          → write_all p room (suc calls) (record { place = place }) ≡ record { lines = lines_from p (suc count) place; answer = Ok None }
      by_record true q one same = line_goes calls count place (omega arith) q one
      by_record false q one same = turn_goes calls count place (omega arith) q same

  count_of : (n : ℕ) × (n ≡ 131842)
  count_of = (131842, refl)

  run_all : (n : ℕ) → n ≡ 131842 → (calls : ℕ) → n < calls → write_all p room calls first_line ≡ record { lines = lines_from p n 0; answer = Ok None }
  run_all n e calls h = run_from n 0 calls (omega arith) h

  -- From the first cursor on, with room for 12 bytes, the lines of the calls are the whole listing, and then the writer is done.
  pub writer_run : (calls : ℕ) → places < calls → write_all p room calls first_line ≡ record { lines = whole_listing p; answer = Ok None }
  unfolding whole_listing
  writer_run calls h =
      run_all count_of.0 count_of.1 calls (omega (arith, count_of.1))
      ∙ ap (λ (n : ℕ). record { lines = lines_from p n 0; answer = Ok None }) count_of.1
