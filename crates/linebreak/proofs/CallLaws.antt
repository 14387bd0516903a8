-- Laws of the two calls: what each gives in each of its cases.
use mathlib.Core.Bool.{true, false}
use mathlib.Core.List.{List}
use mathlib.Core.Option.{none, some}
use mathlib.Core.Path.{◌≡◌, refl, ap}
use Rattle.std.proofs.Common.{Ok, Err}
use Prim.Native.Nat.{ℕ, ◌≤◌, ◌<◌}
use lib.ListN.{length}
use borrow.Author.Tests.{le-leb, lt-leb}
use Rattle.codepage.specs.CodePage.{CodePage, first_fault, is_good}
use Rattle.codepage.specs.Lent.{over}
use Rattle.codepage.proofs.ShapeLaws.{shape_exact}
use Rattle.convert.specs.Runs.{piece_limit}
use Rattle.codepage_walk.specs.Checks.{bytes_reader}
use Rattle.linebreak.specs.declared.Refusal.{Refusal}
use Rattle.linebreak.specs.declared.Refusal.TheVariants.{BadShape, TooLong, NotAcceptable, NoneExists, ListTooShort}
use Rattle.linebreak.specs.Breaks.{acceptable, ours, breakable}
use Rattle.linebreak.specs.Steps.{GoodClasses}
use Rattle.linebreak.specs.Calls.{check_refusal, check_of, propose_refusal, proposal_of, ProposedAs}

-- tables of good shape have the classes that the walk asks for
pub good_classes : (p : CodePage) → is_good (first_fault p) ≡ true → GoodClasses p.classes
good_classes p e = let g = (shape_exact p).0 e in record { size = g.classes; no_low_lead = g.low }

-- ---- checking
module _ (p : CodePage) (text : List ℕ) (width : ℕ) (breaks : List ℕ) where
  -- 10: the shape is not good
  pub check_bad : is_good (first_fault p) ≡ false → check_of p text width breaks ≡ Err BadShape
  unfolding check_of check_refusal
  check_bad e = rw e

  module _ (e : is_good (first_fault p) ≡ true) where
    -- 11: the shape is good, and the text is over the limit
    pub check_long : piece_limit < length text → check_of p text width breaks ≡ Err TooLong
    unfolding check_of check_refusal
    check_long h = rw (e, lt-leb (length text) piece_limit h)

    -- 30: 10 and 11 pass, and the breaks are not acceptable
    pub check_refused : length text ≤ piece_limit → acceptable (bytes_reader p) text width breaks ≡ false → check_of p text width breaks ≡ Err NotAcceptable
    unfolding check_of check_refusal
    check_refused h a = rw (e, le-leb (length text) piece_limit h, a)

    -- 0: 10 and 11 pass, and the breaks are acceptable
    pub check_accepted : length text ≤ piece_limit → acceptable (bytes_reader p) text width breaks ≡ true → check_of p text width breaks ≡ Ok tt
    unfolding check_of check_refusal
    check_accepted h a = rw (e, le-leb (length text) piece_limit h, a)

-- ---- proposing
module _ (p : CodePage) (text : List ℕ) (width room : ℕ) where
  -- 10: the shape is not good
  pub propose_bad : is_good (first_fault p) ≡ false → propose_refusal p text width room ≡ some BadShape
  unfolding propose_refusal
  propose_bad e = rw e

  module _ (e : is_good (first_fault p) ≡ true) where
    -- 11: the shape is good, and the text is over the limit
    pub propose_long : piece_limit < length text → propose_refusal p text width room ≡ some TooLong
    unfolding propose_refusal
    propose_long h = rw (e, lt-leb (length text) piece_limit h)

    -- 31: 10 and 11 pass, and a code is longer than the width
    pub propose_none : length text ≤ piece_limit → breakable (bytes_reader p) text width ≡ false → propose_refusal p text width room ≡ some NoneExists
    unfolding propose_refusal
    propose_none h b = rw (e, le-leb (length text) piece_limit h, b)

    -- 32: 10, 11 and 31 pass, and ours are more than the room
    pub propose_short : length text ≤ piece_limit → breakable (bytes_reader p) text width ≡ true → room < length (ours (bytes_reader p) text width) → propose_refusal p text width room ≡ some ListTooShort
    unfolding propose_refusal
    propose_short h b s = rw (e, le-leb (length text) piece_limit h, b, lt-leb (length (ours (bytes_reader p) text width)) room s)

    -- no refusal: 10, 11 and 31 pass, and ours fit the room
    pub propose_accepted : length text ≤ piece_limit → breakable (bytes_reader p) text width ≡ true → length (ours (bytes_reader p) text width) ≤ room → propose_refusal p text width room ≡ none
    unfolding propose_refusal
    propose_accepted h b s = rw (e, le-leb (length text) piece_limit h, b, le-leb (length (ours (bytes_reader p) text width)) room s)

  -- what the call returns
  pub proposed_refused : (why : Refusal) (before : List ℕ) → propose_refusal p text width room ≡ some why → ProposedAs (proposal_of p text width room) (Err why) before before
  unfolding proposal_of over
  proposed_refused why before e = rw e (record { answer = refl; lent = refl })

  -- with no refusal, the count of ours and ours at the front of the list keep the promise of proposing
  pub proposed_given : (count : ℕ) (before after : List ℕ) → propose_refusal p text width room ≡ none → count ≡ length (ours (bytes_reader p) text width)
      → after ≡ over before (ours (bytes_reader p) text width) → ProposedAs (proposal_of p text width room) (Ok count) before after
  unfolding proposal_of
  proposed_given count before after e n w = rw e (record { answer = ap (λ (k : ℕ). Ok k) n; lent = w })
