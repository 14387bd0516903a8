-- Laws of the codes of a call, over any reader.
use mathlib.Core.Bool.{Bool, true, false, ◌&&◌, ◌||◌}
use mathlib.Core.List.{List, [], ◌∷◌, ◌++◌}
use mathlib.Core.Option.{Option, none, some}
use mathlib.Core.Path.{◌≡◌, refl, sym, ap, ◌∙◌}
use Prim.Native.Nat.{ℕ, ◌+◌, ◌<◌, ◌≤◌}
use native.Mathlib.Omega.{arith}
use lib.Dec.{leb}
use lib.ListN.{length, drop, length-append}
use borrow.Author.Tests.{le-leb, lt-leb, leb-true, leb-false}
use Rattle.codepage.specs.CodePage.{pick, entry_at, is_trail}
use Rattle.codepage.specs.declared.Kind.TheVariants.{Invalid}
use Rattle.std.specs.Prelude.{Ok, Err}
use Rattle.codepage.specs.Reading.{byte_joins, byte_pair, is_high, is_low, is_surrogate, unit_code, unit_alone, Reader, Code, units_of, size_of, alone, together, settled, completed, waits_then, codes_at_end, call_codes, left_pending, as_units}

-- ---- one unit more: it waits, it is a code alone, or it settles the one that waits: they are one code, or that one is a code
-- alone and it is read afresh
module _ (r : Reader) (last : Bool) where
  -- a unit that waits is no code yet
  pub codes_wait : (a : ℕ) (l : List ℕ) → r.waits a ≡ true → call_codes r last none (a ∷ l) ≡ call_codes r last (some a) l
  unfolding call_codes completed waits_then
  codes_wait a l e = rw e

  -- a unit that does not wait is a code alone
  pub codes_one : (a : ℕ) (l : List ℕ) → r.waits a ≡ false → call_codes r last none (a ∷ l) ≡ alone r a ∷ call_codes r last none l
  unfolding call_codes completed waits_then
  codes_one a l e = rw e

  -- a pending unit and the one after it that are one code
  pub codes_two : (c b : ℕ) (l : List ℕ) → r.joins c b ≡ true → call_codes r last (some c) (b ∷ l) ≡ together r c b ∷ call_codes r last none l
  unfolding call_codes settled completed waits_then
  codes_two c b l e = rw e

  -- a pending unit that is a code alone; the next is read afresh
  pub codes_alone : (c b : ℕ) (l : List ℕ) → r.joins c b ≡ false → call_codes r last (some c) (b ∷ l) ≡ alone r c ∷ call_codes r last none (b ∷ l)
  unfolding call_codes settled completed waits_then
  codes_alone c b l e = rw e

  -- either way
  pub codes_settled : (c b : ℕ) (l : List ℕ) → call_codes r last (some c) (b ∷ l) ≡ settled r c b ∷ call_codes r last none (drop (size_of (settled r c b)) (c ∷ b ∷ l))
  unfolding settled
  codes_settled c b l = by_next (r.joins c b) refl
    where
      by_next : (t : Bool) → r.joins c b ≡ t
          → call_codes r last (some c) (b ∷ l) ≡ pick t (together r c b) (alone r c) ∷ call_codes r last none (drop (size_of (pick t (together r c b) (alone r c))) (c ∷ b ∷ l))
      by_next true e = codes_two c b l e
      by_next false e = codes_alone c b l e

  pub left_wait : (a : ℕ) (l : List ℕ) → r.waits a ≡ true → left_pending r last none (a ∷ l) ≡ left_pending r last (some a) l
  unfolding left_pending waits_then
  left_wait a l e = rw e

  pub left_one : (a : ℕ) (l : List ℕ) → r.waits a ≡ false → left_pending r last none (a ∷ l) ≡ left_pending r last none l
  unfolding left_pending waits_then
  left_one a l e = rw e

  pub left_two : (c b : ℕ) (l : List ℕ) → r.joins c b ≡ true → left_pending r last (some c) (b ∷ l) ≡ left_pending r last none l
  unfolding left_pending waits_then
  left_two c b l e = rw e

  pub left_alone : (c b : ℕ) (l : List ℕ) → r.joins c b ≡ false → left_pending r last (some c) (b ∷ l) ≡ left_pending r last none (b ∷ l)
  unfolding left_pending waits_then
  left_alone c b l e = rw e

  -- what is pending at the end is what is pending behind the code that the next unit settles
  pub left_settled : (c b : ℕ) (l : List ℕ) → left_pending r last (some c) (b ∷ l) ≡ left_pending r last none (drop (size_of (settled r c b)) (c ∷ b ∷ l))
  unfolding settled
  left_settled c b l = by_next (r.joins c b) refl
    where
      by_next : (t : Bool) → r.joins c b ≡ t → left_pending r last (some c) (b ∷ l) ≡ left_pending r last none (drop (size_of (pick t (together r c b) (alone r c))) (c ∷ b ∷ l))
      by_next true e = left_two c b l e
      by_next false e = left_alone c b l e

-- What holds at the end, and with each unit more, holds of every pending unit and all units.
pub record EachUnit (r : Reader) (P : Option ℕ → List ℕ → Type 0) : Type 0 where
  pub end_none : P none []
  pub end_some : (c : ℕ) → P (some c) []
  pub wait : (a : ℕ) (l : List ℕ) → r.waits a ≡ true → P (some a) l → P none (a ∷ l)
  pub one : (a : ℕ) (l : List ℕ) → r.waits a ≡ false → P none l → P none (a ∷ l)
  pub two : (c b : ℕ) (l : List ℕ) → r.joins c b ≡ true → P none l → P (some c) (b ∷ l)
  pub alone : (c b : ℕ) (l : List ℕ) → r.joins c b ≡ false → P none (b ∷ l) → P (some c) (b ∷ l)

module _ (r : Reader) (P : Option ℕ → List ℕ → Type 0) (s : EachUnit r P) where
  by_fresh : (a : ℕ) (l : List ℕ) (t : Bool) → r.waits a ≡ t → ((p : Option ℕ) → P p l) → P none (a ∷ l)
  by_fresh a l true e h = s.wait a l e (h (some a))
  by_fresh a l false e h = s.one a l e (h none)

  by_next : (c b : ℕ) (l : List ℕ) (t : Bool) → r.joins c b ≡ t → ((p : Option ℕ) → P p l) → P (some c) (b ∷ l)
  by_next c b l true e h = s.two c b l e (h none)
  by_next c b l false e h = s.alone c b l e (by_fresh b l (r.waits b) refl h)

  -- what holds with each unit more holds of every text (docs/ARCHITECTURE.md, "How a proof goes")
  pub by_units : (p : Option ℕ) (l : List ℕ) → P p l
  by_units none [] = s.end_none
  by_units (some c) [] = s.end_some c
  by_units none (a ∷ l) = by_fresh a l (r.waits a) refl (λ (p : Option ℕ). by_units p l)
  by_units (some c) (b ∷ l) = by_next c b l (r.joins c b) refl (λ (p : Option ℕ). by_units p l)

-- ---- the codes cover the units
abbrev pub joined : List Code → List ℕ
joined [] = []
joined (k ∷ ks) = units_of k ++ joined ks

covers_end : (r : Reader) (last : Bool) (p : Option ℕ) → joined (call_codes r last p []) ++ as_units (left_pending r last p []) ≡ as_units p ++ []
unfolding call_codes codes_at_end left_pending
covers_end r true none = refl
covers_end r false none = refl
covers_end r true (some c) = refl
covers_end r false (some c) = refl

-- THE CODES, and the unit that waits behind them, are the units.
pub covers : (r : Reader) (last : Bool) (p : Option ℕ) (l : List ℕ) → joined (call_codes r last p l) ++ as_units (left_pending r last p l) ≡ as_units p ++ l
covers r last =
    by_units r (λ (p : Option ℕ) (l : List ℕ). joined (call_codes r last p l) ++ as_units (left_pending r last p l) ≡ as_units p ++ l)
    (record {
      end_none = covers_end r last none;
      end_some = λ c. covers_end r last (some c);
      wait = λ a l e h. rw (codes_wait r last a l e, left_wait r last a l e) h;
      one = λ a l e h. rw (codes_one r last a l e, left_one r last a l e) (ap (λ (xs : List ℕ). a ∷ xs) h);
      two = λ c b l e h. rw (codes_two r last c b l e, left_two r last c b l e) (ap (λ (xs : List ℕ). c ∷ b ∷ xs) h);
      alone = λ c b l e h. rw (codes_alone r last c b l e, left_alone r last c b l e) (ap (λ (xs : List ℕ). c ∷ xs) h);
    })

-- how many units some codes have
abbrev pub sizes_of : List Code → ℕ
sizes_of [] = 0
sizes_of (k ∷ ks) = size_of k + sizes_of ks

pub length_joined : (ks : List Code) → length (joined ks) ≡ sizes_of ks
length_joined [] = refl
length_joined (k ∷ ks) = length-append (units_of k) (joined ks) ∙ ap (λ (n : ℕ). size_of k + n) (length_joined ks)

-- the codes, and the unit that waits behind them, have as many units as there were
pub sizes_cover : (r : Reader) (last : Bool) (p : Option ℕ) (l : List ℕ) → sizes_of (call_codes r last p l) + length (as_units (left_pending r last p l)) ≡ length (as_units p) + length l
sizes_cover r last p l =
    ap (λ (n : ℕ). n + length (as_units (left_pending r last p l))) (sym (length_joined (call_codes r last p l)))
    ∙ sym (length-append (joined (call_codes r last p l)) (as_units (left_pending r last p l)))
    ∙ ap length (covers r last p l) ∙ length-append (as_units p) l

-- at the end of the whole text no unit waits
pub none_waits : (r : Reader) (p : Option ℕ) (l : List ℕ) → left_pending r true p l ≡ none
unfolding left_pending
none_waits r p [] = refl
none_waits r p (a ∷ l) = none_waits r (waits_then r p a) l

-- ---- the code of a pending unit: its first unit is the one that waited, and it has at most one more
pub settled_first : (r : Reader) (c b : ℕ) → (settled r c b).first ≡ c
unfolding settled
settled_first r c b = by_next (r.joins c b)
  where
    by_next : (t : Bool) → (pick t (together r c b) (alone r c)).first ≡ c
    by_next true = refl
    by_next false = refl

-- the code of a pending unit has at most one unit after the first
pub more_le : (r : Reader) (c b : ℕ) → length (settled r c b).more ≤ 1
unfolding settled
more_le r c b = by_next (r.joins c b)
  where
    by_next : (t : Bool) → length (pick t (together r c b) (alone r c)).more ≤ 1
    by_next true = omega arith
    by_next false = omega arith

-- a pair that has a character is one code
pub pair_joins : (classes pairs : List ℕ) (lead byte unit : ℕ) → byte_pair classes pairs lead byte ≡ Ok unit → byte_joins classes byte ≡ true
unfolding byte_pair byte_joins
pair_joins classes pairs lead byte unit e = by_trail (is_trail (entry_at classes byte)) refl
  where
    by_trail : (t : Bool) → is_trail (entry_at classes byte) ≡ t → (is_trail (entry_at classes byte) || leb 0x80 byte) ≡ true
    by_trail true q = rw q
    by_trail false q =
        let lacks : Err Invalid ≡ Ok unit = rw q at e in
        absurd (let z : ◌≡◌ {A = ℕ} 0 1 = cc in omega arith)

-- ---- surrogates
pub below_surrogates : (unit : ℕ) → unit < 0xD800 → is_surrogate unit ≡ false
unfolding is_surrogate is_high is_low
below_surrogates unit h = rw (lt-leb 0xD800 unit h, lt-leb 0xDC00 unit (omega arith))

-- a unit of D800 or more is a surrogate exactly if it is at most DFFF
pub from_surrogates : (unit : ℕ) → 0xD800 ≤ unit → is_surrogate unit ≡ leb unit 0xDFFF
unfolding is_surrogate is_high is_low
from_surrogates unit h = by_high (leb unit 0xDBFF) refl
  where
    by_high : (t : Bool) → leb unit 0xDBFF ≡ t → (leb 0xD800 unit && leb unit 0xDBFF || leb 0xDC00 unit && leb unit 0xDFFF) ≡ leb unit 0xDFFF
    by_high true q = rw (le-leb 0xD800 unit h, q, le-leb unit 0xDFFF (omega (arith, leb-true unit 0xDBFF q)))
    by_high false q = rw (le-leb 0xD800 unit h, q, le-leb 0xDC00 unit (omega (arith, leb-false unit 0xDBFF q)))

pub no_surrogate_waits : (unit : ℕ) → is_surrogate unit ≡ false → is_high unit ≡ false
unfolding is_surrogate
no_surrogate_waits unit e = by_high (is_high unit) e
  where
    by_high : (t : Bool) → (t || is_low unit) ≡ false → t ≡ false
    by_high true q = q
    by_high false q = refl

-- a high surrogate alone is invalid
pub high_alone : (index blocks : List ℕ) (unit : ℕ) → is_high unit ≡ true → unit_alone index blocks unit ≡ Err Invalid
unfolding unit_alone is_surrogate
high_alone index blocks unit e = rw e

-- a unit that is no surrogate means what its entry says
pub alone_looked_up : (index blocks : List ℕ) (unit : ℕ) → is_surrogate unit ≡ false → unit_alone index blocks unit ≡ unit_code index blocks unit
unfolding unit_alone
alone_looked_up index blocks unit e = rw e

-- a unit that has a code is no surrogate, so it does not wait
pub found_no_surrogate : (index blocks : List ℕ) (unit code : ℕ) → unit_alone index blocks unit ≡ Ok code → is_surrogate unit ≡ false
unfolding unit_alone
found_no_surrogate index blocks unit code e = by_unit (is_surrogate unit) e
  where
    by_unit : (t : Bool) → pick t (Err Invalid) (unit_code index blocks unit) ≡ Ok code → t ≡ false
    by_unit true q = absurd (let z : ◌≡◌ {A = ℕ} 0 1 = cc in omega arith)
    by_unit false q = refl

-- a unit that has a code does not wait
pub found_no_wait : (index blocks : List ℕ) (unit code : ℕ) → unit_alone index blocks unit ≡ Ok code → is_high unit ≡ false
found_no_wait index blocks unit code e = no_surrogate_waits unit (found_no_surrogate index blocks unit code e)
