-- Laws of the codes of a text with their places, over any reader.
use mathlib.Core.Bool.{Bool, true, false, ◌||◌}
use mathlib.Core.List.{List, [], ◌∷◌, ◌++◌, append_assoc}
use mathlib.Core.Logic.{◌⊎◌, inl, inr}
use mathlib.Core.Option.{Option, none, some}
use mathlib.Core.Path.{◌≡◌, refl, sym, ap, ◌∙◌, subst}
use Prim.Native.Nat.{ℕ, zero, suc, ◌+◌, ◌≤◌, ◌<◌}
use native.Mathlib.Nat.{add-zero}
use native.Mathlib.Numerals.{add-one}
use native.Mathlib.Omega.{arith}
use lib.Dec.{leb}
use lib.ListN.{length, drop, length-drop, drop_of_length-le}
use lib.Seq.{drop-cons, drop-drop}
use borrow.Author.Tests.{le-leb, lt-leb, leb-true, leb-false}
use Rattle.codepage.specs.CodePage.{entry_at, is_lead, is_trail}
use Rattle.codepage.specs.Reading.{byte_alone, byte_joins, Reader, decoder, Code, size_of, alone, together, settled, completed, waits_then, codes_at_end, call_codes, left_pending, as_units, codes}
use Rattle.codepage.proofs.ReadingLaws.{codes_wait, codes_one, codes_settled, more_le, sizes_of, sizes_cover, none_waits}
use Rattle.codepage.specs.Reading.{Lookup}
use Rattle.codepage_lookup.specs.declared.SettledCode.{SettledCode}
use Rattle.codepage_lookup.specs.Profile.{SettledAs}
use Rattle.codepage_walk.specs.Walk.{Placed, placed_from, placed, CodeAt, ReadAs, SizedAs, ClassesSize}

-- ---- the code at a place
module _ (r : Reader) (text : List ℕ) (place : ℕ) where
  -- what is left of a text: the unit at the place, and what is behind it
  left : place < length text → drop place text ≡ entry_at text place ∷ drop (place + 1) text
  left h = rw add-one (drop-cons text place 0 h)

  left_two : place + 1 < length text → drop place text ≡ entry_at text place ∷ entry_at text (place + 1) ∷ drop (place + 2) text
  left_two h = left (omega arith) ∙ ap (λ (l : List ℕ). entry_at text place ∷ l) (drop-cons text (place + 1) 0 h ∙ ap (λ (n : ℕ). entry_at text (place + 1) ∷ drop n text) more)
    where
      more : suc (place + 1) ≡ place + 2
      more = omega arith

  -- a unit that does not wait
  pub at_one : place < length text → r.waits (entry_at text place) ≡ false → CodeAt r text place (alone r (entry_at text place))
  unfolding codes
  at_one h e = record { here = ap (call_codes r true none) (left h) ∙ codes_one r true (entry_at text place) (drop (place + 1) text) e }

  -- one that waits at the text's end
  pub at_end : place + 1 ≡ length text → r.waits (entry_at text place) ≡ true → CodeAt r text place (alone r (entry_at text place))
  unfolding codes call_codes codes_at_end
  at_end h e =
      let none_left : drop (place + 1) text ≡ [] = drop_of_length-le text {i = place + 1} (omega arith) in
      record {
        here =
            ap (call_codes r true none) (left (omega arith))
            ∙ codes_wait r true (entry_at text place) (drop (place + 1) text) e
            ∙ ap (call_codes r true (some (entry_at text place))) none_left
            ∙ ap (λ (l : List ℕ). alone r (entry_at text place) ∷ call_codes r true none l) (sym none_left);
      }

  -- the last unit, either way
  pub at_last : place + 1 ≡ length text → CodeAt r text place (alone r (entry_at text place))
  at_last h = by (r.waits (entry_at text place)) refl
    where
      by : (t : Bool) → r.waits (entry_at text place) ≡ t → CodeAt r text place (alone r (entry_at text place))
      by true e = at_end h e
      by false e = at_one (omega arith) e

  -- one that waits, settled by the unit after it
  pub at_settled : place + 1 < length text → r.waits (entry_at text place) ≡ true → CodeAt r text place (settled r (entry_at text place) (entry_at text (place + 1)))
  unfolding codes
  at_settled h e =
      let a = entry_at text place in
      let b = entry_at text (place + 1) in
      let rest : drop (size_of (settled r a b)) (a ∷ b ∷ drop (place + 2) text) ≡ drop (place + size_of (settled r a b)) text =
      ap (drop (size_of (settled r a b))) (sym (left_two h)) ∙ drop-drop (size_of (settled r a b)) place text in
      record {
        here =
            ap (call_codes r true none) (left_two h)
            ∙ codes_wait r true a (b ∷ drop (place + 2) text) e
            ∙ codes_settled r true a b (drop (place + 2) text)
            ∙ ap (λ (l : List ℕ). settled r a b ∷ call_codes r true none l) rest;
      }

  settled_two : (a b : ℕ) → r.joins a b ≡ true → settled r a b ≡ together r a b
  unfolding settled
  settled_two a b e = rw e

  settled_one : (a b : ℕ) → r.joins a b ≡ false → settled r a b ≡ alone r a
  unfolding settled
  settled_one a b e = rw e

  -- a unit that waits and joins the next one: the code at its place has both
  pub at_two : place + 1 < length text → r.waits (entry_at text place) ≡ true → r.joins (entry_at text place) (entry_at text (place + 1)) ≡ true
      → CodeAt r text place (together r (entry_at text place) (entry_at text (place + 1)))
  at_two h e j = subst (CodeAt r text place) (settled_two _ _ j) (at_settled h e)

  -- a unit that waits and does not join the next one: the code at its place has it alone
  pub at_alone : place + 1 < length text → r.waits (entry_at text place) ≡ true → r.joins (entry_at text place) (entry_at text (place + 1)) ≡ false
      → CodeAt r text place (alone r (entry_at text place))
  at_alone h e j = subst (CodeAt r text place) (settled_one _ _ j) (at_settled h e)

  -- EVERY PLACE before the text's end has a code, of one or two units that are there.
  pub record There : Type 0 where
    pub code : Code
    pub at : CodeAt r text place code
    pub size : (size_of code ≡ 1) ⊎ (size_of code ≡ 2)
    pub inside : place + size_of code ≤ length text

  two_sizes : (n : ℕ) → n ≤ 1 → (suc n ≡ 1) ⊎ (suc n ≡ 2)
  two_sizes zero h = inl refl
  two_sizes (suc zero) h = inr refl
  two_sizes (suc (suc n)) h = absurd (omega arith)

  -- a place before the text's end has a code of one or two units, and it ends within the text
  pub code_there : place < length text → There
  code_there h = by (r.waits (entry_at text place)) refl
    where
      by_next : (n : ℕ) → length text ≡ place + 1 + n → r.waits (entry_at text place) ≡ true → There
      by_next zero q e = record { code = alone r (entry_at text place); at = at_end (omega arith) e; size = inl refl; inside = omega arith }
      by_next (suc n) q e =
          let m = more_le r (entry_at text place) (entry_at text (place + 1)) in
          record { code = settled r (entry_at text place) (entry_at text (place + 1)); at = at_settled (omega arith) e; size = two_sizes _ m; inside = omega arith }

      by : (t : Bool) → r.waits (entry_at text place) ≡ t → There
      by true e = by_next (length (drop (place + 1) text)) (omega (arith, length-drop (place + 1) text)) e
      by false e = record { code = alone r (entry_at text place); at = at_one h e; size = inl refl; inside = omega arith }

-- ---- the size of a byte's code: its class and the byte after it decide
module _ (classes text : List ℕ) (place : ℕ) where
  -- a byte that is no lead: one byte
  pub size_single : place < length text → is_lead (entry_at classes (entry_at text place)) ≡ false → ClassesSize classes text place 1
  unfolding decoder
  size_single h e singles pairs = record { code = _; at = at_one (decoder classes singles pairs) text place h e; sized = refl }

  -- the text's final byte, a lead or not: one byte
  pub size_last : place + 1 ≡ length text → ClassesSize classes text place 1
  size_last h singles pairs = record { code = _; at = at_last (decoder classes singles pairs) text place h; sized = refl }

  module _ (h : place + 1 < length text) (e : is_lead (entry_at classes (entry_at text place)) ≡ true) where
    size_joined : byte_joins classes (entry_at text (place + 1)) ≡ true → ClassesSize classes text place 2
    unfolding decoder
    size_joined j singles pairs = record { code = _; at = at_two (decoder classes singles pairs) text place h e j; sized = refl }

    -- a lead and a byte of 80 or more: two bytes
    pub size_high : 0x80 ≤ entry_at text (place + 1) → ClassesSize classes text place 2
    unfolding byte_joins
    size_high b = size_joined (rw (le-leb 0x80 (entry_at text (place + 1)) b) (or_true (is_trail (entry_at classes (entry_at text (place + 1))))))
      where
        or_true : (t : Bool) → (t || true) ≡ true
        or_true true = refl
        or_true false = refl

    -- a lead and a byte that may be second: two bytes
    pub size_trail : is_trail (entry_at classes (entry_at text (place + 1))) ≡ true → ClassesSize classes text place 2
    unfolding byte_joins
    size_trail b = size_joined (rw b)

    -- a lead and a byte below 80 that may not be second: the lead alone (CR 2)
    pub size_afresh : entry_at text (place + 1) < 0x80 → is_trail (entry_at classes (entry_at text (place + 1))) ≡ false → ClassesSize classes text place 1
    unfolding decoder byte_joins
    size_afresh b t singles pairs =
        let j : byte_joins classes (entry_at text (place + 1)) ≡ false = rw (t, lt-leb 0x80 (entry_at text (place + 1)) b) in
        record { code = _; at = at_alone (decoder classes singles pairs) text place h e j; sized = refl }

-- ---- the code at a place, as it is read
module _ (classes singles pairs text : List ℕ) (place : ℕ) where
  -- a byte that is no lead: one byte, and it means what the byte means alone
  pub read_single : (means : Lookup) → place < length text → is_lead (entry_at classes (entry_at text place)) ≡ false → means ≡ byte_alone classes singles (entry_at text place)
      → ReadAs (decoder classes singles pairs) text place (record { size = 1; means = means })
  unfolding decoder
  read_single means h e m = record { code = _; at = at_one (decoder classes singles pairs) text place h e; size = refl; means = m }

  -- the text's final byte, a lead or not: one byte, and it means what the byte means alone
  pub read_last : (means : Lookup) → place + 1 ≡ length text → means ≡ byte_alone classes singles (entry_at text place)
      → ReadAs (decoder classes singles pairs) text place (record { size = 1; means = means })
  unfolding decoder
  read_last means h m = record { code = _; at = at_last (decoder classes singles pairs) text place h; size = refl; means = m }

  -- a lead before the final byte: the byte after it settles how many bytes the code has and what it means
  pub read_settled : (s : SettledCode) → place + 1 < length text → is_lead (entry_at classes (entry_at text place)) ≡ true
      → SettledAs (settled (decoder classes singles pairs) (entry_at text place) (entry_at text (place + 1))) s
      → ReadAs (decoder classes singles pairs) text place (record { size = s.more + 1; means = s.means })
  unfolding decoder
  read_settled s h e w =
      record {
        code = settled (decoder classes singles pairs) (entry_at text place) (entry_at text (place + 1));
        at = at_settled (decoder classes singles pairs) text place h e;
        size = add-one s.more ∙ ap suc w.more;
        means = w.means;
      }

-- ---- the codes of a text with their places
-- from the text's end on there is none
pub codes_end : (r : Reader) (text : List ℕ) (place : ℕ) → length text ≤ place → codes r (drop place text) ≡ []
unfolding codes call_codes codes_at_end
codes_end r text place h = ap (call_codes r true none) (drop_of_length-le text h)

-- the first of the codes from a place on is the code at that place, and the others are those from behind it on
pub record Next (r : Reader) (text : List ℕ) (place : ℕ) (k : Code) (ks : List Code) : Type 0 where
  pub at : CodeAt r text place k
  pub others : codes r (drop (place + size_of k) text) ≡ ks
  pub size : (size_of k ≡ 1) ⊎ (size_of k ≡ 2)
  pub inside : place + size_of k ≤ length text

-- where there are codes from a place on, the first is the code there, of one or two units, and the others follow it
pub codes_next : (r : Reader) (text : List ℕ) (place : ℕ) (k : Code) (ks : List Code) → codes r (drop place text) ≡ k ∷ ks → Next r text place k ks
codes_next r text place k ks e = by (leb (length text) place) refl
  where
    by : (t : Bool) → leb (length text) place ≡ t → Next r text place k ks
    by true q =
        let n : ◌≡◌ {A = List Code} [] (k ∷ ks) = sym (codes_end r text place (leb-true _ _ q)) ∙ e in
        absurd (let z : ◌≡◌ {A = ℕ} 0 1 = cc in omega arith)
    by false q =
        let t = code_there r text place (leb-false _ _ q) in
        let both : t.code ∷ codes r (drop (place + size_of t.code) text) ≡ k ∷ ks = sym t.at.here ∙ e in
        let same : t.code ≡ k = cc in
        let others : codes r (drop (place + size_of t.code) text) ≡ ks = cc in
        record {
          at = subst (CodeAt r text place) same t.at;
          others = ap (λ (c : Code). codes r (drop (place + size_of c) text)) (sym same) ∙ others;
          size = subst (λ (c : Code). (size_of c ≡ 1) ⊎ (size_of c ≡ 2)) same t.size;
          inside = subst (λ (c : Code). place + size_of c ≤ length text) same t.inside;
        }

-- the size of the code at a place is 1 or 2
pub sized_small : (r : Reader) (text : List ℕ) (place size : ℕ) → SizedAs r text place size → (size ≡ 1) ⊎ (size ≡ 2)
sized_small r text place size s =
    subst (λ (n : ℕ). (n ≡ 1) ⊎ (n ≡ 2)) (sym s.sized) (codes_next r text place s.code (codes r (drop (place + size_of s.code) text)) s.at.here).size

-- a unit before the text's end that does not wait is a code alone
pub no_wait_one : (r : Reader) (text : List ℕ) (place : ℕ) (k : Code) → place < length text → CodeAt r text place k → r.waits (entry_at text place) ≡ false → size_of k ≡ 1
no_wait_one r text place k h a e =
    let both : alone r (entry_at text place) ∷ codes r (drop (place + 1) text) ≡ k ∷ codes r (drop (place + size_of k) text) = sym (at_one r text place h e).here ∙ a.here in
    let same : alone r (entry_at text place) ≡ k = cc in
    ap size_of (sym same)

-- THE CODES COVER THE TEXT: their sizes are its length.
pub codes_cover : (r : Reader) (text : List ℕ) → sizes_of (codes r text) ≡ length text
unfolding codes
codes_cover r text = by (left_pending r true none text) (sizes_cover r true none text) (none_waits r none text)
  where
    by : {n m : ℕ} (o : Option ℕ) → n + length (as_units o) ≡ 0 + m → o ≡ none → n ≡ m
    by none e q = omega arith
    by (some c) e q = let z : ◌≡◌ {A = ℕ} 0 1 = cc in absurd (omega arith)

-- Sizes are 1 or 2.
unfoldable pub Small : List Code → Type 0
Small [] = Unit {0}
Small (k ∷ ks) = ((size_of k ≡ 1) ⊎ (size_of k ≡ 2)) × Small ks

small_from : (r : Reader) (text : List ℕ) (n place : ℕ) → length text ≤ place + n → Small (codes r (drop place text))
unfolding Small
small_from r text zero place h = subst Small (sym (codes_end r text place (omega arith))) tt
small_from r text (suc n) place h = by (leb (length text) place) refl (small_from r text n)
  where
    by : (t : Bool) → leb (length text) place ≡ t → ((next : ℕ) → length text ≤ next + n → Small (codes r (drop next text))) → Small (codes r (drop place text))
    by true e later = subst Small (sym (codes_end r text place (leb-true _ _ e))) tt
    by false e later =
        let t = code_there r text place (leb-false _ _ e) in
        subst Small (sym t.at.here) (t.size, later (place + size_of t.code) (omega arith))

-- every code of a text has one or two units
pub codes_small : (r : Reader) (text : List ℕ) → Small (codes r text)
codes_small r text = small_from r text (length text) 0 (omega arith)

-- A place that cuts no code: the codes before it have as many units, and the codes from there on are those of the rest.
pub record Uncut (r : Reader) (text : List ℕ) (place : ℕ) : Type 0 where
  pub before : List Code
  pub parts : codes r text ≡ before ++ codes r (drop place text)
  pub size : sizes_of before ≡ place

pub sizes_append : (ks ls : List Code) → sizes_of (ks ++ ls) ≡ sizes_of ks + sizes_of ls
sizes_append [] ls = omega arith
sizes_append (k ∷ ks) ls = omega (arith, sizes_append ks ls)

-- the text's beginning cuts no code
pub uncut_start : (r : Reader) (text : List ℕ) → Uncut r text 0
uncut_start r text = record { before = []; parts = refl; size = refl }

-- if a place cuts no code, the place behind the code there cuts none either
pub uncut_next : (r : Reader) (text : List ℕ) (place : ℕ) (k : Code) → Uncut r text place → CodeAt r text place k → Uncut r text (place + size_of k)
uncut_next r text place k u a =
    record {
      before = u.before ++ (k ∷ []);
      parts = u.parts ∙ ap (λ (l : List Code). u.before ++ l) a.here ∙ sym (append_assoc u.before (k ∷ []) _);
      size = omega (arith, sizes_append u.before (k ∷ []), u.size);
    }

pub placed_append : (place : ℕ) (ks ls : List Code) → placed_from place (ks ++ ls) ≡ placed_from place ks ++ placed_from (place + sizes_of ks) ls
unfolding placed_from
placed_append place [] ls = ap (λ (n : ℕ). placed_from n ls) (sym (add-zero place))
placed_append place (k ∷ ks) ls =
    ap (λ (l : List Placed). record { place = place; code = k } ∷ l)
    (placed_append (place + size_of k) ks ls ∙ ap (λ (n : ℕ). placed_from (place + size_of k) ks ++ placed_from n ls) more)
  where
    more : place + size_of k + sizes_of ks ≡ place + (size_of k + sizes_of ks)
    more = omega arith

-- from such a place on, the codes of a text have the places of the rest's, counted from there
pub placed_from_lem : (r : Reader) (text : List ℕ) (place : ℕ) (u : Uncut r text place) → placed r text ≡ placed_from 0 u.before ++ placed_from place (codes r (drop place text))
unfolding placed
placed_from_lem r text place u =
    let size : 0 + sizes_of u.before ≡ place = omega (arith, u.size) in
    ap (placed_from 0) u.parts ∙ placed_append 0 u.before (codes r (drop place text))
    ∙ ap (λ (n : ℕ). placed_from 0 u.before ++ placed_from n (codes r (drop place text))) size

-- the codes from a place on, with their places: the code there, and those from behind it on
pub placed_next : (r : Reader) (text : List ℕ) (place : ℕ) (k : Code) → CodeAt r text place k
    → placed_from place (codes r (drop place text)) ≡ record { place = place; code = k } ∷ placed_from (place + size_of k) (codes r (drop (place + size_of k) text))
unfolding placed_from
placed_next r text place k a = ap (placed_from place) a.here

-- THE PLACES RISE BY THE SIZES, from one place to another; and each code is the code at its place.
unfoldable pub Rises : (from : ℕ) → List Placed → (to : ℕ) → Type 0
Rises from [] to = from ≡ to
Rises from (p ∷ ps) to = (p.place ≡ from) × Rises (from + size_of p.code) ps to

rises_from : (place : ℕ) (ks : List Code) (to : ℕ) → place + sizes_of ks ≡ to → Rises place (placed_from place ks) to
unfolding Rises placed_from
rises_from place [] to e = omega arith
rises_from place (k ∷ ks) to e = (refl, rises_from (place + size_of k) ks to (omega arith))

pub places_rise : (r : Reader) (text : List ℕ) → Rises 0 (placed r text) (length text)
unfolding placed
places_rise r text = rises_from 0 (codes r text) (length text) (omega (arith, codes_cover r text))

-- each of some codes stands at its place
unfoldable pub EachAt : Reader → (text : List ℕ) → List Placed → Type 0
EachAt r text [] = Unit {0}
EachAt r text (p ∷ ps) = CodeAt r text p.place p.code × EachAt r text ps

each_from : (r : Reader) (text : List ℕ) (n place : ℕ) → length text ≤ place + n → EachAt r text (placed_from place (codes r (drop place text)))
unfolding EachAt placed_from
each_from r text zero place h = subst (λ (ks : List Code). EachAt r text (placed_from place ks)) (sym (codes_end r text place (omega arith))) tt
each_from r text (suc n) place h = by (leb (length text) place) refl (each_from r text n)
  where
    by : (t : Bool) → leb (length text) place ≡ t → ((next : ℕ) → length text ≤ next + n → EachAt r text (placed_from next (codes r (drop next text))))
        → EachAt r text (placed_from place (codes r (drop place text)))
    by true e later = subst (λ (ks : List Code). EachAt r text (placed_from place ks)) (sym (codes_end r text place (leb-true _ _ e))) tt
    by false e later =
        let t = code_there r text place (leb-false _ _ e) in
        subst (λ (ks : List Code). EachAt r text (placed_from place ks)) (sym t.at.here) (t.at, later (place + size_of t.code) (omega arith))

-- the codes of a text with their places stand there
pub codes_at : (r : Reader) (text : List ℕ) → EachAt r text (placed r text)
unfolding placed
codes_at r text = each_from r text (length text) 0 (omega arith)

-- ---- A TEXT CUT ANYWHERE: the codes of the first part, and those of the rest after the unit that waits at the cut.
pub codes_cut : (r : Reader) (last : Bool) (p : Option ℕ) (units rest : List ℕ)
    → call_codes r last p (units ++ rest) ≡ call_codes r false p units ++ call_codes r last (left_pending r false p units) rest
unfolding call_codes codes_at_end left_pending
codes_cut r last none [] rest = refl
codes_cut r last (some c) [] rest = refl
codes_cut r last p (a ∷ units) rest =
    ap (λ (l : List Code). completed r p a ++ l) (codes_cut r last (waits_then r p a) units rest)
    ∙ sym (append_assoc (completed r p a) (call_codes r false (waits_then r p a) units) _)
