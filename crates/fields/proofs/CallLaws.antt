-- Laws of one call: the scan for a separator, the copy into the buffer, and the cases of a call.
use Rattle.std.proofs.Common.{Result, Ok, Err, Some, None, cond, position, unwrap_or}
use Rattle.std.specs.List.{position_or_len}
use Rattle.std.proofs.lemmas.List.Recursion.{is_position_or_len}
use mathlib.Core.Bool.{Bool, true, false, ◌||◌, ◌&&◌, true≢false, false≢true}
use mathlib.Core.List.{List, [], ◌∷◌, ◌++◌, append_assoc}
use mathlib.Core.Option.{Option, none, some}
use mathlib.Core.Path.{◌≡◌, refl, sym, ap, ◌∙◌, subst}
use Prim.Native.Nat.{ℕ, zero, suc, ◌+◌, ◌≤◌, ◌<◌, min}
use native.Mathlib.Omega.{arith}
use lib.Dec.{eqb, ltb}
use lib.ListN.{length, get_or, take, drop, length-take}
use lib.Seq.{paste, drop-drop, take-length}
use borrow.Author.Tests.{ltb-false, le-leb, lt-leb, eq-eqb, ne_eqb}
use Rattle.codepage.specs.CodePage.{pick}
use Rattle.codepage.specs.Lent.{over}
use Rattle.convert.specs.Runs.{piece_limit}
use Rattle.fields.specs.declared.End.{End}
use Rattle.fields.specs.declared.End.TheVariants.{Bar, LineFeed, Text}
use Rattle.fields.specs.declared.Place.TheVariants.{Buffer, Block}
use Rattle.fields.specs.declared.Refusal.{Refusal}
use Rattle.fields.specs.declared.Refusal.TheVariants.{BufferTooShort, BlockTooLong, InvalidState, FieldTooLong}
use Rattle.fields.specs.declared.Answer.{Answer}
use Rattle.fields.specs.declared.Answer.TheVariants.{Field as FieldFound}
use Rattle.fields.specs.declared.Held.{Held}
use Rattle.fields.specs.Fields.{field_limit, separator, units_before, field_units, either_end, separator_in, end_in, field_refusal, fresh_held, read_with, over_from, found_call, held_call, refused_field_call, field_call, FieldAnswered}
use Rattle.fields.specs.Steps.{is_separator, separator_end}

-- ---- separators
pub no_separator : (u : ℕ) → is_separator u ≡ false → separator u ≡ none
unfolding separator
no_separator u e = by (eqb u 0x7C) (eqb u 0x0A) e
  where
    by : (a b : Bool) → (a || b) ≡ false → pick a (some Bar) (pick b (some LineFeed) none) ≡ none
    by true b e = absurd (true≢false e)
    by false true e = absurd (true≢false e)
    by false false e = refl

pub is_separator_lem : (u : ℕ) → is_separator u ≡ true → separator u ≡ some (separator_end u)
unfolding separator
is_separator_lem u e = by (eqb u 0x7C) (eqb u 0x0A) e
  where
    by : (a b : Bool) → (a || b) ≡ true → pick a (some Bar) (pick b (some LineFeed) none) ≡ some (pick a Bar LineFeed)
    by true b e = refl
    by false true e = refl
    by false false e = absurd (false≢true e)

-- ---- the units before a separator
take_with : (u : ℕ) (block : List ℕ) (o : Option End) → take (length (field_units block)) block ≡ field_units block
    → take (length (units_before o (u ∷ field_units block))) (u ∷ block) ≡ units_before o (u ∷ field_units block)
take_with u block none e = ap (λ (l : List ℕ). u ∷ l) e
take_with u block (some end) e = refl

-- the next field's units are the block's first ones
pub units_taken : (block : List ℕ) → take (length (field_units block)) block ≡ field_units block
unfolding field_units
units_taken [] = refl
units_taken (u ∷ block) = take_with u block (separator u) (units_taken block)

-- the units before a separator are some of the block's
pub units_fit : (block : List ℕ) → length (field_units block) ≤ length block
units_fit block = let e : length (field_units block) ≡ min (length (field_units block)) (length block) = sym (ap length (units_taken block)) ∙ length-take _ block in omega arith

-- ---- the scan
-- the units before the first separator, as the library's `position` finds it
pub scanned : (units : List ℕ) → length (field_units units) ≡ position_or_len is_separator units
unfolding field_units
scanned units = is_position_or_len (λ (l : List ℕ). length (field_units l)) is_separator refl one units
  where
    one : (u : ℕ) (l : List ℕ) → length (units_before (separator u) (u ∷ field_units l)) ≡ cond (is_separator u) 0 (1 + length (field_units l))
    one u l = by (is_separator u) refl
      where
        by : (t : Bool) → is_separator u ≡ t → length (units_before (separator u) (u ∷ field_units l)) ≡ cond t 0 (1 + length (field_units l))
        by true e = rw (is_separator_lem u e) refl
        by false e = rw (no_separator u e) (omega arith)

-- the place of the first separator, or the length where there is none
pub scanned_size : (units : List ℕ) → unwrap_or (position is_separator units) (length units) ≡ length (field_units units)
scanned_size units = by (ltb (position_or_len is_separator units) (length units)) refl
  where
    by : (t : Bool) → ltb (position_or_len is_separator units) (length units) ≡ t
        → unwrap_or (cond t (Some (position_or_len is_separator units)) None) (length units) ≡ length (field_units units)
    by true e = sym (scanned units)
    by false e = omega (arith, ltb-false _ _ e, scanned units, units_fit units)

-- ---- the copy
-- units copied behind those held are laid over the buffer there
pub laid : (buffer : List ℕ) (held : ℕ) (units : List ℕ) → paste buffer held units (length units) ≡ over_from held buffer units
unfolding over_from over
laid buffer held units =
    append_assoc (take held buffer) (take (length units) units) (drop (held + length units) buffer)
    ∙ ap (λ (l : List ℕ). take held buffer ++ (l ++ drop (held + length units) buffer)) (take-length units)
    ∙ ap (λ (r : List ℕ). take held buffer ++ (units ++ r)) (sym (drop-drop (length units) held buffer))

-- ---- what ends the next field
separator_end_lem : (u : ℕ) (end : End) → separator u ≡ some end → end ≡ separator_end u
unfolding separator
separator_end_lem u end e = by (eqb u 0x7C) (eqb u 0x0A) e
  where
    by : (a b : Bool) → pick a (some Bar) (pick b (some LineFeed) none) ≡ some end → end ≡ pick a Bar LineFeed
    by true b e = cc
    by false true e = cc
    by false false e = let z : ◌≡◌ {A = ℕ} 0 1 = cc in absurd (omega arith)

at_with : (u : ℕ) (block : List ℕ) (size : ℕ) (o : Option End) → separator u ≡ o → size ≡ length (units_before o (u ∷ field_units block)) → size < suc (length block)
    → ((n : ℕ) → n ≡ length (field_units block) → n < length block → separator_in block ≡ some (separator_end (get_or block n 0)))
    → either_end o (separator_in block) ≡ some (separator_end (get_or (u ∷ block) size 0))
at_with u block zero none q e h later = absurd (omega arith)
at_with u block (suc size) none q e h later = later size (omega arith) (omega arith)
at_with u block zero (some end) q e h later = ap some (separator_end_lem u end q)
at_with u block (suc size) (some end) q e h later = absurd (omega arith)

pub separator_at : (block : List ℕ) (size : ℕ) → size ≡ length (field_units block) → size < length block → separator_in block ≡ some (separator_end (get_or block size 0))
unfolding field_units separator_in
separator_at [] size e h = absurd (omega arith)
separator_at (u ∷ block) size e h = at_with u block size (separator u) refl e h (separator_at block)

none_with : (u : ℕ) (block : List ℕ) (o : Option End) → suc (length block) ≤ length (units_before o (u ∷ field_units block))
    → (length block ≤ length (field_units block) → separator_in block ≡ none) → either_end o (separator_in block) ≡ none
none_with u block none h later = later (omega arith)
none_with u block (some end) h later = absurd (omega arith)

pub separator_none : (block : List ℕ) → length block ≤ length (field_units block) → separator_in block ≡ none
unfolding field_units separator_in
separator_none [] h = refl
separator_none (u ∷ block) h = none_with u block (separator u) h (separator_none block)

-- ---- the cases of a call
module _ (held : ℕ) (buffer units : List ℕ) (end : End) (count read : ℕ) (state : Held) (after : List ℕ) (size : count ≡ length units) (reads : read ≡ read_with end count)
    (new : state ≡ fresh_held) where
  -- nothing was held: the field is shown from the block, and the buffer is as before
  pub found_here : held ≡ 0 → after ≡ buffer
      → FieldAnswered (found_call held buffer units end) (Ok (FieldFound (record { end = end; place = Block; count = count; read = read }))) state after
  unfolding found_call
  found_here z e =
      simp (eq-eqb held 0 z)
      (record {
        answer =
            ap (λ (n : ℕ). Ok (FieldFound (record { end = end; place = Block; count = count; read = n }))) reads
            ∙ ap (λ (n : ℕ). Ok (FieldFound (record { end = end; place = Block; count = n; read = read_with end n }))) size;
        state = ap (λ (h : Held). h.count) new;
        buffer = e;
      })

  -- units were held: the field is completed behind them and shown from the buffer
  pub found_held : (held ≡ 0 → ⊥) → after ≡ over_from held buffer units
      → FieldAnswered (found_call held buffer units end) (Ok (FieldFound (record { end = end; place = Buffer; count = held + count; read = read }))) state after
  unfolding found_call
  found_held z e =
      simp (ne_eqb held 0 z)
      (record {
        answer =
            ap (λ (n : ℕ). Ok (FieldFound (record { end = end; place = Buffer; count = held + count; read = n }))) reads
            ∙ ap (λ (n : ℕ). Ok (FieldFound (record { end = end; place = Buffer; count = held + n; read = read_with end n }))) size;
        state = ap (λ (h : Held). h.count) new;
        buffer = e;
      })

module _ (held : ℕ) (buffer block : List ℕ) (last : Bool) where
  -- a buffer of under 256 units: 20
  pub short : length buffer < field_limit → field_refusal held buffer block ≡ some BufferTooShort
  unfolding field_refusal
  short a = simp (lt-leb _ _ a)

  -- the block has over 65,536 units: 11
  pub too_long : field_limit ≤ length buffer → piece_limit < length block → field_refusal held buffer block ≡ some BlockTooLong
  unfolding field_refusal
  too_long a b = simp (le-leb _ _ a, lt-leb _ _ b)

  -- the state claims over 256 held units: 27
  pub invalid : field_limit ≤ length buffer → length block ≤ piece_limit → field_limit < held → field_refusal held buffer block ≡ some InvalidState
  unfolding field_refusal
  invalid a b d = simp (le-leb _ _ a, le-leb _ _ b, lt-leb _ _ d)

  -- the next field has over 256 units: 21
  pub over_limit : field_limit ≤ length buffer → length block ≤ piece_limit → held ≤ field_limit → field_limit < held + length (field_units block) → field_refusal held buffer block ≡ some FieldTooLong
  unfolding field_refusal
  over_limit a b d f = simp (le-leb _ _ a, le-leb _ _ b, le-leb _ _ d, lt-leb _ _ f)

  -- all four checks pass
  pub accepted : field_limit ≤ length buffer → length block ≤ piece_limit → held ≤ field_limit → held + length (field_units block) ≤ field_limit → field_refusal held buffer block ≡ none
  unfolding field_refusal
  accepted a b d f = simp (le-leb _ _ a, le-leb _ _ b, le-leb _ _ d, le-leb _ _ f)

  -- A refused call, with its refusal, the state it was handed and the buffer untouched, keeps the promise.
  pub call_refused : (why : Refusal) (s : Held) → s.count ≡ held → field_refusal held buffer block ≡ some why → FieldAnswered (field_call held buffer block last) (Err why) s buffer
  unfolding field_call refused_field_call
  call_refused why s w e = rw e (record { answer = refl; state = w; buffer = refl })

  -- An accepted call in which something ends the field keeps the promise if it gave that field.
  pub call_found : (size : ℕ) (end : End) (r : Result Answer Refusal) (s : Held) (after : List ℕ) → field_refusal held buffer block ≡ none → end_in held block last ≡ some end → size ≡ length (field_units block)
      → FieldAnswered (found_call held buffer (take size block) end) r s after → FieldAnswered (field_call held buffer block last) r s after
  unfolding field_call
  call_found size end r s after e q n w =
      rw (e, q) (subst (λ (l : List ℕ). FieldAnswered (found_call held buffer l end) r s after) (ap (λ (k : ℕ). take k block) n ∙ units_taken block) w)

  -- An accepted call in which nothing ends the field keeps the promise if it held the block.
  pub call_held : (r : Result Answer Refusal) (s : Held) (after : List ℕ) → field_refusal held buffer block ≡ none → end_in held block last ≡ none
      → FieldAnswered (held_call held buffer block) r s after → FieldAnswered (field_call held buffer block last) r s after
  unfolding field_call
  call_held r s after e q w = rw (e, q) w

  -- what ends the field: a separator, the text's end, or nothing
  pub end_separator : (size : ℕ) (end : End) → size ≡ length (field_units block) → size < length block → end ≡ separator_end (get_or block size 0) → end_in held block last ≡ some end
  unfolding end_in
  end_separator size end n h e = rw (separator_at block size n h) (ap some (sym e))

  -- the block has no separator: the text's end ends the field in a call marked last, if it has units; else nothing does
  pub end_other : (size : ℕ) (t : Bool) → size ≡ length (field_units block) → length block ≤ size → size ≤ length block → t ≡ (last && ltb 0 (held + size))
      → end_in held block last ≡ pick t (some Text) none
  unfolding end_in
  end_other size t n h k e =
      let s : size ≡ length block = omega arith in
      rw (separator_none block (omega arith)) (ap (λ (m : ℕ). pick (last && ltb 0 (held + m)) (some Text) none) (sym s) ∙ ap (λ (b : Bool). pick b (some Text) none) (sym e))
