-- Laws of the writer: units laid one after the other, a field with its quotes doubled, and the order in which a part is laid.
use mathlib.Core.Bool.{Bool, true, false, ◌||◌, true≢false}
use mathlib.Core.List.{List, [], ◌∷◌, ◌++◌, append_assoc}
use mathlib.Core.Path.{◌≡◌, refl, sym, ap, ◌∙◌, subst}
use Prim.Native.Nat.{ℕ, suc, ◌+◌, ◌*◌, ◌-◌, ◌≤◌, ◌<◌}
use native.Mathlib.Numerals.{add-one}
use native.Mathlib.Omega.{arith}
use lib.Dec.{eqb, leb}
use lib.ListN.{length, get_or, set, take, drop, length-append, take-append-drop}
use lib.Seq.{take-length, take-suc, take_all, drop-cons, paste-zero, take_at, drop-drop, length-take-le, sets-eq, drop-append-add}
use borrow.Author.Tests.{eq-eqb, ne_eqb, le-leb, lt-leb, leb-true, leb-false}
use Rattle.codepage.specs.CodePage.{pick}
use Rattle.codepage.specs.Lent.{over}
use Rattle.std.proofs.Common.{Some, None, nat_eq, cond}
use Rattle.std.proofs.lemmas.Slice.{put_mid-paste}
use Rattle.std.proofs.lemmas.List.Recursion.{is_count_by}
use borrow.Rule.Slice.PartMut.{put_mid}
use Rattle.rfc4180.specs.Csv.{is_special, needs_quotes, escaped, escaped_field, quoted, field_text, line_end}
use Rattle.rfc4180.specs.Records.{break_if, part_text, PutAs}
use Rattle.rfc4180.specs.Steps.{laid_at, LaidAt, count_if, quotes_in, when, in_quotes, in_order}

-- nothing behind a list changes nothing
pub append_none : (l : List ℕ) → l ++ [] ≡ l
append_none [] = refl
append_none (u ∷ l) = ap (λ (r : List ℕ). u ∷ r) (append_none l)

-- ---- units laid one after the other
module _ (before : List ℕ) (place : ℕ) (units : List ℕ) (fits : place + length units ≤ length before) where
  head_length : length (take place before ++ units) ≡ place + length units
  head_length = length-append (take place before) units ∙ ap (λ (n : ℕ). n + length units) (length-take-le place before (omega arith))

  pub laid_then : (more : List ℕ) → laid_at (laid_at before place units) (place + length units) more ≡ laid_at before place (units ++ more)
  unfolding laid_at
  laid_then more =
      let head = take place before ++ units in
      let e : place + length units + length more ≡ place + length (units ++ more) = omega (arith, length-append units more) in
      ap (λ (l : List ℕ). (l ++ more) ++ drop (place + length units + length more) (head ++ drop (place + length units) before))
      (take_at head (drop (place + length units) before) (place + length units) head_length)
      ∙ ap (λ (l : List ℕ). (head ++ more) ++ l)
      (ap (λ (n : ℕ). drop (n + length more) (head ++ drop (place + length units) before)) (sym head_length)
      ∙ drop-append-add head (drop (place + length units) before) (length more)
      ∙ drop-drop (length more) (place + length units) before
      ∙ ap (λ (n : ℕ). drop n before) e)
      ∙ ap (λ (l : List ℕ). l ++ drop (place + length (units ++ more)) before) (append_assoc (take place before) units more)

pub laid_nothing : (before : List ℕ) (place : ℕ) → laid_at before place [] ≡ before
unfolding laid_at
laid_nothing before place = sym (paste-zero before place [])

-- two parts, one behind the other
pub both : {before between after first second : List ℕ} {place next r : ℕ} → place + length first ≤ length before → LaidAt before between place first next → LaidAt between after next second r
    → LaidAt before after place (first ++ second) r
both {before} {between} {after} {first} {second} {place} {next} {r} h a b =
    record {
      lent =
          b.lent
          ∙ ap (λ (l : List ℕ). laid_at l next second) a.lent
          ∙ ap (λ (n : ℕ). laid_at (laid_at before place first) n second) a.next
          ∙ laid_then before place first h second;
      next = omega (arith, a.next, b.next, length-append first second);
    }

-- units copied to a place
pub laid_copied : (before : List ℕ) (place size : ℕ) (units copied : List ℕ) → size ≡ length units → copied ≡ units
    → LaidAt before (put_mid place size before copied) place units (place + length units)
unfolding laid_at
laid_copied before place size units copied n e =
    record {
      lent =
          put_mid-paste place size before copied units (length units) e (sym n) refl
          ∙ ap (λ (l : List ℕ). (take place before ++ l) ++ drop (place + length units) before) (take-length units);
      next = refl;
    }

-- units that are wanted are laid, those that are not are not
pub laid_wanted : {before after : List ℕ} {place r : ℕ} (wanted : Bool) (units : List ℕ) → wanted ≡ true → LaidAt before after place units r → LaidAt before after place (when wanted units) r
unfolding when
laid_wanted wanted units w laid = rw w laid

pub laid_unwanted : (before : List ℕ) (place : ℕ) (wanted : Bool) (units : List ℕ) → wanted ≡ false → LaidAt before before place (when wanted units) place
unfolding when
laid_unwanted before place wanted units w = rw w (record { lent = sym (laid_nothing before place); next = omega arith })

-- from the front on: the promise of a call
pub laid_all : (text before after : List ℕ) (r : ℕ) → length text ≤ length before → LaidAt before after 0 text r → PutAs text (Some r) before after
unfolding laid_at over
laid_all text before after r h laid =
    let front : 0 + length text ≡ length text = omega arith in
    record {
      result = ap (λ (n : ℕ). Some n) (laid.next ∙ front) ∙ ap (λ (b : Bool). pick b (Some (length text)) None) (sym (le-leb _ _ h));
      lent =
          laid.lent
          ∙ ap (λ (n : ℕ). text ++ drop n before) front
          ∙ ap (λ (b : Bool). over before (pick b text [])) (sym (le-leb _ _ h));
    }

-- a text that does not fit: no room, and the lent slice is as before
pub laid_none : (text before : List ℕ) → length before < length text → PutAs text None before before
unfolding over
laid_none text before h =
    record {
      result = ap (λ (b : Bool). pick b (Some (length text)) None) (sym (lt-leb _ _ h));
      lent = ap (λ (b : Bool). over before (pick b text [])) (sym (lt-leb _ _ h));
    }

-- the line break of `put_close`
pub close_all : (begun : Bool) (before after : List ℕ) (r : ℕ) → length (when begun line_end) ≤ length before → LaidAt before after 0 (when begun line_end) r → PutAs (break_if begun) (Some r) before after
unfolding when break_if
close_all begun before after r h laid = laid_all (break_if begun) before after r h laid

pub close_none : (begun : Bool) (before : List ℕ) → length before < length (when begun line_end) → PutAs (break_if begun) None before before
unfolding when break_if
close_none begun before h = laid_none (break_if begun) before h

-- ---- a unit, if it is wanted
-- a unit that is wanted is one unit, else none
pub when_length : (wanted : Bool) (unit : ℕ) → length (when wanted (unit ∷ [])) ≡ count_if wanted
unfolding when
when_length true unit = refl
when_length false unit = refl

-- and a line break two
pub when_break_length : (wanted : Bool) → length (when wanted line_end) ≡ 2 * count_if wanted
unfolding when
when_break_length true = refl
when_break_length false = refl

-- units that are wanted
pub when_wanted : (wanted : Bool) (units : List ℕ) → wanted ≡ true → when wanted units ≡ units
unfolding when
when_wanted wanted units e = rw e

-- a test of what is left is one of the whole
pub leb_rest : (a b c room : ℕ) → a ≤ room → b ≤ room - a → leb c (room - a - b) ≡ leb (a + b + c) room
leb_rest a b c room h k = by (leb c (room - a - b)) refl
  where
    by : (t : Bool) → leb c (room - a - b) ≡ t → leb c (room - a - b) ≡ leb (a + b + c) room
    by true e = let s : c ≤ room - a - b = leb-true _ _ e in e ∙ sym (le-leb (a + b + c) room (omega arith))
    by false e = let s : room - a - b < c = leb-false _ _ e in e ∙ sym (lt-leb (a + b + c) room (omega arith))

-- a unit that may be wanted needs at most one place
pub one_most : (wanted : Bool) → count_if wanted ≤ 1
one_most true = omega arith
one_most false = omega arith

-- ---- stores
module _ (before : List ℕ) (place unit : ℕ) where
  store_one : place < length before → set before place unit ≡ laid_at before place (unit ∷ [])
  unfolding laid_at
  store_one h = sets-eq (unit ∷ []) before place (omega arith)

  -- a unit that is no quote is stored as it is
  pub laid_other : (unit ≡ 0x22 → ⊥) → place < length before → LaidAt before (set before place unit) place (escaped unit) (place + 1)
  unfolding escaped
  laid_other e h =
      record {
        lent = store_one h ∙ ap (λ (b : Bool). laid_at before place (pick b (0x22 ∷ 0x22 ∷ []) (unit ∷ []))) (sym (ne_eqb _ _ e));
        next = ap (λ (b : Bool). place + length (pick b (0x22 ∷ 0x22 ∷ []) (unit ∷ []))) (sym (ne_eqb _ _ e));
      }

  -- a quote of a field is stored twice
  pub laid_quote : unit ≡ 0x22 → place + 2 ≤ length before → LaidAt before (set (set before place 0x22) (place + 1) 0x22) place (escaped unit) (place + 2)
  unfolding escaped laid_at
  laid_quote e h =
      record {
        lent =
            ap (λ (n : ℕ). set (set before place 0x22) n 0x22) (add-one place)
            ∙ sets-eq (0x22 ∷ 0x22 ∷ []) before place h
            ∙ ap (λ (b : Bool). laid_at before place (pick b (0x22 ∷ 0x22 ∷ []) (unit ∷ []))) (sym (eq-eqb _ _ e));
        next = ap (λ (b : Bool). place + length (pick b (0x22 ∷ 0x22 ∷ []) (unit ∷ []))) (sym (eq-eqb _ _ e));
      }

-- how many units a unit has inside quotes
pub quote_length : (unit : ℕ) → unit ≡ 0x22 → length (escaped unit) ≡ 2
unfolding escaped
quote_length unit e = ap (λ (b : Bool). length (pick b (0x22 ∷ 0x22 ∷ []) (unit ∷ []))) (eq-eqb _ _ e)

-- a unit that is no quote is written once
pub other_length : (unit : ℕ) → (unit ≡ 0x22 → ⊥) → length (escaped unit) ≡ 1
unfolding escaped
other_length unit e = ap (λ (b : Bool). length (pick b (0x22 ∷ 0x22 ∷ []) (unit ∷ []))) (ne_eqb _ _ e)

-- ---- a field with its quotes doubled
pub escaped_append : (a b : List ℕ) → escaped_field (a ++ b) ≡ escaped_field a ++ escaped_field b
unfolding escaped_field
escaped_append [] b = refl
escaped_append (unit ∷ a) b = ap (λ (l : List ℕ). escaped unit ++ l) (escaped_append a b) ∙ sym (append_assoc (escaped unit) (escaped_field a) (escaped_field b))

module _ (field : List ℕ) (i : ℕ) (h : i < length field) where
  pub escaped_turn : escaped_field (take (i + 1) field) ≡ escaped_field (take i field) ++ escaped (get_or field i 0)
  unfolding escaped_field
  escaped_turn =
      ap (λ (n : ℕ). escaped_field (take n field)) (add-one i)
      ∙ ap escaped_field (take-suc field i 0 h)
      ∙ escaped_append (take i field) (get_or field i 0 ∷ [])
      ∙ ap (λ (l : List ℕ). escaped_field (take i field) ++ l) (append_none (escaped (get_or field i 0)))

  -- room for the whole field is room for the units written so far and the next one
  pub escaped_rest : length (escaped_field (take i field)) + length (escaped (get_or field i 0)) ≤ length (escaped_field field)
  unfolding escaped_field
  escaped_rest =
      let e : length (escaped_field field) ≡ length (escaped_field (take i field)) + length (escaped_field (get_or field i 0 ∷ drop (suc i) field)) =
      ap (λ (l : List ℕ). length (escaped_field l)) (sym (take-append-drop i field))
      ∙ ap length (escaped_append (take i field) (drop i field))
      ∙ length-append (escaped_field (take i field)) (escaped_field (drop i field))
      ∙ ap (λ (l : List ℕ). length (escaped_field (take i field)) + length (escaped_field l)) (drop-cons field i 0 h) in
      omega (arith, length-append (escaped (get_or field i 0)) (escaped_field (drop (suc i) field)))

  -- one unit more is laid
  pub laid_turn : {before between after : List ℕ} {place at r : ℕ} → place + length (escaped_field field) ≤ length before
      → LaidAt before between place (escaped_field (take i field)) at → LaidAt between after at (escaped (get_or field i 0)) r
      → LaidAt before after place (escaped_field (take (i + 1) field)) r
  laid_turn {before} {between} {after} {place} {at} {r} fits a b =
      subst (λ (l : List ℕ). LaidAt before after place l r) (sym escaped_turn) (both (omega (arith, escaped_rest)) a b)

quotes : List ℕ → ℕ
quotes [] = 0
quotes (unit ∷ field) = cond (nat_eq unit 0x22) (1 + quotes field) (quotes field)

counted : (field : List ℕ) → length (escaped_field field) ≡ length field + quotes field
unfolding escaped_field escaped quotes
counted [] = refl
counted (unit ∷ field) = by (eqb unit 0x22) (counted field)
  where
    by : (t : Bool) → length (escaped_field field) ≡ length field + quotes field
        → length (pick t (0x22 ∷ 0x22 ∷ []) (unit ∷ []) ++ escaped_field field) ≡ suc (length field) + cond t (1 + quotes field) (quotes field)
    by true h = omega arith
    by false h = omega arith

-- a field as written is longer by its quotes
pub quotes_counted : (field : List ℕ) → length (escaped_field field) ≡ length field + quotes_in field
unfolding quotes
quotes_counted field = counted field ∙ ap (λ (n : ℕ). length field + n) (is_count_by quotes (λ (unit : ℕ). nat_eq unit 0x22) refl (λ unit l. refl) field)

-- before the first unit of a field nothing is laid
pub laid_start : (before field : List ℕ) (place : ℕ) → LaidAt before before place (escaped_field (take 0 field)) place
unfolding escaped_field
laid_start before field place = record { lent = sym (laid_nothing before place); next = omega arith }

-- behind the last unit of a field all of it is laid
pub laid_whole : {before after : List ℕ} {place at : ℕ} (field : List ℕ) (i : ℕ) → length field ≤ i → LaidAt before after place (escaped_field (take i field)) at
    → LaidAt before after place (escaped_field field) at
laid_whole {before} {after} {place} {at} field i h a = subst (λ (l : List ℕ). LaidAt before after place (escaped_field l) at) (take_all i field h) a

-- ---- the order in which a part is laid
-- neither of two tests holds if their disjunction does not
pub or_false : (a b : Bool) → (a || b) ≡ false → (a ≡ false) × (b ≡ false)
or_false false b e = (refl, e)
or_false true b e = absurd (true≢false e)

pub plain_escaped : (field : List ℕ) → needs_quotes field ≡ false → escaped_field field ≡ field
unfolding needs_quotes escaped_field escaped
plain_escaped [] e = refl
plain_escaped (unit ∷ field) e =
    let w = or_false (is_special unit) (needs_quotes field) e in
    let not_comma = or_false (eqb unit 0x2C) (eqb unit 0x22 || (eqb unit 0x0D || eqb unit 0x0A)) w.0 in
    let not_quote = or_false (eqb unit 0x22) (eqb unit 0x0D || eqb unit 0x0A) not_comma.1 in
    ap (λ (b : Bool). pick b (0x22 ∷ 0x22 ∷ []) (unit ∷ []) ++ escaped_field field) not_quote.0
    ∙ ap (λ (l : List ℕ). unit ∷ l) (plain_escaped field w.1)

field_in_order : (field : List ℕ) (quotes : Bool) → needs_quotes field ≡ quotes → in_quotes quotes field ≡ pick quotes (quoted field) field
unfolding in_quotes when quoted
field_in_order field true e = refl
field_in_order field false e = append_none (escaped_field field) ∙ plain_escaped field e

comma_in_order : (begun : Bool) → when begun (0x2C ∷ []) ≡ pick begun (0x2C ∷ []) []
unfolding when
comma_in_order begun = refl

pub in_order_lem : (begun closed : Bool) (field : List ℕ) → in_order begun (needs_quotes field) closed field ≡ part_text begun field closed
unfolding in_order in_quotes part_text field_text
in_order_lem begun closed field =
    ap (λ (l : List ℕ). l ++ (in_quotes (needs_quotes field) field ++ break_if closed)) (comma_in_order begun)
    ∙ ap (λ (l : List ℕ). pick begun (0x2C ∷ []) [] ++ (l ++ break_if closed)) (field_in_order field (needs_quotes field) refl)

-- how many units there are
pub break_length : (wanted : Bool) → length (break_if wanted) ≡ 2 * count_if wanted
unfolding break_if
break_length true = refl
break_length false = refl

module _ (quotes : Bool) (field : List ℕ) where
  -- the length of a field's text: its units with doubled quotes, and two if it is in quotes
  pub quotes_length : length (in_quotes quotes field) ≡ length (escaped_field field) + 2 * count_if quotes
  unfolding in_quotes
  quotes_length =
      omega (
        arith,
        length-append (when quotes (0x22 ∷ [])) (escaped_field field ++ when quotes (0x22 ∷ [])),
        length-append (escaped_field field) (when quotes (0x22 ∷ [])),
        when_length quotes 0x22,
      )

  -- the length of a call's text: the field's units with doubled quotes, and what stands before and behind them
  pub order_length : (begun closed : Bool) → length (in_order begun quotes closed field) ≡ length (escaped_field field) + (count_if begun + 2 * count_if quotes + 2 * count_if closed)
  unfolding in_order
  order_length begun closed =
      omega (
        arith,
        length-append (when begun (0x2C ∷ [])) (in_quotes quotes field ++ break_if closed),
        length-append (in_quotes quotes field) (break_if closed),
        when_length begun 0x2C,
        quotes_length,
        break_length closed,
      )

-- three parts, one behind the other
pub quotes_laid : {before a b after : List ℕ} {place p q r : ℕ} (quotes : Bool) (field : List ℕ) → place + length (in_quotes quotes field) ≤ length before
    → LaidAt before a place (when quotes (0x22 ∷ [])) p → LaidAt a b p (escaped_field field) q → LaidAt b after q (when quotes (0x22 ∷ [])) r → length a ≡ length before
    → LaidAt before after place (in_quotes quotes field) r
unfolding in_quotes
quotes_laid quotes field h x y z same =
    both (omega (arith, when_length quotes 0x22, quotes_length quotes field)) x
    (both (omega (arith, x.next, when_length quotes 0x22, quotes_length quotes field)) y z)

-- the comma, the field and the line break, laid one behind the other from the front, are the call's text
pub part_laid : {before a b after : List ℕ} {p q r : ℕ} (begun quotes closed : Bool) (field : List ℕ) → length (in_order begun quotes closed field) ≤ length before
    → LaidAt before a 0 (when begun (0x2C ∷ [])) p → LaidAt a b p (in_quotes quotes field) q → LaidAt b after q (when closed line_end) r → length a ≡ length before
    → LaidAt before after 0 (in_order begun quotes closed field) r
unfolding in_order when break_if
part_laid begun quotes closed field h x y z same =
    both (omega (arith, when_length begun 0x2C, order_length quotes field begun closed)) x
    (both (omega (arith, x.next, when_length begun 0x2C, quotes_length quotes field, order_length quotes field begun closed)) y z)

-- ---- the call: what was counted is the part's length
module _ (begun quotes closed : Bool) (field before : List ℕ) (count more : ℕ) (fits : Bool) (q : quotes ≡ needs_quotes field)
    (n : count ≡ quotes_in field) (m : more ≡ count_if begun + 2 * count_if quotes + 2 * count_if closed)
    (f : fits ≡ leb (length field + count + more) (length before)) where
  part_is : in_order begun quotes closed field ≡ part_text begun field closed
  part_is = ap (λ (b : Bool). in_order begun b closed field) q ∙ in_order_lem begun closed field

  part_size : length (in_order begun quotes closed field) ≡ length field + count + more
  part_size = omega (arith, order_length quotes field begun closed, quotes_counted field)

  -- the count is over the room: the promise holds with nothing written
  pub part_none : fits ≡ false → PutAs (part_text begun field closed) None before before
  part_none e =
      let s : length before < length field + count + more = leb-false _ _ (sym f ∙ e) in
      subst (λ (l : List ℕ). PutAs l None before before) part_is (laid_none (in_order begun quotes closed field) before (omega (arith, part_size)))

  -- the count is within the room: the text fits
  pub part_room : fits ≡ true → length (in_order begun quotes closed field) ≤ length before
  part_room e = let s : length field + count + more ≤ length before = leb-true _ _ (sym f ∙ e) in omega (arith, part_size)

  -- the count is within the room and the text is laid: the promise holds with its length
  pub part_whole : {after : List ℕ} {r : ℕ} → fits ≡ true → LaidAt before after 0 (in_order begun quotes closed field) r → PutAs (part_text begun field closed) (Some r) before after
  part_whole {after} {r} e laid =
      subst (λ (l : List ℕ). PutAs l (Some r) before after) part_is (laid_all (in_order begun quotes closed field) before after r (part_room e) laid)
