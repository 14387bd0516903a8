-- The round trip: RFC 4180's reading of a file that was written says the records that were written.
use mathlib.Core.Bool.{Bool, true, false, ◌||◌}
use mathlib.Core.List.{List, [], ◌∷◌, ◌++◌, append_assoc}
use mathlib.Core.Option.{some}
use mathlib.Core.Path.{◌≡◌, refl, sym, ap, ◌∙◌}
use Prim.Native.Nat.{ℕ}
use native.Mathlib.Omega.{arith}
use lib.Dec.{eqb}
use lib.Seq.{append_snoc}
use borrow.Author.Tests.{eqb-true}
use Rattle.codepage.specs.CodePage.{pick}
use Rattle.rfc4180.specs.Csv.{is_special, needs_quotes, escaped, escaped_field, quoted, field_text, CsvRecord, others_text, row_text, file_text}
use Rattle.rfc4180.specs.Reading.{Mark, comma, return, feed, other, mark, State, record_begins, field_begins, plain, in_quotes, behind_quote, Rest, broken, no_more, going, with_unit, behind_comma, behind_break, step, at_text_end, reading, rows_in, rows_of}
use Rattle.rfc4180.proofs.CsvLaws.{or_false}

-- ---- units
plain_mark : (unit : ℕ) → is_special unit ≡ false → mark unit ≡ other
unfolding mark
plain_mark unit e =
    let c = or_false (eqb unit 0x2C) (eqb unit 0x22 || (eqb unit 0x0D || eqb unit 0x0A)) e in
    let q = or_false (eqb unit 0x22) (eqb unit 0x0D || eqb unit 0x0A) c.1 in
    let r = or_false (eqb unit 0x0D) (eqb unit 0x0A) q.1 in
    rw (q.0, c.0, r.0, r.1)

inside : (unit : ℕ) (k : State → Rest) → eqb unit 0x22 ≡ false → step in_quotes (mark unit) unit k ≡ with_unit unit (k in_quotes)
unfolding mark step
inside unit k e = rw e (by (eqb unit 0x2C) (eqb unit 0x0D) (eqb unit 0x0A))
  where
    by : (a b c : Bool) → step in_quotes (pick a comma (pick b return (pick c feed other))) unit k ≡ with_unit unit (k in_quotes)
    by true b c = refl
    by false true c = refl
    by false false true = refl
    by false false false = refl

-- ---- the units of a field
with_units : List ℕ → Rest → Rest
with_units [] rest = rest
with_units (unit ∷ units) rest = with_unit unit (with_units units rest)

with_all : (units : List ℕ) (others : List (List ℕ)) (rows : List CsvRecord) → with_units units (going [] others rows) ≡ going units others rows
unfolding with_units with_unit
with_all [] others rows = refl
with_all (unit ∷ units) others rows = ap (with_unit unit) (with_all units others rows)

plain_back : (field text : List ℕ) → needs_quotes field ≡ false → reading plain (field ++ text) ≡ with_units field (reading plain text)
unfolding needs_quotes reading with_units step
plain_back [] text e = refl
plain_back (unit ∷ field) text e =
    let w = or_false (is_special unit) (needs_quotes field) e in
    ap (λ (m : Mark). step plain m unit (λ next. reading next (field ++ text))) (plain_mark unit w.0)
    ∙ ap (with_unit unit) (plain_back field text w.1)

quote_back : (unit : ℕ) (text : List ℕ) (is : Bool) → eqb unit 0x22 ≡ is
    → reading in_quotes (pick is (0x22 ∷ 0x22 ∷ []) (unit ∷ []) ++ text) ≡ with_unit unit (reading in_quotes text)
unfolding reading step mark
quote_back unit text true e = ap (λ (u : ℕ). with_unit u (reading in_quotes text)) (sym (eqb-true unit 0x22 e))
quote_back unit text false e = inside unit (λ next. reading next text) e

quotes_back : (field text : List ℕ) → reading in_quotes (escaped_field field ++ (0x22 ∷ text)) ≡ with_units field (reading behind_quote text)
unfolding escaped_field escaped reading with_units step mark
quotes_back [] text = refl
quotes_back (unit ∷ field) text =
    ap (reading in_quotes) (append_assoc (escaped unit) (escaped_field field) (0x22 ∷ text))
    ∙ quote_back unit (escaped_field field ++ (0x22 ∷ text)) (eqb unit 0x22) refl
    ∙ ap (with_unit unit) (quotes_back field text)

-- ---- a field, up to the comma or the line break behind it
delimiter : Bool → ℕ
delimiter true = 0x2C
delimiter false = 0x0D

data Begins : State → Type 0 where
  of_record : Begins record_begins
  of_field : Begins field_begins

quoted_end : (is_comma : Bool) (text : List ℕ) → reading behind_quote (delimiter is_comma ∷ text) ≡ reading plain (delimiter is_comma ∷ text)
unfolding delimiter reading step mark
quoted_end true text = refl
quoted_end false text = refl

empty_end : {s : State} → Begins s → (is_comma : Bool) (text : List ℕ) → reading s (delimiter is_comma ∷ text) ≡ reading plain (delimiter is_comma ∷ text)
unfolding delimiter reading step mark
empty_end of_record true text = refl
empty_end of_record false text = refl
empty_end of_field true text = refl
empty_end of_field false text = refl

other_begins : {s : State} → Begins s → (unit : ℕ) (k : State → Rest) → step s other unit k ≡ with_unit unit (k plain)
unfolding step
other_begins of_record unit k = refl
other_begins of_field unit k = refl

quote_begins : {s : State} → Begins s → (text : List ℕ) → reading s (0x22 ∷ text) ≡ reading in_quotes text
unfolding reading step mark
quote_begins of_record text = refl
quote_begins of_field text = refl

unquoted_back : {s : State} → Begins s → (field : List ℕ) → needs_quotes field ≡ false → (is_comma : Bool) (text : List ℕ)
    → reading s (field ++ (delimiter is_comma ∷ text)) ≡ with_units field (reading plain (delimiter is_comma ∷ text))
unfolding needs_quotes reading with_units
unquoted_back b [] e is_comma text = empty_end b is_comma text
unquoted_back {s} b (unit ∷ field) e is_comma text =
    let w = or_false (is_special unit) (needs_quotes field) e in
    ap (λ (m : Mark). step s m unit (λ next. reading next (field ++ (delimiter is_comma ∷ text)))) (plain_mark unit w.0)
    ∙ other_begins b unit (λ next. reading next (field ++ (delimiter is_comma ∷ text)))
    ∙ ap (with_unit unit) (plain_back field (delimiter is_comma ∷ text) w.1)

quoted_back : {s : State} → Begins s → (field : List ℕ) (is_comma : Bool) (text : List ℕ)
    → reading s (quoted field ++ (delimiter is_comma ∷ text)) ≡ with_units field (reading plain (delimiter is_comma ∷ text))
unfolding quoted
quoted_back {s} b field is_comma text =
    quote_begins b ((escaped_field field ++ (0x22 ∷ [])) ++ (delimiter is_comma ∷ text))
    ∙ ap (reading in_quotes) (append_snoc (escaped_field field) 0x22 (delimiter is_comma ∷ text))
    ∙ quotes_back field (delimiter is_comma ∷ text)
    ∙ ap (with_units field) (quoted_end is_comma text)

-- A FIELD, quoted or not, is read back.
field_back : {s : State} → Begins s → (field : List ℕ) (is_comma : Bool) (text : List ℕ)
    → reading s (field_text field ++ (delimiter is_comma ∷ text)) ≡ with_units field (reading plain (delimiter is_comma ∷ text))
unfolding field_text
field_back {s} b field is_comma text = by (needs_quotes field) refl
  where
    by : (quotes : Bool) → needs_quotes field ≡ quotes
        → reading s (pick quotes (quoted field) field ++ (delimiter is_comma ∷ text)) ≡ with_units field (reading plain (delimiter is_comma ∷ text))
    by true e = quoted_back b field is_comma text
    by false e = unquoted_back b field e is_comma text

-- ---- a record, up to the next one
record Delimited (text : List ℕ) : Type 0 where
  is_comma : Bool
  behind : List ℕ
  here : text ≡ delimiter is_comma ∷ behind

others_begin : (others : List (List ℕ)) (text : List ℕ) → Delimited (others_text others ++ text)
unfolding others_text delimiter
others_begin [] text = record { is_comma = false; behind = 0x0A ∷ text; here = refl }
others_begin (field ∷ others) text = record { is_comma = true; behind = (field_text field ++ others_text others) ++ text; here = refl }

break_back : (rest : Rest) (rows : List CsvRecord) → rows_in rest ≡ some rows → behind_break rest ≡ going [] [] rows
unfolding rows_in behind_break
break_back broken rows e = let z : ◌≡◌ {A = ℕ} 0 1 = cc in absurd (omega arith)
break_back no_more rows e = cc
break_back (going field others more) rows e = cc

module _ (text : List ℕ) (rows : List CsvRecord) (behind : rows_in (reading record_begins text) ≡ some rows) where
  fields_back : {s : State} → Begins s → (field : List ℕ) (others : List (List ℕ)) → reading plain (others_text others ++ text) ≡ going [] others rows
      → reading s ((field_text field ++ others_text others) ++ text) ≡ going field others rows
  fields_back {s} b field others e =
      let d = others_begin others text in
      ap (reading s) (append_assoc (field_text field) (others_text others) text)
      ∙ ap (λ (l : List ℕ). reading s (field_text field ++ l)) d.here
      ∙ field_back b field d.is_comma d.behind
      ∙ ap (λ (l : List ℕ). with_units field (reading plain l)) (sym d.here)
      ∙ ap (with_units field) e
      ∙ with_all field others rows

  others_back : (others : List (List ℕ)) → reading plain (others_text others ++ text) ≡ going [] others rows
  unfolding others_text reading step mark behind_comma
  others_back [] = break_back (reading record_begins text) rows behind
  others_back (field ∷ others) = ap behind_comma (fields_back of_field field others (others_back others))

  -- A RECORD splits back into its fields.
  pub row_back : (row : CsvRecord) → rows_in (reading record_begins (row_text row ++ text)) ≡ some (row ∷ rows)
  unfolding row_text rows_in
  row_back row = ap rows_in (fields_back of_record row.first row.others (others_back row.others))

-- THE ROUND TRIP.
pub file_back : (rows : List CsvRecord) → rows_of (file_text rows) ≡ some rows
unfolding rows_of file_text reading at_text_end rows_in
file_back [] = refl
file_back (row ∷ rows) = row_back (file_text rows) rows (file_back rows) row
