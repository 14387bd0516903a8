-- Laws of fields: a text that begins with units that are no separators, and the fields of a beginning of a text.
use mathlib.Core.List.{List, [], ◌∷◌, ◌++◌}
use mathlib.Core.Option.{Option, none, some}
use mathlib.Core.Path.{◌≡◌, refl, sym, ap, ◌∙◌}
use Prim.Native.Nat.{ℕ, ◌<◌}
use native.Mathlib.Omega.{arith}
use lib.ListN.{length}
use Rattle.fields.specs.declared.End.{End}
use Rattle.fields.specs.declared.End.TheVariants.{Text}
use Rattle.fields.specs.Fields.{Field, separator, prepend, before, fields_of, units_before, field_units, either_end, separator_in}

-- ---- a block: the units before its first separator
or_none_lem : (o p : Option End) → either_end o p ≡ none → (o ≡ none) × (p ≡ none)
or_none_lem none p e = (refl, e)
or_none_lem (some end) p e = let z : ◌≡◌ {A = ℕ} 0 1 = cc in absurd (omega arith)

-- behind units that are no separators the first separator is that of the rest
pub separator_append : (a b : List ℕ) → separator_in a ≡ none → separator_in (a ++ b) ≡ separator_in b
unfolding separator_in
separator_append [] b e = refl
separator_append (u ∷ a) b e =
    let w = or_none_lem (separator u) (separator_in a) e in
    ap (λ (o : Option End). either_end o (separator_in (a ++ b))) w.0 ∙ separator_append a b w.1

stop_none : (o : Option End) (u : ℕ) (l : List ℕ) → separator_in l ≡ none → separator u ≡ o → separator_in (units_before o (u ∷ l)) ≡ none
unfolding separator_in
stop_none none u l e q = ap (λ (o : Option End). either_end o (separator_in l)) q ∙ e
stop_none (some end) u l e q = refl

-- the units before the first separator are no separators
pub units_plain : (block : List ℕ) → separator_in (field_units block) ≡ none
unfolding field_units separator_in
units_plain [] = refl
units_plain (u ∷ block) = stop_none (separator u) u (field_units block) (units_plain block) refl

-- no separator: all units are before it
pub units_all : (block : List ℕ) → separator_in block ≡ none → field_units block ≡ block
unfolding field_units separator_in
units_all [] e = refl
units_all (u ∷ block) e =
    let w = or_none_lem (separator u) (separator_in block) e in
    ap (λ (o : Option End). units_before o (u ∷ field_units block)) w.0 ∙ ap (λ (l : List ℕ). u ∷ l) (units_all block w.1)

-- a separator: the units before it, itself, and what is behind it
pub record Split (block : List ℕ) (end : End) : Type 0 where
  pub unit : ℕ
  pub behind : List ℕ
  pub is_end : separator unit ≡ some end
  pub parts : block ≡ field_units block ++ (unit ∷ behind)

split_with : (u : ℕ) (block : List ℕ) (end : End) (o : Option End) → separator u ≡ o → either_end o (separator_in block) ≡ some end
    → (separator_in block ≡ some end → Split block end) → Split (u ∷ block) end
unfolding field_units
split_with u block end none q e later =
    let w = later e in
    record {
      unit = w.unit;
      behind = w.behind;
      is_end = w.is_end;
      parts = ap (λ (l : List ℕ). u ∷ l) w.parts ∙ ap (λ (o : Option End). units_before o (u ∷ field_units block) ++ (w.unit ∷ w.behind)) (sym q);
    }
split_with u block end (some end') q e later =
    record { unit = u; behind = block; is_end = q ∙ e; parts = ap (λ (o : Option End). units_before o (u ∷ field_units block) ++ (u ∷ block)) (sym q) }

-- a block that has a separator is the units before it, the separator, and what is behind it
pub split : (block : List ℕ) (end : End) → separator_in block ≡ some end → Split block end
unfolding separator_in
split [] end e = let z : ◌≡◌ {A = ℕ} 0 1 = cc in absurd (omega arith)
split (u ∷ block) end e = split_with u block end (separator u) refl e (split block end)

-- ---- the fields of a text that begins with plain units
-- plain units begin the next field
unfoldable pub begin : List ℕ → List Field → List Field
begin [] fields = fields
begin (u ∷ units) fields = prepend u (begin units fields)

-- units that are no separators, before a text, begin the first of its fields
pub fields_begin : (units text : List ℕ) → separator_in units ≡ none → fields_of (units ++ text) ≡ begin units (fields_of text)
unfolding fields_of separator_in begin
fields_begin [] text e = refl
fields_begin (u ∷ units) text e =
    let w = or_none_lem (separator u) (separator_in units) e in
    ap (λ (o : Option End). before u o (fields_of (units ++ text))) w.0 ∙ ap (prepend u) (fields_begin units text w.1)

begin_field : (units more : List ℕ) (end : End) (fields : List Field)
    → begin units (record { units = more; end = end } ∷ fields) ≡ record { units = units ++ more; end = end } ∷ fields
unfolding begin prepend
begin_field [] more end fields = refl
begin_field (u ∷ units) more end fields = ap (prepend u) (begin_field units more end fields)

append_none : (l : List ℕ) → l ++ [] ≡ l
append_none [] = refl
append_none (u ∷ l) = ap (λ (r : List ℕ). u ∷ r) (append_none l)

-- up to a separator: one field, and the fields of the rest
pub field_first : (units : List ℕ) (unit : ℕ) (end : End) (rest : List ℕ) → separator_in units ≡ none → separator unit ≡ some end
    → fields_of (units ++ (unit ∷ rest)) ≡ record { units = units; end = end } ∷ fields_of rest
unfolding fields_of
field_first units unit end rest e q =
    fields_begin units (unit ∷ rest) e
    ∙ ap (λ (o : Option End). begin units (before unit o (fields_of rest))) q
    ∙ begin_field units [] end (fields_of rest)
    ∙ ap (λ (l : List ℕ). record { units = l; end = end } ∷ fields_of rest) (append_none units)

-- up to the text's end: one field, if it has units
pub field_last : (units : List ℕ) → separator_in units ≡ none → 0 < length units → fields_of units ≡ record { units = units; end = Text } ∷ []
unfolding fields_of begin prepend
field_last units e h = ap fields_of (sym (append_none units)) ∙ fields_begin units [] e ∙ all units h
  where
    all : (units : List ℕ) → 0 < length units → begin units [] ≡ record { units = units; end = Text } ∷ []
    all [] h = absurd (omega arith)
    all (u ∷ []) h = refl
    all (u ∷ v ∷ units) h = ap (prepend u) (all (v ∷ units) (omega arith))
