-- Fields of a beginning of a text: those that a separator ended are the first of the whole text's. So the fields given for a part
-- of the converter's output hold for the whole of it.
use mathlib.Core.Bool.{Bool, true, false, false≢true}
use mathlib.Core.List.{List, [], ◌∷◌, ◌++◌, append_assoc}
use mathlib.Core.Option.{Option, none, some}
use mathlib.Core.Path.{◌≡◌, refl, sym, ap, ◌∙◌}
use Prim.Native.Nat.{ℕ, ◌+◌}
use native.Mathlib.Omega.{arith}
use lib.Dec.{eqb}
use lib.ListN.{drop}
use lib.Seq.{drop-append-le}
use Rattle.codepage.specs.CodePage.{pick}
use Rattle.fields.specs.declared.End.{End}
use Rattle.fields.specs.declared.End.TheVariants.{Bar, LineFeed, Text}
use Rattle.fields.specs.declared.Held.{Held}
use Rattle.fields.specs.Fields.{Field, separator, prepend, before, fields_of, is_text, separated, fresh_held, read_by}
use Rattle.fields.specs.Cuttings.{FieldEntry, AllFieldsMeet, given_by, Progress, opened_cutting, next_progress, play_fields, FieldAllowed, AllFieldsAllowed, FieldTrace, NoneLast}
use Rattle.fields.proofs.EveryCutting.{Kept, kept_start, kept_call, every_cutting}

-- ---- the law
First : (fields first : List Field) → Type 0
First fields first = (others : List Field) × (fields ≡ first ++ others)

no_text : (u : ℕ) (end : End) → separator u ≡ some end → is_text end ≡ false
unfolding separator
no_text u end e = by (eqb u 0x7C) (eqb u 0x0A) end e
  where
    by : (a b : Bool) (end : End) → pick a (some Bar) (pick b (some LineFeed) none) ≡ some end → is_text end ≡ false
    by a b Bar e = refl
    by a b LineFeed e = refl
    by true b Text e = let z : ◌≡◌ {A = ℕ} 0 1 = cc in absurd (omega arith)
    by false true Text e = let z : ◌≡◌ {A = ℕ} 0 1 = cc in absurd (omega arith)
    by false false Text e = let z : ◌≡◌ {A = ℕ} 0 1 = cc in absurd (omega arith)

first_prepend : (u : ℕ) (part whole : List Field) → First whole (separated part) → First (prepend u whole) (separated (prepend u part))
unfolding First separated prepend
first_prepend u [] whole w = (prepend u whole, refl)
first_prepend u (f ∷ part) whole w = by (is_text f.end) refl w
  where
    by : (t : Bool) → is_text f.end ≡ t → First whole (pick t [] (f ∷ separated part)) → First (prepend u whole) (pick t [] (record { units = u ∷ f.units; end = f.end } ∷ separated part))
    by true q w = (prepend u whole, refl)
    by false q w = (w.0, ap (prepend u) w.1)

first_before : (u : ℕ) (o : Option End) (part whole : List Field) → separator u ≡ o → First whole (separated part) → First (before u o whole) (separated (before u o part))
unfolding First separated
first_before u none part whole q w = first_prepend u part whole w
first_before u (some end) part whole q w =
    rw (no_text u end q) (w.0, ap (λ (l : List Field). record { units = []; end = end } ∷ l) w.1)

-- THE LAW: the fields that a separator ended in a beginning of a text are the first of the text's fields.
pub separated_first : (text more : List ℕ) → (others : List Field) × (fields_of (text ++ more) ≡ separated (fields_of text) ++ others)
unfolding First fields_of separated
separated_first [] more = (fields_of more, refl)
separated_first (u ∷ text) more = first_before u (separator u) (fields_of text) (fields_of (text ++ more)) refl (separated_first text more)

-- ---- lists of calls
-- A list of calls on a beginning, none marked last, is a list of calls on the whole, and gives the same.
longer : (text more : List ℕ) (es : List FieldEntry) (state : Held) (buffer : List ℕ) (p q : Progress) → Kept text state buffer p → q.position ≡ p.position → q.given ≡ p.given
    → NoneLast es → AllFieldsAllowed text p es → AllFieldsMeet state buffer es → AllFieldsAllowed (text ++ more) q es × ((play_fields (text ++ more) q es).given ≡ (play_fields text p es).given)
unfolding NoneLast AllFieldsAllowed FieldAllowed AllFieldsMeet play_fields next_progress
longer text more [] state buffer p q k a b going ok w = (tt, b)
longer text more (e ∷ es) state buffer p q k a b going ok w =
    let rest : List ℕ = ok.0.0 in
    let here : drop q.position (text ++ more) ≡ e.block ++ (rest ++ more) =
    ap (λ (n : ℕ). drop n (text ++ more)) a ∙ drop-append-le p.position text more k.within ∙ ap (λ (l : List ℕ). l ++ more) ok.0.1 ∙ append_assoc e.block rest more in
    let later =
    longer text more es e.state e.buffer (next_progress text p e) (next_progress (text ++ more) q e) (kept_call text state buffer p e rest k ok.0.1 ok.0.2 w.0)
    (ap (λ (n : ℕ). n + read_by e.answer) a) (ap (λ (l : List Field). l ++ given_by e.answer e.part) b) going.1 ok.1 w.1 in
    (((rest ++ more, here, λ l. absurd (false≢true (sym going.0 ∙ l))), later.0), later.1)

-- FOR THE IMPORT: the fields given on a beginning of a text by calls not marked last are the first of the whole text's.
pub every_beginning : (text more buffer : List ℕ) (es : List FieldEntry) → FieldTrace text buffer es → NoneLast es
    → (others : List Field) × (fields_of (text ++ more) ≡ (play_fields text opened_cutting es).given ++ others)
every_beginning text more buffer es t going =
    let w = longer text more es fresh_held buffer opened_cutting opened_cutting (kept_start text buffer) refl refl going t.allowed t.met in
    let whole = (every_cutting (text ++ more) buffer es (record { allowed = w.0; met = t.met })).begins in
    (whole.0, whole.1 ∙ ap (λ (l : List Field). l ++ whole.0) w.1)
