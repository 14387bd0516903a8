-- The whole reading, the codes of a text, and the engine.
use mathlib.Core.Bool.{Bool, true, false}
use mathlib.Core.List.{List, [], ◌∷◌}
use mathlib.Core.Option.{Option, none, some}
use mathlib.Core.Path.{◌≡◌, refl, sym, ap, ◌∙◌}
use Prim.Native.Nat.{ℕ}
use lib.ListN.{drop}
use Rattle.codepage.specs.Reading.{Reader, Code, size_of, alone, settled, call_codes, codes_at_end, codes}
use Rattle.codepage.proofs.ReadingLaws.{codes_wait, codes_one, codes_settled, none_waits}
use Rattle.engine.specs.declared.Policy.{Policy}
use Rattle.engine.specs.Engine.{converter, endless, take_codes, feed_from, feed, whole}
use Rattle.engine.proofs.EngineLaws.{uncut}

-- ---- a code is fixed by at most two units
-- the code that begins with a, before the unit b or at the text's end
abbrev pub first_when : (waits : Bool) → Reader → ℕ → Option ℕ → Code
first_when false r a next = alone r a
first_when true r a none = alone r a
first_when true r a (some b) = settled r a b

abbrev pub first_of : List ℕ → Option ℕ
first_of [] = none
first_of (a ∷ l) = some a

codes_first : (r : Reader) (a : ℕ) (l : List ℕ) (t : Bool) → r.waits a ≡ t
    → call_codes r true none (a ∷ l) ≡ first_when t r a (first_of l) ∷ call_codes r true none (drop (size_of (first_when t r a (first_of l))) (a ∷ l))
codes_first r a l false e = codes_one r true a l e
codes_first r a [] true e = codes_wait r true a [] e ∙ end
  where
    end : call_codes r true (some a) [] ≡ alone r a ∷ call_codes r true none []
    end = unfold call_codes codes_at_end in refl
codes_first r a (b ∷ l) true e = codes_wait r true a (b ∷ l) e ∙ codes_settled r true a b l

-- A CODE IS FIXED BY AT MOST TWO UNITS: the first code is a function of the text's first two, and the rest are the codes of
-- what is left.
pub codes_fixed : (r : Reader) (a : ℕ) (l : List ℕ)
    → codes r (a ∷ l) ≡ first_when (r.waits a) r a (first_of l) ∷ codes r (drop (size_of (first_when (r.waits a) r a (first_of l))) (a ∷ l))
unfolding codes
codes_fixed r a l = codes_first r a l (r.waits a) refl

-- THE WHOLE READING is what one call marked last gives with room for all.
pub whole_is_feed : (r : Reader) (policy : Policy) (default : ℕ) (text : List ℕ) → whole r policy default text ≡ uncut (converter r policy default) text
unfolding whole codes uncut feed feed_from converter
whole_is_feed r policy default text = ap (take_codes (converter r policy default) endless (call_codes r true none text)) (sym (none_waits r none text))
