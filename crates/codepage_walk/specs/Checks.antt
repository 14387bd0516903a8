-- What a call on a byte text checks first, and how one check follows another. (Document 02, CR 7, 8, 11 and 12: "after 10 and 11".) R is
-- a product's own type of refusals.
use Rattle.std.specs.Prelude.{Bool, List, ◌⊎◌, ℕ, ◌≤◌, ◌<◌, leb}
use Rattle.std.proofs.Math.Option.{Option, some}
use Rattle.codepage.specs.CodePage.{CodePage, GoodShape, pick, first_fault, is_good}
use Rattle.codepage.specs.Reading.{Reader, decoder}

-- a check, and what comes after it: the first that fails is the refusal
abbrev pub refuse_unless : {R : Type 0} → R → (holds : Bool) → (next : Option R) → Option R
refuse_unless refusal holds next = pick holds next (some refusal)

-- 10 and 11: the shape is good, and the text has no more bytes than the limit
abbrev pub text_checks : {R : Type 0} → (bad_shape too_long : R) → CodePage → (limit size : ℕ) → (next : Option R) → Option R
text_checks bad_shape too_long p limit size next = refuse_unless bad_shape (is_good (first_fault p)) (refuse_unless too_long (leb size limit) next)

-- 10 and 11 pass
abbrev pub TextPasses : CodePage → (limit size : ℕ) → Type 0
TextPasses p limit size = GoodShape p × (size ≤ limit)

-- 10, or 11 after it, fails
abbrev pub TextFails : CodePage → (limit size : ℕ) → Type 0
TextFails p limit size = (GoodShape p → ⊥) ⊎ (GoodShape p × (limit < size))

-- the reader of the page's bytes
abbrev pub bytes_reader : CodePage → Reader
bytes_reader p = decoder p.classes p.singles p.pairs

-- What is found by the classes alone holds whatever the characters are.
abbrev pub ForClasses : (classes : List ℕ) → (Reader → Type 0) → Type 0
ForClasses classes holds = (singles pairs : List ℕ) → holds (decoder classes singles pairs)
