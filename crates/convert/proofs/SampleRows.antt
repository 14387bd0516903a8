-- The rows of document 01, of CR 2, CR 4 and CR 5 hold of the rules, the sample page has a good shape, and texts on it return or do not.
use mathlib.Core.List.{[], ◌∷◌}
use mathlib.Core.Path.{◌≡◌, refl, sym, ap, ◌∙◌}
use Prim.Native.Nat.{ℕ}
use native.Mathlib.Omega.{arith}
use Rattle.codepage.specs.Reading.{Lookup}
use Rattle.std.specs.Result.{result_unwrap_or}
use Rattle.codepage.specs.CodePage.{GoodShape}
use Rattle.codepage.specs.Reading.{bytes_of, codes}
use Rattle.codepage.specs.declared.Kind.TheVariants.{UndefinedSingle, Invalid}
use Rattle.std.specs.Prelude.{Ok, Err}
use Rattle.codepage.proofs.ShapeLaws.{shape_exact}
use Rattle.engine.specs.declared.Direction.TheVariants.{Decoding, Encoding}
use Rattle.engine.specs.Engine.{reader_of}
use Rattle.convert.specs.RoundTrips.{RoundTrips, UnitsReturn, BytesReturn}
use Rattle.convert.specs.Sample.{sample_page, rows, standard_rows, bad_half_rows, surrogate_rows, pending_refusals, RowsHold}
use Rattle.convert.proofs.Computing.{shape_rules, reading_rules, call_rules}

-- The sample page has a good shape.
pub sample_good : GoodShape sample_page
unfolding shape_rules
sample_good = (shape_exact sample_page).0 refl

-- THE ROWS: one list, one claim.
pub rows_hold : RowsHold rows
unfolding call_rules
rows_hold = (refl, (refl, (refl, (refl, (refl, (refl, (refl, (refl, (refl, (refl, (refl, (refl, (refl, (refl, (refl, (refl, tt))))))))))))))))

-- THE ROWS OF CR 4.
pub standard_rows_hold : RowsHold standard_rows
unfolding call_rules
standard_rows_hold = (refl, (refl, (refl, tt)))

-- THE ROWS OF CR 2.
pub bad_halves_hold : RowsHold bad_half_rows
unfolding call_rules
bad_halves_hold = (refl, (refl, (refl, (refl, (refl, (refl, (refl, (refl, tt))))))))

-- their codes: 82 alone and 0A, and 82 80 together
pub bad_half_alone : codes (reader_of Decoding sample_page) (0x82 ∷ 0x0A ∷ [])
    ≡ record { first = 0x82; more = []; means = Err Invalid } ∷ record { first = 0x0A; more = []; means = Ok 0x000A } ∷ []
unfolding reading_rules
bad_half_alone = refl

pub bad_half_taken : codes (reader_of Decoding sample_page) (0x82 ∷ 0x80 ∷ []) ≡ record { first = 0x82; more = 0x80 ∷ []; means = Err Invalid } ∷ []
unfolding reading_rules
bad_half_taken = refl

-- THE ROWS OF CR 5.
pub surrogates_hold : RowsHold surrogate_rows
unfolding call_rules
surrogates_hold = (refl, (refl, (refl, (refl, (refl, (refl, (refl, (refl, (refl, tt)))))))))

pub pending_refused : RowsHold pending_refusals
unfolding call_rules
pending_refused = (refl, (refl, (refl, (refl, (refl, (refl, (refl, tt)))))))

-- their codes: D83D DE00 together, and D83D alone before 0041
pub pair_together : codes (reader_of Encoding sample_page) (0xD83D ∷ 0xDE00 ∷ []) ≡ record { first = 0xD83D; more = 0xDE00 ∷ []; means = Err UndefinedSingle } ∷ []
unfolding reading_rules
pair_together = refl

pub high_alone : codes (reader_of Encoding sample_page) (0xD83D ∷ 0x0041 ∷ [])
    ≡ record { first = 0xD83D; more = []; means = Err Invalid } ∷ record { first = 0x0041; more = []; means = Ok 0x41 } ∷ []
unfolding reading_rules
high_alone = refl

-- ---- texts that return, and one that does not
-- 4E00 and 827C belong together.
kanji_returns : RoundTrips sample_page 0x4E00 0x827C
unfolding reading_rules
kanji_returns = record { own = refl; read = record { first = 0x82; more = 0x7C ∷ []; means = Ok 0x4E00 }; one_code = refl; character = refl }

pub unit_returns : UnitsReturn sample_page (0x4E00 ∷ [])
unit_returns = ((0x827C, kanji_returns), tt)

pub code_returns : BytesReturn sample_page (0x82 ∷ 0x7C ∷ [])
unfolding reading_rules
code_returns = (record { unit = 0x4E00; code = 0x827C; character = refl; bytes = refl; belong = kanji_returns }, tt)

-- 00A0 has the code 20, which is read as 0020: the unit belongs with no code.
own_code : (reader_of Encoding sample_page).one 0xA0 ≡ Ok 0x20
unfolding reading_rules
own_code = refl

read_as : codes (reader_of Decoding sample_page) (bytes_of 0x20) ≡ record { first = 0x20; more = []; means = Ok 0x0020 } ∷ []
unfolding reading_rules
read_as = refl

pub unit_lost : UnitsReturn sample_page (0xA0 ∷ []) → ⊥
unit_lost ((code, r), rest) =
    let same : code ≡ 0x20 = cc (own_code, r.own) in
    let one : record { first = 0x20; more = []; means = Ok 0x0020 } ∷ [] ≡ r.read ∷ [] = sym read_as ∙ ap (λ (c : ℕ). codes (reader_of Decoding sample_page) (bytes_of c)) (sym same) ∙ r.one_code in
    let means : Ok 0x0020 ≡ Ok 0xA0 = cc (one, r.character) in
    let z : ◌≡◌ {A = ℕ} 0x20 0xA0 = ap (λ (l : Lookup). result_unwrap_or l 0) means in
    omega arith
