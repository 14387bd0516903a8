-- 10, 11 and the limit of 25 are met too; the rows meet 24, 25 by the room, and acceptance.
use mathlib.Core.Bool.{true, false}
use mathlib.Core.List.{List, [], ◌∷◌, ◌++◌}
use mathlib.Core.Logic.{inl}
use mathlib.Core.Option.{Option, some}
use mathlib.Core.Path.{◌≡◌, refl, sym, ap, ◌∙◌, subst}
use Prim.Native.Nat.{ℕ, zero, suc, ◌+◌, ◌*◌}
use native.Mathlib.Omega.{arith}
use lib.ListN.{length, replicate, length-replicate, length-append}
use Rattle.codepage.specs.CodePage.{CodePage, GoodShape}
use Rattle.codepage.specs.Reading.{bytes_of, alone, Code, codes_at_end, call_codes, codes}
use Rattle.codepage.proofs.ReadingLaws.{codes_one}
use Rattle.codepage.proofs.ShapeLaws.{shape_exact}
use Rattle.convert.specs.Sample.{sample_page}
use Rattle.convert.proofs.SampleRows.{sample_good}
use Rattle.convert.proofs.Computing.{shape_rules, reading_rules}
use Rattle.codepage_walk.specs.Walk.{placed_from, placed}
use Rattle.codepage_walk.specs.Checks.{bytes_reader}
use Rattle.spelling.specs.declared.Refusal.TheVariants.{BadShape, TooLong, SpellingTooLong}
use Rattle.std.specs.Prelude.{Ok, Err}
use Rattle.spelling.specs.Spelling.{reads_back, unit_spelling, bytes_if, spelling_bytes}
use Rattle.spelling.specs.Calls.{spelling_text, spelling_of}
use Rattle.spelling.specs.Claims.{AllSpellable, NoFault, units_meant}
use Rattle.spelling.specs.Examples.{twice_page}
use Rattle.spelling.proofs.FaultLaws.{speller, spelled_by}
use Rattle.spelling.proofs.AnswerLaws.{spelling_refused_exact, spelling_accepted_exact, spelled_alike}
use Rattle.spelling.proofs.Rows.{spelling_rules}

-- a page 0
unfoldable pub pageless : CodePage
pageless = record { page = 0; default_byte = 0; default_unit = 0; classes = []; singles = []; pairs = []; index = []; blocks = [] }

-- so many times a byte
unfoldable pub times : (count byte : ℕ) → List ℕ
times count byte = replicate count byte

-- its size, by law: it is not computed
times_size : (count byte : ℕ) → length (times count byte) ≡ count
unfolding times
times_size count byte = length-replicate {A = ℕ} count byte

-- 10 AND 11 ARE MET.
pub refused : ((spelling_of pageless [] 0).answer ≡ Err BadShape) × ((spelling_of sample_page (times 65537 0x41) 90000).answer ≡ Err TooLong)
unfolding pageless
refused = (
  (spelling_refused_exact pageless [] 0 BadShape).1 (λ g. g.page refl),
  (spelling_refused_exact sample_page (times 65537 0x41) 90000 TooLong).1 (sample_good, omega (arith, times_size 65537 0x41)),
)

-- ---- 80 on the page where it is 3000: each is spelled by two bytes
twice_good : GoodShape twice_page
unfolding shape_rules
twice_good = (shape_exact twice_page).0 refl

-- what 80 means there
twice_waits : (bytes_reader twice_page).waits 0x80 ≡ false
unfolding reading_rules
twice_waits = refl

twice_spelled : speller twice_page ((bytes_reader twice_page).one 0x80) ≡ some 0x8140
unfolding reading_rules reads_back unit_spelling
twice_spelled = refl

two_bytes : length (bytes_of 0x8140) ≡ 2
unfolding bytes_of
two_bytes = refl

twice_codes : (count : ℕ) → codes (bytes_reader twice_page) (times (suc count) 0x80) ≡ alone (bytes_reader twice_page) 0x80 ∷ codes (bytes_reader twice_page) (times count 0x80)
unfolding codes times
twice_codes count = codes_one (bytes_reader twice_page) true 0x80 (replicate count 0x80) twice_waits

all_spelled : (count place : ℕ) → AllSpellable twice_page (placed_from place (codes (bytes_reader twice_page) (times count 0x80)))
unfolding placed_from
all_spelled zero place = unfold times codes call_codes codes_at_end in tt
all_spelled (suc count) place =
    subst (λ (ks : List Code). AllSpellable twice_page (placed_from place ks)) (sym (twice_codes count))
    ((spelled_by twice_page ((bytes_reader twice_page).one 0x80) 0x8140 twice_spelled).able, all_spelled count (place + 1))

twice_clear : (count : ℕ) → NoFault twice_page (times count 0x80)
unfolding placed
twice_clear count = all_spelled count 0

twice_size : (count : ℕ) → length (spelling_text twice_page (times count 0x80)) ≡ 2 * count
unfolding spelling_bytes
twice_size zero = unfold times codes call_codes codes_at_end in refl
twice_size (suc count) =
    let rest = spelling_text twice_page (times count 0x80) in
    let more : spelling_text twice_page (times (suc count) 0x80) ≡ bytes_of 0x8140 ++ rest =
    ap (spelling_bytes (speller twice_page)) (twice_codes count) ∙ ap (λ (o : Option ℕ). bytes_if o ++ rest) twice_spelled in
    omega (arith, ap (λ (l : List ℕ). length l) more, length-append (bytes_of 0x8140) rest, two_bytes, twice_size count)

-- THE LIMIT OF A SPELLING: 32,768 codes of one byte that are spelled by two bytes are accepted, 65,536 bytes long; 32,769 are refused with
-- 25, though the room is larger.
pub at_limit : ((spelling_of twice_page (times 32768 0x80) 90000).answer ≡ Ok 65536) × ((spelling_of twice_page (times 32769 0x80) 90000).answer ≡ Err SpellingTooLong)
at_limit = (
  (spelling_accepted_exact twice_page (times 32768 0x80) 90000 65536).1 (
    ((twice_good, omega (arith, times_size 32768 0x80)), twice_clear 32768, omega (arith, twice_size 32768), omega (arith, twice_size 32768)),
    omega (arith, twice_size 32768),
  ),
  (spelling_refused_exact twice_page (times 32769 0x80) 90000 SpellingTooLong).1
      ((twice_good, omega (arith, times_size 32769 0x80)), twice_clear 32769, inl (omega (arith, twice_size 32769))),
)

-- TWO TEXTS, ONE NAME: 80 and 81 40 mean the same unit and are spelled alike.
pub alike : (units_meant twice_page (0x80 ∷ []) ≡ units_meant twice_page (0x81 ∷ 0x40 ∷ [])) × ((spelling_of twice_page (0x80 ∷ []) 2).bytes ≡ (spelling_of twice_page (0x81 ∷ 0x40 ∷ []) 2).bytes)
unfolding spelling_rules
alike = (refl, (spelled_alike twice_page (0x80 ∷ []) (0x81 ∷ 0x40 ∷ []) 2 2 2 2 refl refl).0 refl)
