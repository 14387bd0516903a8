-- The claims of CR 8 about spellings: equal exactly for equal units, spelled by themselves, and decoded to the same units.
use mathlib.Core.List.{List, [], ◌∷◌, ◌++◌}
use mathlib.Core.Logic.{◌↔◌}
use mathlib.Core.Option.{Option}
use mathlib.Core.Path.{◌≡◌, refl, sym, ap, ◌∙◌, subst}
use Prim.Native.Nat.{ℕ, ◌+◌}
use Rattle.codepage.specs.CodePage.{CodePage}
use Rattle.codepage.specs.Reading.{Code, size_of, codes_at_end, call_codes, codes}
use Rattle.codepage.specs.Reading.{Lookup}
use Rattle.std.specs.Prelude.{Ok}
use Rattle.convert.proofs.RoundTripLaws.{code_first}
use Rattle.codepage_walk.specs.Walk.{placed_from, placed}
use Rattle.codepage_walk.specs.Checks.{bytes_reader}
use Rattle.spelling.specs.Spelling.{bytes_if, spelling_bytes}
use Rattle.spelling.specs.Calls.{spelling_text}
use Rattle.spelling.specs.Claims.{Spellable, AllSpellable, NoFault, character_of, characters_of, units_meant}
use Rattle.spelling.proofs.FaultLaws.{speller, spelled_able}

-- ---- what codes mean, one after the other: it decides what they are spelled by, their characters, and whether one is at fault
abbrev pub means_of : List Code → List Lookup
means_of [] = []
means_of (k ∷ ks) = k.means ∷ means_of ks

bytes_by : (Lookup → Option ℕ) → List Lookup → List ℕ
bytes_by spell [] = []
bytes_by spell (m ∷ ms) = bytes_if (spell m) ++ bytes_by spell ms

bytes_by_lem : (spell : Lookup → Option ℕ) (ks : List Code) → spelling_bytes spell ks ≡ bytes_by spell (means_of ks)
unfolding spelling_bytes bytes_by
bytes_by_lem spell [] = refl
bytes_by_lem spell (k ∷ ks) = ap (λ (l : List ℕ). bytes_if (spell k.means) ++ l) (bytes_by_lem spell ks)

units_by : List Lookup → List ℕ
units_by [] = []
units_by (m ∷ ms) = character_of m ++ units_by ms

units_by_lem : (ks : List Code) → characters_of ks ≡ units_by (means_of ks)
unfolding units_by
units_by_lem [] = refl
units_by_lem (k ∷ ks) = ap (λ (l : List ℕ). character_of k.means ++ l) (units_by_lem ks)

module _ (p : CodePage) where
  AllMean : List Lookup → Type 0
  AllMean [] = Unit {0}
  AllMean (m ∷ ms) = Spellable p m × AllMean ms

  all_mean : (place : ℕ) (ks : List Code) → AllSpellable p (placed_from place ks) → AllMean (means_of ks)
  unfolding placed_from AllMean
  all_mean place [] h = tt
  all_mean place (k ∷ ks) (s, h) = (s, all_mean (place + size_of k) ks h)

  mean_all : (place : ℕ) (ks : List Code) → AllMean (means_of ks) → AllSpellable p (placed_from place ks)
  unfolding placed_from AllMean
  mean_all place [] h = tt
  mean_all place (k ∷ ks) (s, h) = (s, mean_all (place + size_of k) ks h)

  -- codes that are not at fault mean their characters
  founds : List ℕ → List Lookup
  founds [] = []
  founds (unit ∷ units) = Ok unit ∷ founds units

  all_found : (ms : List Lookup) → AllMean ms → ms ≡ founds (units_by ms)
  unfolding AllMean founds units_by
  all_found [] h = refl
  all_found (m ∷ ms) (s, h) =
      subst (λ (n : Lookup). n ∷ ms ≡ founds (character_of n ++ units_by ms)) (sym s.character) (ap (λ (l : List Lookup). Ok s.unit ∷ l) (all_found ms h))

  -- A SPELLING READ: its codes mean what the text's codes mean.
  spelling_read : (place : ℕ) (ks : List Code) → AllSpellable p (placed_from place ks) → means_of (codes (bytes_reader p) (spelling_bytes (speller p) ks)) ≡ means_of ks
  unfolding placed_from spelling_bytes
  spelling_read place [] h = unfold codes call_codes codes_at_end in refl
  spelling_read place (k ∷ ks) (s, h) =
      let rest = spelling_bytes (speller p) ks in
      let t = s.belong in
      ap (λ (o : Option ℕ). means_of (codes (bytes_reader p) (bytes_if o ++ rest))) (spelled_able p k.means s)
      ∙ ap means_of (code_first p.classes p.singles p.pairs s.code t.read s.unit rest t.one_code t.character)
      ∙ ap (λ (m : Lookup). m ∷ means_of (codes (bytes_reader p) rest)) (t.character ∙ sym s.character)
      ∙ ap (λ (ms : List Lookup). k.means ∷ ms) (spelling_read (place + size_of k) ks h)

  module _ (text : List ℕ) (h : NoFault p text) where
    text_means : AllMean (means_of (codes (bytes_reader p) text))
    unfolding placed
    text_means = all_mean 0 (codes (bytes_reader p) text) h

    -- the codes of a spelling mean what the text's codes mean
    pub means_kept : means_of (codes (bytes_reader p) (spelling_text p text)) ≡ means_of (codes (bytes_reader p) text)
    unfolding placed
    means_kept = spelling_read 0 (codes (bytes_reader p) text) h

    -- THE SPELLING MEANS THE TEXT'S UNITS.
    pub units_kept : units_meant p (spelling_text p text) ≡ units_meant p text
    units_kept = units_by_lem (codes (bytes_reader p) (spelling_text p text)) ∙ ap units_by means_kept ∙ sym (units_by_lem (codes (bytes_reader p) text))

    -- No code of a spelling is at fault.
    pub spelling_clear : NoFault p (spelling_text p text)
    unfolding placed
    spelling_clear = mean_all 0 (codes (bytes_reader p) (spelling_text p text)) (subst AllMean (sym means_kept) text_means)

    -- A SPELLING'S SPELLING IS ITSELF.
    pub spelling_again : spelling_text p (spelling_text p text) ≡ spelling_text p text
    spelling_again =
        bytes_by_lem (speller p) (codes (bytes_reader p) (spelling_text p text)) ∙ ap (bytes_by (speller p)) means_kept
        ∙ sym (bytes_by_lem (speller p) (codes (bytes_reader p) text))

    units_mean : means_of (codes (bytes_reader p) text) ≡ founds (units_meant p text)
    units_mean = all_found (means_of (codes (bytes_reader p) text)) text_means ∙ ap founds (sym (units_by_lem (codes (bytes_reader p) text)))

  -- TWO TEXTS WITHOUT A FAULT MEAN THE SAME UNITS exactly if their spellings are equal bytes.
  pub same_units : (a b : List ℕ) → NoFault p a → NoFault p b → (units_meant p a ≡ units_meant p b) ↔ (spelling_text p a ≡ spelling_text p b)
  same_units a b g h = (
    λ e. bytes_by_lem (speller p) (codes (bytes_reader p) a) ∙ ap (bytes_by (speller p)) (units_mean a g ∙ ap founds e ∙ sym (units_mean b h)) ∙ sym (bytes_by_lem (speller p) (codes (bytes_reader p) b)),
    λ e. sym (units_kept a g) ∙ ap (units_meant p) e ∙ units_kept b h,
  )
