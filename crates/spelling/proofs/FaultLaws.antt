-- A code is at fault exactly as claimed, and the first one is found.
use mathlib.Core.Bool.{Bool, true, false}
use mathlib.Core.List.{List, [], ◌∷◌, ◌++◌}
use mathlib.Core.Logic.{◌↔◌}
use mathlib.Core.Option.{Option, none, some}
use mathlib.Core.Path.{◌≡◌, refl, sym, ap, ◌∙◌}
use Prim.Native.Nat.{ℕ}
use native.Mathlib.Omega.{arith}
use borrow.Author.Tests.{eqb-true, eq-eqb}
use Rattle.codepage.specs.CodePage.{CodePage, pick}
use Rattle.codepage.specs.Reading.{is_surrogate, unit_code, bytes_of, Reader, encoder, Code, codes}
use Rattle.codepage.specs.Reading.{Lookup}
use Rattle.std.specs.Prelude.{Ok, Err}
use Rattle.codepage.proofs.ReadingLaws.{alone_looked_up}
use Rattle.convert.specs.RoundTrips.{RoundTrips}
use Rattle.codepage_walk.specs.Walk.{Placed}
use Rattle.codepage_walk.specs.Checks.{bytes_reader}
use Rattle.spelling.specs.Spelling.{is_character, is_one_code, reads_back, code_reading_back, code_spelling, fault_or, first_at_fault}
use Rattle.spelling.specs.Calls.{fault_in}
use Rattle.spelling.specs.Claims.{Spellable, AllSpellable, NoFault, FaultAt}
use Rattle.spelling.proofs.SpellLaws.{asked, surrogate_none, own_back}

-- ---- reading back, and belonging together
character_of_lem : (unit : ℕ) (means : Lookup) → is_character unit means ≡ true → means ≡ Ok unit
character_of_lem unit (Ok found) e = ap (λ (n : ℕ). Ok n) (eqb-true found unit e)
character_of_lem unit (Err kind) e = absurd (let z : ◌≡◌ {A = Bool} false true = e in let n : ◌≡◌ {A = ℕ} 0 1 = cc in omega arith)

one_code_of : (unit : ℕ) (ks : List Code) → is_one_code unit ks ≡ true → (k : Code) × (ks ≡ k ∷ []) × (k.means ≡ Ok unit)
one_code_of unit [] e = absurd (let z : ◌≡◌ {A = Bool} false true = e in let n : ◌≡◌ {A = ℕ} 0 1 = cc in omega arith)
one_code_of unit (k ∷ []) e = (k, refl, character_of_lem unit k.means e)
one_code_of unit (k ∷ l ∷ ks) e = absurd (let z : ◌≡◌ {A = Bool} false true = e in let n : ◌≡◌ {A = ℕ} 0 1 = cc in omega arith)

module _ (p : CodePage) where
  -- what spells a code on the page
  abbrev pub speller : Lookup → Option ℕ
  speller = code_spelling (bytes_reader p) p.index p.blocks

  -- a code that is spelled is not at fault
  pub record SpelledBy (means : Lookup) (code : ℕ) : Type 0 where
    pub able : Spellable p means
    pub same : able.code ≡ code

  belongs : (unit code : ℕ) → is_surrogate unit ≡ false → unit_code p.index p.blocks unit ≡ Ok code → reads_back (bytes_reader p) unit code ≡ true → RoundTrips p unit code
  unfolding reads_back encoder
  belongs unit code s own back =
      let (k, one, character) = one_code_of unit (codes (bytes_reader p) (bytes_of code)) back in
      record { own = alone_looked_up p.index p.blocks unit s ∙ own; read = k; one_code = one; character = character }

  -- what a code has that is spelled: a character that is no surrogate, and whose own code reads back as it
  pub spelled_by : (means : Lookup) (code : ℕ) → speller means ≡ some code → SpelledBy means code
  spelled_by (Err kind) code e = absurd (let n : ◌≡◌ {A = ℕ} 0 1 = cc in omega arith)
  spelled_by (Ok unit) code e = by (is_surrogate unit) refl
    where
      r : Reader
      r = bytes_reader p

      by_back : is_surrogate unit ≡ false → (own : ℕ) → unit_code p.index p.blocks unit ≡ Ok own → (t : Bool) → reads_back (bytes_reader p) unit own ≡ t → pick t (some own) none ≡ some code → SpelledBy (Ok unit) code
      by_back s own l true b z =
          let same : own ≡ code = cc in
          record { able = record { unit = unit; code = own; character = refl; no_surrogate = s; belong = belongs unit own s l b }; same = same }
      by_back s own l false b z = absurd (let n : ◌≡◌ {A = ℕ} 0 1 = cc in omega arith)

      by_own : is_surrogate unit ≡ false → (own : Lookup) → unit_code p.index p.blocks unit ≡ own → code_reading_back (bytes_reader p) unit own ≡ some code → SpelledBy (Ok unit) code
      by_own s (Ok own) l q = by_back s own l (reads_back (bytes_reader p) unit own) refl q
      by_own s (Err kind) l q = absurd (let n : ◌≡◌ {A = ℕ} 0 1 = cc in omega arith)

      by : (t : Bool) → is_surrogate unit ≡ t → SpelledBy (Ok unit) code
      by true s =
          let wrong : none ≡ some code = sym (surrogate_none (bytes_reader p) p.index p.blocks unit s) ∙ e in
          absurd (let n : ◌≡◌ {A = ℕ} 0 1 = cc in omega arith)
      by false s = by_own s (unit_code p.index p.blocks unit) refl (sym (asked (bytes_reader p) p.index p.blocks unit s) ∙ e)

  back_of : (unit code : ℕ) → RoundTrips p unit code → reads_back (bytes_reader p) unit code ≡ true
  unfolding reads_back
  back_of unit code t = ap (is_one_code unit) t.one_code ∙ ap (is_character unit) t.character ∙ eq-eqb unit unit refl

  -- a code that is not at fault is spelled by its character's own code
  pub spelled_able : (means : Lookup) (s : Spellable p means) → speller means ≡ some s.code
  unfolding encoder
  spelled_able means s = ap speller s.character ∙ own_back (bytes_reader p) p.index p.blocks s.unit s.code s.belong.own (back_of s.unit s.code s.belong)

  -- ---- the first code at fault
  clear_all : (cs : List Placed) → first_at_fault speller cs ≡ none → AllSpellable p cs
  unfolding first_at_fault
  clear_all [] e = tt
  clear_all (c ∷ cs) e = by (speller c.code.means) refl (clear_all cs)
    where
      by : (o : Option ℕ) → speller c.code.means ≡ o → (first_at_fault speller cs ≡ none → AllSpellable p cs) → Spellable p c.code.means × AllSpellable p cs
      by none q later =
          let wrong : some c.place ≡ none = sym (ap (λ (o : Option ℕ). fault_or o c.place (first_at_fault speller cs)) q) ∙ e in
          absurd (let n : ◌≡◌ {A = ℕ} 0 1 = cc in omega arith)
      by (some code) q later =
          ((spelled_by c.code.means code q).able, later (sym (ap (λ (o : Option ℕ). fault_or o c.place (first_at_fault speller cs)) q) ∙ e))

  all_clear : (cs : List Placed) → AllSpellable p cs → first_at_fault speller cs ≡ none
  unfolding first_at_fault
  all_clear [] h = refl
  all_clear (c ∷ cs) (s, h) = ap (λ (o : Option ℕ). fault_or o c.place (first_at_fault speller cs)) (spelled_able c.code.means s) ∙ all_clear cs h

  -- codes of which the first at fault stands at a place
  record Found_at (cs : List Placed) (place : ℕ) : Type 0 where
    before : List Placed
    code : Code
    after : List Placed
    parts : cs ≡ before ++ (record { place = place; code = code } ∷ after)
    none_before : AllSpellable p before
    fault : Spellable p code.means → ⊥

  fault_of : (cs : List Placed) (place : ℕ) → first_at_fault speller cs ≡ some place → Found_at cs place
  unfolding first_at_fault
  fault_of [] place e = absurd (let n : ◌≡◌ {A = ℕ} 0 1 = cc in omega arith)
  fault_of (c ∷ cs) place e = by (speller c.code.means) refl (fault_of cs place)
    where
      by : (o : Option ℕ) → speller c.code.means ≡ o → (first_at_fault speller cs ≡ some place → Found_at cs place) → Found_at (c ∷ cs) place
      by none q later =
          let both : some c.place ≡ some place = sym (ap (λ (o : Option ℕ). fault_or o c.place (first_at_fault speller cs)) q) ∙ e in
          let same : c.place ≡ place = cc in
          record {
            before = [];
            code = c.code;
            after = cs;
            parts = ap (λ (n : ℕ). record { place = n; code = c.code } ∷ cs) same;
            none_before = tt;
            fault = λ s. let wrong : none ≡ some s.code = sym q ∙ spelled_able c.code.means s in let n : ◌≡◌ {A = ℕ} 0 1 = cc in omega arith;
          }
      by (some code) q later =
          let f = later (sym (ap (λ (o : Option ℕ). fault_or o c.place (first_at_fault speller cs)) q) ∙ e) in
          record {
            before = c ∷ f.before;
            code = f.code;
            after = f.after;
            parts = ap (λ (l : List Placed). c ∷ l) f.parts;
            none_before = ((spelled_by c.code.means code q).able, f.none_before);
            fault = f.fault;
          }

  none_here : (means : Lookup) → (Spellable p means → ⊥) → (o : Option ℕ) → speller means ≡ o → speller means ≡ none
  none_here means h none q = q
  none_here means h (some code) q = absurd (h (spelled_by means code q).able)

  of_fault : (before : List Placed) (code : Code) (after : List Placed) (place : ℕ) → AllSpellable p before → (Spellable p code.means → ⊥)
      → first_at_fault speller (before ++ (record { place = place; code = code } ∷ after)) ≡ some place
  unfolding first_at_fault
  of_fault [] code after place h f = ap (λ (o : Option ℕ). fault_or o place (first_at_fault speller after)) (none_here code.means f (speller code.means) refl)
  of_fault (c ∷ before) code after place (s, h) f =
      ap (λ (o : Option ℕ). fault_or o c.place (first_at_fault speller (before ++ (record { place = place; code = code } ∷ after)))) (spelled_able c.code.means s)
      ∙ of_fault before code after place h f

  -- THE FIRST CODE AT FAULT is found, and only it.
  pub fault_exact : (text : List ℕ) (place : ℕ) → (fault_in p text ≡ some place) ↔ FaultAt p text place
  fault_exact text place = (
    λ e. let f = fault_of _ place e in record { before = f.before; code = f.code; after = f.after; parts = f.parts; none_before = f.none_before; fault = f.fault },
    λ f. ap (first_at_fault speller) f.parts ∙ of_fault f.before f.code f.after place f.none_before f.fault,
  )

  -- None is found exactly if no code is at fault.
  pub clear_exact : (text : List ℕ) → (fault_in p text ≡ none) ↔ NoFault p text
  clear_exact text = (clear_all _, all_clear _)
