-- Laws of one code: when it reads back, and what spells it.
use mathlib.Core.Bool.{Bool, true, false}
use mathlib.Core.List.{List, [], ◌∷◌}
use mathlib.Core.Logic.{◌⊎◌, inl, inr}
use mathlib.Core.Option.{Option, none, some}
use mathlib.Core.Path.{◌≡◌, refl, sym, ap, ◌∙◌}
use Prim.Native.Nat.{ℕ, ◌+◌, ◌/◌, ◌%◌, ◌≤◌, ◌<◌}
use native.Mathlib.Numerals.{add-one}
use native.Mathlib.Omega.{arith}
use lib.Dec.{leb}
use lib.ListN.{length, set}
use lib.Seq.{sets}
use borrow.Author.Tests.{le-leb, lt-leb, leb-true, leb-false}
use Rattle.codepage.specs.CodePage.{pick, entry_at, is_lead}
use Rattle.codepage.specs.Reading.{byte_alone, is_surrogate, unit_code, unit_alone, bytes_of, Reader, decoder, Code, alone, together, settled, codes_at_end, call_codes, codes}
use Rattle.codepage.specs.declared.Kind.{Kind}
use Rattle.codepage.specs.Reading.{Lookup}
use Rattle.std.specs.Prelude.{Ok, Err}
use Rattle.codepage.proofs.ReadingLaws.{alone_looked_up, found_no_surrogate}
use Rattle.codepage_lookup.specs.declared.SettledCode.{SettledCode}
use Rattle.codepage_lookup.specs.Profile.{SettledAs}
use Rattle.codepage_walk.specs.declared.CodeRead.{CodeRead}
use Rattle.codepage_walk.specs.Walk.{ReadAs}
use Rattle.codepage_walk.proofs.WalkLaws.{at_one, at_last, at_two, at_alone}
use Rattle.spelling.specs.Spelling.{is_character, is_one_code, reads_back, code_reading_back, unit_spelling, code_spelling}
use Rattle.std.specs.Prelude.{Option as RustOption, Some, None}
use Rattle.spelling.specs.Steps.{option_of, SpelledRead}

-- ---- how many bytes a code has

-- a code of at most FF is one byte
pub one_byte : (code : ℕ) → code ≤ 0xFF → bytes_of code ≡ code ∷ []
unfolding bytes_of
one_byte code h = rw (le-leb code 0xFF h)

-- any other code is two bytes
pub two_bytes : (code : ℕ) → 0xFF < code → bytes_of code ≡ code / 256 ∷ code % 256 ∷ []
unfolding bytes_of
two_bytes code h = rw (lt-leb code 0xFF h)

-- ---- reading one byte or two alone
module _ (r : Reader) where
  none_left : codes r [] ≡ []
  unfolding codes call_codes codes_at_end
  none_left = refl

  -- a byte alone is one code
  read_one : (a : ℕ) → codes r (a ∷ []) ≡ alone r a ∷ []
  read_one a = (at_last r (a ∷ []) 0 refl).here ∙ ap (λ (l : List Code). alone r a ∷ l) none_left

  -- a lead and a byte that joins it are one code
  pub read_two : (a b : ℕ) → r.waits a ≡ true → r.joins a b ≡ true → codes r (a ∷ b ∷ []) ≡ together r a b ∷ []
  read_two a b w j = (at_two r (a ∷ b ∷ []) 0 (omega arith) w j).here ∙ ap (λ (l : List Code). together r a b ∷ l) none_left

  -- any other two bytes are two codes
  read_parted : (a b : ℕ) → r.waits a ≡ true → r.joins a b ≡ false → codes r (a ∷ b ∷ []) ≡ alone r a ∷ alone r b ∷ []
  read_parted a b w j = (at_alone r (a ∷ b ∷ []) 0 (omega arith) w j).here ∙ ap (λ (l : List Code). alone r a ∷ l) (read_one b)

  read_first : (a b : ℕ) → r.waits a ≡ false → codes r (a ∷ b ∷ []) ≡ alone r a ∷ alone r b ∷ []
  read_first a b w = (at_one r (a ∷ b ∷ []) 0 (omega arith) w).here ∙ ap (λ (l : List Code). alone r a ∷ l) (read_one b)

  settled_means : (a b : ℕ) (s : SettledCode) → SettledAs (settled r a b) s → (t : Bool) → r.joins a b ≡ t → ((s.more ≡ 0) × (t ≡ false)) ⊎ ((s.means ≡ r.two a b) × (t ≡ true) × (s.more ≡ 1))
  unfolding settled
  settled_means a b s h true e = let m = h.more in let v = h.means in inr (rw e at v, refl, rw e at m)
  settled_means a b s h false e = let m = h.more in inl (rw e at m, refl)

-- ---- reading back
module _ (classes singles pairs : List ℕ) (unit code : ℕ) where
  abbrev r : Reader
  r = decoder classes singles pairs

  -- a code of one byte
  pub back_single : code ≤ 0xFF → reads_back (decoder classes singles pairs) unit code ≡ is_character unit (byte_alone classes singles code)
  unfolding reads_back decoder
  back_single h = ap (λ (l : List ℕ). is_one_code unit (codes r l)) (one_byte code h) ∙ ap (is_one_code unit) (read_one r code)

  module _ (h : 0xFF < code) where
    as_two : (ks : List Code) → codes r (code / 256 ∷ code % 256 ∷ []) ≡ ks → reads_back r unit code ≡ is_one_code unit ks
    unfolding reads_back
    as_two ks e = ap (λ (l : List ℕ). is_one_code unit (codes r l)) (two_bytes code h) ∙ ap (is_one_code unit) e

    -- one of two bytes whose first is no lead
    pub back_no_lead : is_lead (entry_at classes (code / 256)) ≡ false → reads_back (decoder classes singles pairs) unit code ≡ false
    unfolding decoder
    back_no_lead e = as_two _ (read_first r (code / 256) (code % 256) e)

    module _ (e : is_lead (entry_at classes (code / 256)) ≡ true) (s : SettledCode) (g : SettledAs (settled (decoder classes singles pairs) (code / 256) (code % 256)) s) where
      settled_cases : ((s.more ≡ 0) × (r.joins (code / 256) (code % 256) ≡ false)) ⊎ ((s.means ≡ r.two (code / 256) (code % 256)) × (r.joins (code / 256) (code % 256) ≡ true) × (s.more ≡ 1))
      settled_cases = settled_means r (code / 256) (code % 256) s g (r.joins (code / 256) (code % 256)) refl

      -- one whose lead does not take the second byte
      pub back_parted : s.more ≡ 0 → reads_back (decoder classes singles pairs) unit code ≡ false
      unfolding decoder
      back_parted z = by settled_cases
        where
          by : ((s.more ≡ 0) × (r.joins (code / 256) (code % 256) ≡ false)) ⊎ ((s.means ≡ r.two (code / 256) (code % 256)) × (r.joins (code / 256) (code % 256) ≡ true) × (s.more ≡ 1)) → reads_back r unit code ≡ false
          by (inl (m, j)) = as_two _ (read_parted r (code / 256) (code % 256) e j)
          by (inr (m, j, o)) = absurd (omega arith)

      -- one whose lead takes it
      pub back_pair : (s.more ≡ 0 → ⊥) → reads_back (decoder classes singles pairs) unit code ≡ is_character unit s.means
      unfolding decoder
      back_pair z = by settled_cases
        where
          by : ((s.more ≡ 0) × (r.joins (code / 256) (code % 256) ≡ false)) ⊎ ((s.means ≡ r.two (code / 256) (code % 256)) × (r.joins (code / 256) (code % 256) ≡ true) × (s.more ≡ 1)) → reads_back r unit code ≡ is_character unit s.means
          by (inl (m, j)) = absurd (z m)
          by (inr (m, j, o)) = as_two _ (read_two r (code / 256) (code % 256) e j) ∙ ap (is_character unit) (sym m)

-- ---- what spells a character
module _ (r : Reader) (index blocks : List ℕ) (unit : ℕ) where
  -- of a unit that is no surrogate the encoding table is asked
  pub asked : is_surrogate unit ≡ false → unit_spelling r index blocks unit ≡ code_reading_back r unit (unit_code index blocks unit)
  unfolding unit_spelling
  asked e = rw e

  -- a surrogate is spelled by none, whatever the tables say
  pub surrogate_none : is_surrogate unit ≡ true → unit_spelling r index blocks unit ≡ none
  unfolding unit_spelling
  surrogate_none e = rw e

  own_code : (code : ℕ) → unit_alone index blocks unit ≡ Ok code → unit_spelling r index blocks unit ≡ pick (reads_back r unit code) (some code) none
  own_code code e =
      let s = found_no_surrogate index blocks unit code e in
      asked s ∙ ap (code_reading_back r unit) (sym (alone_looked_up index blocks unit s) ∙ e)

  -- its own code reads back
  pub own_back : (code : ℕ) → unit_alone index blocks unit ≡ Ok code → reads_back r unit code ≡ true → unit_spelling r index blocks unit ≡ some code
  own_back code e b = own_code code e ∙ rw b

  -- it does not
  pub own_not_back : (code : ℕ) → unit_alone index blocks unit ≡ Ok code → reads_back r unit code ≡ false → unit_spelling r index blocks unit ≡ none
  own_not_back code e b = own_code code e ∙ rw b

  -- there is none
  pub own_lacking : (kind : Kind) → unit_alone index blocks unit ≡ Err kind → unit_spelling r index blocks unit ≡ none
  own_lacking kind e = by (is_surrogate unit) refl
    where
      by : (t : Bool) → is_surrogate unit ≡ t → unit_spelling r index blocks unit ≡ none
      by true s = surrogate_none s
      by false s = asked s ∙ ap (code_reading_back r unit) (sym (alone_looked_up index blocks unit s) ∙ e)

-- ---- a code or none, as the functions answer it

-- a code
pub some_of : (o : Option ℕ) (code : ℕ) → option_of o ≡ Some code → o ≡ some code
some_of none code e = absurd (let n : ◌≡◌ {A = ℕ} 0 1 = cc in omega arith)
some_of (some other) code e = let same : other ≡ code = cc in ap (λ (n : ℕ). some n) same

-- none
pub none_of : (o : Option ℕ) → option_of o ≡ None → o ≡ none
none_of none e = refl
none_of (some other) e = absurd (let n : ◌≡◌ {A = ℕ} 0 1 = cc in omega arith)

-- what is not none is a code
pub some_unless_none : (o : RustOption ℕ) → (o ≡ None → ⊥) → (code : ℕ) × (o ≡ Some code)
some_unless_none None h = absurd (h refl)
some_unless_none (Some code) h = (code, refl)

-- ---- the code at a place, as it was read
module _ (r : Reader) (index blocks text : List ℕ) (place : ℕ) (c : CodeRead) (w : ReadAs r text place c) where
  -- it has a character: what spells the character spells it
  pub spelled_found : (unit : ℕ) (code : RustOption ℕ) → c.means ≡ Ok unit → code ≡ option_of (unit_spelling r index blocks unit) → SpelledRead r index blocks text place (record { size = c.size; code = code })
  spelled_found unit code e q =
      record { code = w.code; at = w.at; size = w.size; spelling = q ∙ ap (λ (m : Lookup). option_of (code_spelling r index blocks m)) (sym e ∙ w.means) }

  -- it has none: it is at fault
  pub spelled_lacking : (kind : Kind) → c.means ≡ Err kind → SpelledRead r index blocks text place (record { size = c.size; code = None })
  spelled_lacking kind e =
      record { code = w.code; at = w.at; size = w.size; spelling = ap (λ (m : Lookup). option_of (code_spelling r index blocks m)) (sym e ∙ w.means) }

-- ---- the bytes of a code, written

-- the byte of a code, written
pub put_one : (code at : ℕ) (out : List ℕ) → code ≤ 0xFF → (at + 1 ≡ at + length (bytes_of code)) × (set out at code ≡ sets out at (bytes_of code))
put_one code at out h = rw (one_byte code h) (refl, refl)

-- the two bytes of a code, written
pub put_two : (code at : ℕ) (out : List ℕ) → 0xFF < code → (at + 2 ≡ at + length (bytes_of code)) × (set (set out at (code / 256)) (at + 1) (code % 256) ≡ sets out at (bytes_of code))
put_two code at out h = rw (two_bytes code h) (refl, ap (λ (i : ℕ). set (set out at (code / 256)) i (code % 256)) (add-one at))

-- a code has one or two bytes
pub bytes_few : (code : ℕ) → (1 ≤ length (bytes_of code)) × (length (bytes_of code) ≤ 2)
bytes_few code = by (leb code 0xFF) refl
  where
    by : (t : Bool) → leb code 0xFF ≡ t → (1 ≤ length (bytes_of code)) × (length (bytes_of code) ≤ 2)
    by true e = rw (one_byte code (leb-true _ _ e)) (omega arith, omega arith)
    by false e = rw (two_bytes code (leb-false _ _ e)) (omega arith, omega arith)
