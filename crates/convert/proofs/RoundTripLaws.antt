-- A text that maps both ways comes back.
use mathlib.Core.Bool.{Bool, true, false, ◌||◌, false≢true}
use mathlib.Core.List.{List, [], ◌∷◌, ◌++◌, append-nil}
use mathlib.Core.Option.{Option, none}
use mathlib.Core.Path.{◌≡◌, refl, sym, ap, ◌∙◌, subst}
use Prim.Native.Nat.{ℕ, ◌/◌, ◌%◌}
use native.Mathlib.Omega.{arith}
use lib.Dec.{leb, eqb}
use lib.Bits.{or_zero_l}
use borrow.Author.Tests.{eqb-true}
use Rattle.codepage.specs.CodePage.{CodePage, pick, entry_at, is_single, is_lead}
use Rattle.codepage.specs.Reading.{byte_alone, is_surrogate, bytes_of, Reader, decoder, encoder, Code, units_of, size_of, alone, together, codes_at_end, call_codes, codes, as_units}
use Rattle.codepage.proofs.ReadingLaws.{codes_wait, codes_one, codes_two, codes_alone, none_waits, joined, covers, found_no_wait, found_no_surrogate}
use Rattle.codepage.specs.declared.Kind.TheVariants.{Invalid}
use Rattle.std.specs.Prelude.{Ok, Err}
use Rattle.engine.specs.declared.Direction.TheVariants.{Decoding, Encoding}
use Rattle.engine.specs.declared.Policy.{Policy}
use Rattle.engine.specs.Engine.{effect_of, converter, endless, fits, room_left, Fed, halt, after, take_when, take_code, take_codes, whole}
use Rattle.engine.specs.Engine.{reader_of}
use Rattle.convert.specs.RoundTrips.{UnitsReturn, CodesReturn, BytesReturn}

-- ---- a code that has a character is read the same before any other bytes
-- a lead alone has no character
lead_lacks : (classes singles : List ℕ) (byte : ℕ) → is_lead (entry_at classes byte) ≡ true → byte_alone classes singles byte ≡ Err Invalid
unfolding byte_alone is_single is_lead
lead_lacks classes singles byte e = by_class (eqb (entry_at classes byte) 2) refl
  where
    alone_of : (c : ℕ) → entry_at classes byte ≡ c → (eqb c 1 || eqb c 5) ≡ false → byte_alone classes singles byte ≡ Err Invalid
    alone_of c q f = rw (q, f)

    by_class : (t : Bool) → eqb (entry_at classes byte) 2 ≡ t → byte_alone classes singles byte ≡ Err Invalid
    by_class true q = alone_of 2 (eqb-true _ _ q) refl
    by_class false q = alone_of 6 (eqb-true _ _ (sym (rw q) ∙ e)) refl

lacks_not_found : (unit : ℕ) → Err Invalid ≡ Ok unit → ⊥
lacks_not_found unit e = let z : ◌≡◌ {A = ℕ} 0 1 = cc in omega arith

cons_path : (k m : Code) (ks ms : List Code) → k ∷ ks ≡ m ∷ ms → (k ≡ m) × (ks ≡ ms)
cons_path k m ks ms e = (cc, cc)

not_nil : (k : Code) (ks : List Code) → k ∷ ks ≡ [] → ⊥
not_nil k ks e = let z : ◌≡◌ {A = ℕ} 0 1 = cc in omega arith

codes_some : (r : Reader) (b : ℕ) (t : Bool) → r.waits b ≡ t → call_codes r true none (b ∷ []) ≡ [] → ⊥
unfolding call_codes codes_at_end
codes_some r b true e q = not_nil _ _ (sym (codes_wait r true b [] e) ∙ q)
codes_some r b false e q = not_nil _ _ (sym (codes_one r true b [] e) ∙ q)

module _ (classes singles pairs : List ℕ) where
  abbrev r : Reader
  r = decoder classes singles pairs

  one_byte : (b : ℕ) (k : Code) (unit : ℕ) (rest : List ℕ) → call_codes r true none (b ∷ []) ≡ k ∷ [] → k.means ≡ Ok unit → (t : Bool) → is_lead (entry_at classes b) ≡ t
      → call_codes r true none (b ∷ rest) ≡ k ∷ call_codes r true none rest
  unfolding decoder call_codes codes_at_end
  one_byte b k unit rest e c true w =
      let q : alone r b ≡ k = (cons_path (alone r b) k [] [] (sym (codes_wait r true b [] w) ∙ e)).0 in
      absurd (lacks_not_found unit (sym (lead_lacks classes singles b w) ∙ ap (λ (x : Code). x.means) q ∙ c))
  one_byte b k unit rest e c false w =
      let q : alone r b ≡ k = (cons_path (alone r b) k [] [] (sym (codes_one r true b [] w) ∙ e)).0 in
      codes_one r true b rest w ∙ ap (λ (x : Code). x ∷ call_codes r true none rest) q

  two_bytes : (a b : ℕ) (k : Code) (rest : List ℕ) → call_codes r true none (a ∷ b ∷ []) ≡ k ∷ [] → (t : Bool) → is_lead (entry_at classes a) ≡ t → call_codes r true none (a ∷ b ∷ rest) ≡ k ∷ call_codes r true none rest
  unfolding decoder call_codes codes_at_end
  two_bytes a b k rest e true w = by_next (r.joins a b) refl
    where
      by_next : (t : Bool) → r.joins a b ≡ t → call_codes r true none (a ∷ b ∷ rest) ≡ k ∷ call_codes r true none rest
      by_next true j =
          let q : together r a b ≡ k = (cons_path (together r a b) k [] [] (sym (codes_wait r true a (b ∷ []) w ∙ codes_two r true a b [] j) ∙ e)).0 in
          codes_wait r true a (b ∷ rest) w ∙ codes_two r true a b rest j ∙ ap (λ (x : Code). x ∷ call_codes r true none rest) q
      by_next false j =
          absurd
          (codes_some r b (is_lead (entry_at classes b)) refl
          (cons_path (alone r a) k (call_codes r true none (b ∷ [])) [] (sym (codes_wait r true a (b ∷ []) w ∙ codes_alone r true a b [] j) ∙ e)).1)
  two_bytes a b k rest e false w =
      absurd (codes_some r b (is_lead (entry_at classes b)) refl (cons_path (alone r a) k (call_codes r true none (b ∷ [])) [] (sym (codes_one r true a (b ∷ []) w) ∙ e)).1)

  -- a code that reads back as one code by itself is the first code of a text that it begins
  pub code_first : (code : ℕ) (k : Code) (unit : ℕ) (rest : List ℕ) → codes r (bytes_of code) ≡ k ∷ [] → k.means ≡ Ok unit → codes r (bytes_of code ++ rest) ≡ k ∷ codes r rest
  unfolding codes bytes_of
  code_first code k unit rest = by_size (leb code 0xFF)
    where
      by_size : (t : Bool) → call_codes r true none (pick t (code ∷ []) (code / 256 ∷ code % 256 ∷ [])) ≡ k ∷ [] → k.means ≡ Ok unit
          → call_codes r true none (pick t (code ∷ []) (code / 256 ∷ code % 256 ∷ []) ++ rest) ≡ k ∷ call_codes r true none rest
      by_size true e c = one_byte code k unit rest e c (is_lead (entry_at classes code)) refl
      by_size false e c = two_bytes (code / 256) (code % 256) k rest e (is_lead (entry_at classes (code / 256))) refl

-- ---- a code with a character is written, with no flag
found_taken : (r : Reader) (policy : Policy) (default value : ℕ) (k : Code) (ks : List Code) → k.means ≡ Ok value
    → take_codes (converter r policy default) endless (k ∷ ks) none ≡ after (size_of k) (r.writes value) 0 (take_codes (converter r policy default) endless ks none)
unfolding take_codes converter effect_of take_code take_when fits room_left
found_taken r policy default value k ks e = rw e

-- what a reading without a flag is
pub record Clear (f : Fed) (output : List ℕ) : Type 0 where
  pub answer : f.answer ≡ 0
  pub flags : f.flags ≡ 0
  pub written : f.output ≡ output

-- no code is left
pub clear_end : (r : Reader) (policy : Policy) (default : ℕ) → Clear (take_codes (converter r policy default) endless [] none) []
unfolding take_codes halt
clear_end r policy default = record { answer = refl; flags = refl; written = refl }

-- one code more that has a character
pub clear_more : (r : Reader) (policy : Policy) (default value : ℕ) (k : Code) (ks : List Code) (output : List ℕ) → k.means ≡ Ok value → Clear (take_codes (converter r policy default) endless ks none) output
    → Clear (take_codes (converter r policy default) endless (k ∷ ks) none) (r.writes value ++ output)
unfolding after
clear_more r policy default value k ks output e g =
    rw (found_taken r policy default value k ks e)
    (record {
      answer = g.answer;
      flags = or_zero_l (take_codes (converter r policy default) endless ks none).flags ∙ g.flags;
      written = ap (λ (l : List ℕ). r.writes value ++ l) g.written;
    })

-- ---- units
-- the bytes of units that belong with their codes
abbrev pub bytes_by : (p : CodePage) (text : List ℕ) → UnitsReturn p text → List ℕ
bytes_by p [] h = []
bytes_by p (unit ∷ text) h = bytes_of h.0.0 ++ bytes_by p text h.1

module _ (p : CodePage) (policy : Policy) (default : ℕ) where
  -- such a text is encoded by those bytes, and no flag is set
  pub encoded_clear : (text : List ℕ) (h : UnitsReturn p text) → Clear (whole (reader_of Encoding p) policy default text) (bytes_by p text h)
  unfolding whole codes encoder
  encoded_clear [] h = unfold call_codes codes_at_end in clear_end (reader_of Encoding p) policy default
  encoded_clear (unit ∷ text) h =
      let r : Reader = reader_of Encoding p in
      let first : call_codes r true none (unit ∷ text) ≡ alone r unit ∷ call_codes r true none text = codes_one r true unit text (found_no_wait p.index p.blocks unit h.0.0 h.0.1.own) in
      subst (λ (ks : List Code). Clear (take_codes (converter r policy default) endless ks none) (bytes_of h.0.0 ++ bytes_by p text h.1)) (sym first)
      (clear_more r policy default h.0.0 (alone r unit) (call_codes r true none text) (bytes_by p text h.1) h.0.1.own (encoded_clear text h.1))

  decoded_clear : (text : List ℕ) (h : UnitsReturn p text) → Clear (whole (reader_of Decoding p) policy default (bytes_by p text h)) text
  unfolding whole
  decoded_clear [] h = unfold codes call_codes codes_at_end in clear_end (reader_of Decoding p) policy default
  decoded_clear (unit ∷ text) h =
      rw (code_first p.classes p.singles p.pairs h.0.0 h.0.1.read unit (bytes_by p text h.1) h.0.1.one_code h.0.1.character)
      (clear_unit (clear_more (reader_of Decoding p) policy default unit h.0.1.read (codes (reader_of Decoding p) (bytes_by p text h.1)) text h.0.1.character (decoded_clear text h.1)))
    where
      clear_unit : {f : Fed} → Clear f ((reader_of Decoding p).writes unit ++ text) → Clear f (unit ∷ text)
      clear_unit c = unfold decoder in c

-- UNITS RETURN: a text of units that belong with their codes, of any length, encoded and decoded under any policies, comes back,
-- and no flag is set.
pub returns_units : (p : CodePage) (text : List ℕ) → UnitsReturn p text → (encoding decoding : Policy) (default₁ default₂ : ℕ)
    → ((whole (reader_of Decoding p) decoding default₂ (whole (reader_of Encoding p) encoding default₁ text).output).output ≡ text)
    × ((whole (reader_of Encoding p) encoding default₁ text).flags ≡ 0)
    × ((whole (reader_of Decoding p) decoding default₂ (whole (reader_of Encoding p) encoding default₁ text).output).flags ≡ 0)
returns_units p text h encoding decoding default₁ default₂ =
    let e = encoded_clear p encoding default₁ text h in
    let d = decoded_clear p decoding default₂ text h in
    (rw e.written d.written, e.flags, rw e.written d.flags)

-- ---- bytes
-- the units of a text's codes, one after the other, are the text
pub covered : (r : Reader) (text : List ℕ) → joined (codes r text) ≡ text
unfolding codes
covered r text = sym (append-nil _) ∙ ap (λ (w : Option ℕ). joined (call_codes r true none text) ++ as_units w) (sym (none_waits r none text)) ∙ covers r true none text

-- the characters of codes that belong with them
abbrev units_by : (p : CodePage) (ks : List Code) → CodesReturn p ks → List ℕ
units_by p [] h = []
units_by p (k ∷ ks) h = h.0.unit ∷ units_by p ks h.1

units_return : (p : CodePage) (ks : List Code) (h : CodesReturn p ks) → UnitsReturn p (units_by p ks h)
units_return p [] h = tt
units_return p (k ∷ ks) h = ((h.0.code, h.0.belong), units_return p ks h.1)

bytes_are : (p : CodePage) (ks : List Code) (h : CodesReturn p ks) → bytes_by p (units_by p ks h) (units_return p ks h) ≡ joined ks
unfolding units_return
bytes_are p [] h = refl
bytes_are p (k ∷ ks) h = ap (λ (l : List ℕ). l ++ bytes_by p (units_by p ks h.1) (units_return p ks h.1)) (sym h.0.bytes) ∙ ap (λ (l : List ℕ). units_of k ++ l) (bytes_are p ks h.1)

characters_clear : (p : CodePage) (policy : Policy) (default : ℕ) (ks : List Code) (h : CodesReturn p ks) → Clear (take_codes (converter (reader_of Decoding p) policy default) endless ks none) (units_by p ks h)
unfolding decoder
characters_clear p policy default [] h = clear_end (reader_of Decoding p) policy default
characters_clear p policy default (k ∷ ks) h =
    clear_more (reader_of Decoding p) policy default h.0.unit k ks (units_by p ks h.1) h.0.character (characters_clear p policy default ks h.1)

-- BYTES RETURN: a byte text whose every code belongs with its character, of any length, decoded and encoded under any policies,
-- comes back, and no flag is set.
pub returns_bytes : (p : CodePage) (text : List ℕ) → BytesReturn p text → (decoding encoding : Policy) (default₁ default₂ : ℕ)
    → ((whole (reader_of Encoding p) encoding default₂ (whole (reader_of Decoding p) decoding default₁ text).output).output ≡ text)
    × ((whole (reader_of Decoding p) decoding default₁ text).flags ≡ 0)
    × ((whole (reader_of Encoding p) encoding default₂ (whole (reader_of Decoding p) decoding default₁ text).output).flags ≡ 0)
returns_bytes p text h decoding encoding default₁ default₂ =
    let d : Clear (whole (reader_of Decoding p) decoding default₁ text) (units_by p (codes (reader_of Decoding p) text) h) = unfold whole in characters_clear p decoding default₁ (codes (reader_of Decoding p) text) h in
    let e = encoded_clear p encoding default₂ (units_by p (codes (reader_of Decoding p) text) h) (units_return p (codes (reader_of Decoding p) text) h) in
    let back : bytes_by p (units_by p (codes (reader_of Decoding p) text) h) (units_return p (codes (reader_of Decoding p) text) h) ≡ text =
    bytes_are p (codes (reader_of Decoding p) text) h ∙ covered (reader_of Decoding p) text in
    (rw d.written (e.written ∙ back), d.flags, rw d.written e.flags)

-- A TEXT WITH A SURROGATE does not come back: no surrogate has a code of its own, whatever the tables say.
pub surrogate_lost : (p : CodePage) (unit : ℕ) (text : List ℕ) → is_surrogate unit ≡ true → UnitsReturn p (unit ∷ text) → ⊥
unfolding encoder
surrogate_lost p unit text e h = false≢true (sym (found_no_surrogate p.index p.blocks unit h.0.0 h.0.1.own) ∙ e)
