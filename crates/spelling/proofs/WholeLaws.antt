-- The spelling by the converter's own readings: the text decoded, then encoded.
use mathlib.Core.List.{List, [], ◌∷◌, ◌++◌}
use mathlib.Core.Option.{Option, none}
use mathlib.Core.Path.{◌≡◌, refl, sym, ap, ◌∙◌, subst}
use Prim.Native.Nat.{ℕ, ◌+◌}
use Rattle.codepage.specs.CodePage.{CodePage}
use Rattle.codepage.specs.Reading.{bytes_of, decoder, Code, size_of, codes}
use Rattle.codepage.specs.Reading.{Lookup}
use Rattle.engine.specs.declared.Direction.TheVariants.{Decoding, Encoding}
use Rattle.engine.specs.declared.Policy.{Policy}
use Rattle.engine.specs.Engine.{converter, endless, take_codes, whole, reader_of}
use Rattle.convert.specs.RoundTrips.{UnitsReturn}
use Rattle.convert.proofs.RoundTripLaws.{Clear, clear_end, clear_more, bytes_by, encoded_clear}
use Rattle.codepage_walk.specs.Walk.{placed_from, placed}
use Rattle.codepage_walk.specs.Checks.{bytes_reader}
use Rattle.spelling.specs.Spelling.{bytes_if, spelling_bytes}
use Rattle.spelling.specs.Calls.{spelling_text}
use Rattle.spelling.specs.Claims.{AllSpellable, NoFault, character_of, characters_of, units_meant, DecodedEncoded}
use Rattle.spelling.proofs.FaultLaws.{speller, spelled_able}
use Rattle.spelling.proofs.Theorems.{units_kept, spelling_clear}

module _ (p : CodePage) where
  -- codes that are not at fault, taken by the decoder
  codes_clear : (policy : Policy) (default place : ℕ) (ks : List Code) → AllSpellable p (placed_from place ks)
      → Clear (take_codes (converter (reader_of Decoding p) policy default) endless ks none) (characters_of ks)
  unfolding placed_from decoder
  codes_clear policy default place [] h = clear_end (reader_of Decoding p) policy default
  codes_clear policy default place (k ∷ ks) (s, h) =
      let more = clear_more (reader_of Decoding p) policy default s.unit k ks (characters_of ks) s.character (codes_clear policy default (place + size_of k) ks h) in
      subst (λ (units : List ℕ). Clear (take_codes (converter (reader_of Decoding p) policy default) endless (k ∷ ks) none) (units ++ characters_of ks)) (sym (ap character_of s.character)) more

  -- a text without a fault, decoded
  decoded_clear : (policy : Policy) (default : ℕ) (text : List ℕ) → NoFault p text → Clear (whole (reader_of Decoding p) policy default text) (units_meant p text)
  unfolding whole placed
  decoded_clear policy default text h = codes_clear policy default 0 (codes (bytes_reader p) text) h

  -- the characters of such codes belong with their codes, and are encoded by the spelling's bytes
  record Returning (ks : List Code) : Type 0 where
    units : List ℕ
    same : units ≡ characters_of ks
    return : UnitsReturn p units
    bytes : bytes_by p units return ≡ spelling_bytes (speller p) ks

  returning : (place : ℕ) (ks : List Code) → AllSpellable p (placed_from place ks) → Returning ks
  unfolding placed_from spelling_bytes
  returning place [] h = record { units = []; same = refl; return = tt; bytes = refl }
  returning place (k ∷ ks) (s, h) =
      let later = returning (place + size_of k) ks h in
      record {
        units = s.unit ∷ later.units;
        same = ap (λ (l : List ℕ). s.unit ∷ l) later.same ∙ ap (λ (m : Lookup). character_of m ++ characters_of ks) (sym s.character);
        return = ((s.code, s.belong), later.return);
        bytes = ap (λ (l : List ℕ). bytes_of s.code ++ l) later.bytes ∙ ap (λ (o : Option ℕ). bytes_if o ++ spelling_bytes (speller p) ks) (sym (spelled_able p k.means s));
      }

  -- the units of a text without a fault, encoded
  units_clear : (policy : Policy) (default : ℕ) (text : List ℕ) → NoFault p text → Clear (whole (reader_of Encoding p) policy default (units_meant p text)) (spelling_text p text)
  unfolding placed
  units_clear policy default text h =
      let t = returning 0 (codes (bytes_reader p) text) h in
      subst (λ (bytes : List ℕ). Clear (whole (reader_of Encoding p) policy default (units_meant p text)) bytes) t.bytes
      (subst (λ (units : List ℕ). Clear (whole (reader_of Encoding p) policy default units) (bytes_by p t.units t.return)) t.same (encoded_clear p policy default t.units t.return))

  -- THE SPELLING IS THE TEXT DECODED, THEN ENCODED, and it decodes to the text's units: any policies, any defaults, no flag.
  pub decoded_encoded : (text : List ℕ) → NoFault p text → (decoding encoding : Policy) (default_unit default_byte : ℕ) → DecodedEncoded p text decoding encoding default_unit default_byte
  decoded_encoded text h decoding encoding default_unit default_byte =
      let d = decoded_clear decoding default_unit text h in
      let e = units_clear encoding default_byte text h in
      let a = decoded_clear decoding default_unit (spelling_text p text) (spelling_clear p text h) in
      record {
        decoded = d.written;
        decoded_flags = d.flags;
        encoded = e.written;
        encoded_flags = e.flags;
        again = a.written ∙ units_kept p text h;
        again_flags = a.flags;
      }
