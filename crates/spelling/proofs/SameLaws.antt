-- Laws of codes that are spelled as they stand, and of copied bytes.
use mathlib.Core.Bool.{true, false}
use mathlib.Core.List.{List, [], ◌∷◌, ◌++◌}
use mathlib.Core.Option.{Option, some}
use mathlib.Core.Path.{◌≡◌, refl, sym, ap, ◌∙◌, subst}
use Prim.Native.Nat.{ℕ, zero, suc, ◌+◌, ◌-◌, ◌*◌, ◌/◌, ◌%◌, ◌≤◌, ◌<◌}
use native.Mathlib.Numerals.{add-one}
use native.Mathlib.Omega.{arith}
use lib.ListN.{length, take, drop, length-drop}
use lib.Seq.{drop-cons, drop-drop, take-add, length-take-le, take-length, paste, length-paste}
use borrow.Author.Tests.{eq-eqb}
use Rattle.codepage.specs.CodePage.{entry_at, is_lead}
use Rattle.codepage.specs.Reading.{byte_alone, byte_pair, unit_alone, bytes_of, Reader, decoder, alone, together, codes}
use Rattle.codepage.specs.Marks.{NoLowLead}
use Rattle.codepage.specs.Reading.{Lookup}
use Rattle.std.specs.Prelude.{Ok}
use Rattle.codepage.proofs.ReadingLaws.{pair_joins}
use Rattle.codepage_lookup.proofs.LeadLaws.{lead_high}
use Rattle.convert.specs.Runs.{piece_limit}
use Rattle.codepage_walk.proofs.WalkLaws.{at_one, at_two}
use Rattle.engine_fastpath.specs.Runs.{EachBelow}
use Rattle.spelling.specs.Spelling.{is_character, is_one_code, reads_back, code_spelling}
use Rattle.spelling.specs.Steps.{SpanSpelled, SpanSame, Begun, SameSingle, SamePair, SameSize}
use Rattle.spelling.proofs.SpellLaws.{one_byte, two_bytes, read_two, back_single, own_back}
use Rattle.spelling.proofs.LoopLaws.{passed_none, passed_join, passed_code, Counting, Writing, Writable, writing_start, writing_room, writing_more}

-- ---- what is found of two bytes
module _ (classes singles pairs index blocks : List ℕ) (first second : ℕ) where
  -- the first is spelled by itself
  pub same_single : is_lead (entry_at classes first) ≡ false → (unit : ℕ) → ((unit ≡ 0xFFFF → ⊥) → byte_alone classes singles first ≡ Ok unit)
      → (unit ≡ 0xFFFF → ⊥) × (unit_alone index blocks unit ≡ Ok first) → SameSize classes singles pairs index blocks first second 1
  same_single l unit character (coded, own) =
      record { some = omega arith; few = omega arith; one = λ e. record { single = l; unit = unit; character = character coded; own = own }; two = λ e. absurd (omega arith) }

  -- both are
  pub same_pair : is_lead (entry_at classes first) ≡ true → (unit : ℕ) → ((unit ≡ 0xFFFF → ⊥) → byte_pair classes pairs first second ≡ Ok unit)
      → (unit ≡ 0xFFFF → ⊥) × (unit_alone index blocks unit ≡ Ok (256 * first + second)) → SameSize classes singles pairs index blocks first second 2
  same_pair l unit character (coded, own) =
      record { some = omega arith; few = omega arith; one = λ e. absurd (omega arith); two = λ e. record { lead = l; unit = unit; character = character coded; own = own } }

-- ---- the code at a place is spelled as it stands
module _ (classes singles pairs index blocks text : List ℕ) (place : ℕ) where
  abbrev r : Reader
  r = decoder classes singles pairs

  abbrev spell : Lookup → Option ℕ
  spell = code_spelling (decoder classes singles pairs) index blocks

  character_back : (unit : ℕ) (means : Lookup) → means ≡ Ok unit → is_character unit means ≡ true
  character_back unit means e = ap (is_character unit) e ∙ eq-eqb unit unit refl

  single_passed : place < length text → entry_at text place ≤ 0xFF → SameSingle classes singles index blocks (entry_at text place) → SpanSpelled (decoder classes singles pairs) spell text place (place + 1) (take 1 (drop place text))
  unfolding decoder
  single_passed h b s =
      let byte = entry_at text place in
      let back = back_single classes singles pairs s.unit byte b ∙ character_back s.unit (byte_alone classes singles byte) s.character in
      let spelled : spell (alone r byte).means ≡ some byte = ap spell s.character ∙ own_back r index blocks s.unit byte s.own back in
      subst (SpanSpelled r spell text place (place + 1)) (one_byte byte b ∙ sym (ap (take 1) (drop-cons text place 0 h)))
      (passed_code r spell text place (alone r byte) (at_one r text place h s.single) byte spelled)

  pair_code : (first second : ℕ) → 0x80 ≤ first → second ≤ 0xFF → bytes_of (256 * first + second) ≡ first ∷ second ∷ []
  pair_code first second l b =
      let high : (256 * first + second) / 256 ≡ first = omega arith in
      let low : (256 * first + second) % 256 ≡ second = omega arith in
      two_bytes (256 * first + second) (omega arith) ∙ ap (λ (n : ℕ). n ∷ (256 * first + second) % 256 ∷ []) high ∙ ap (λ (n : ℕ). first ∷ n ∷ []) low

  two_there : place + 1 < length text → take 2 (drop place text) ≡ entry_at text place ∷ entry_at text (place + 1) ∷ []
  two_there h =
      let next : drop (suc place) text ≡ entry_at text (place + 1) ∷ drop (suc (place + 1)) text = ap (λ (n : ℕ). drop n text) (sym (add-one place)) ∙ drop-cons text (place + 1) 0 h in
      ap (take 2) (drop-cons text place 0 (omega arith)) ∙ ap (λ (l : List ℕ). entry_at text place ∷ take 1 l) next

  pair_passed : place + 1 < length text → NoLowLead classes → entry_at text (place + 1) ≤ 0xFF → SamePair classes pairs index blocks (entry_at text place) (entry_at text (place + 1))
      → SpanSpelled (decoder classes singles pairs) spell text place (place + 2) (take 2 (drop place text))
  unfolding decoder reads_back
  pair_passed h low b s =
      let first = entry_at text place in
      let second = entry_at text (place + 1) in
      let code = 256 * first + second in
      let joins = pair_joins classes pairs first second s.unit s.character in
      let bytes = pair_code first second (lead_high classes first low s.lead) b in
      let back : reads_back r s.unit code ≡ true =
      ap (λ (l : List ℕ). is_one_code s.unit (codes r l)) bytes ∙ ap (is_one_code s.unit) (read_two r first second s.lead joins) ∙ character_back s.unit (byte_pair classes pairs first second) s.character in
      let spelled : spell (together r first second).means ≡ some code = ap spell s.character ∙ own_back r index blocks s.unit code s.own back in
      subst (SpanSpelled r spell text place (place + 2)) (bytes ∙ sym (two_there h)) (passed_code r spell text place (together r first second) (at_two r text place h s.lead joins) code spelled)

  -- by the size that was found
  size_passed : place + 1 < length text → NoLowLead classes → entry_at text place ≤ 0xFF → entry_at text (place + 1) ≤ 0xFF → (size : ℕ)
      → SameSize classes singles pairs index blocks (entry_at text place) (entry_at text (place + 1)) size
      → SpanSpelled (decoder classes singles pairs) spell text place (place + size) (take size (drop place text))
  size_passed h low a b zero s = absurd (omega (arith, s.some))
  size_passed h low a b (suc zero) s = single_passed (omega arith) a (s.one refl)
  size_passed h low a b (suc (suc zero)) s = pair_passed h low b (s.two refl)
  size_passed h low a b (suc (suc (suc size))) s = absurd (omega (arith, s.few))

-- ---- passing over such codes
module _ (r : Reader) (index blocks text : List ℕ) where
  none_taken : (from : ℕ) → take (from - from) (drop from text) ≡ []
  none_taken from = let none : from - from ≡ 0 = omega arith in ap (λ (n : ℕ). take n (drop from text)) none

  -- from the first place on
  pub same_start : (from : ℕ) → from ≤ length text → SpanSame r index blocks text from from
  same_start from h = record { from_on = omega arith; inside = h; passed = subst (SpanSpelled r (code_spelling r index blocks) text from from) (sym (none_taken from)) (passed_none r (code_spelling r index blocks) text from) }

  more_taken : (from place size : ℕ) → from ≤ place → take (place - from) (drop from text) ++ take size (drop place text) ≡ take (place + size - from) (drop from text)
  more_taken from place size h =
      let there : from + (place - from) ≡ place = omega arith in
      let all : place - from + size ≡ place + size - from = omega arith in
      ap (λ (n : ℕ). take (place - from) (drop from text) ++ take size (drop n text)) (sym there)
      ∙ ap (λ (l : List ℕ). take (place - from) (drop from text) ++ take size l) (sym (drop-drop (place - from) from text))
      ∙ sym (take-add (place - from) size (drop from text))
      ∙ ap (λ (n : ℕ). take n (drop from text)) all

  -- one code more
  pub same_more : (from place size : ℕ) → SpanSame r index blocks text from place → place + size ≤ length text
      → SpanSpelled r (code_spelling r index blocks) text place (place + size) (take size (drop place text)) → SpanSame r index blocks text from (place + size)
  same_more from place size w h s =
      record {
        from_on = omega (arith, w.from_on);
        inside = h;
        passed =
            subst (SpanSpelled r (code_spelling r index blocks) text from (place + size)) (more_taken from place size w.from_on)
            (passed_join r (code_spelling r index blocks) text from place (place + size) _ _ w.passed s);
      }

  -- how many bytes that are
  pub same_count : (from to : ℕ) → SpanSame r index blocks text from to → to - from ≡ length (take (to - from) (drop from text))
  same_count from to w = sym (length-take-le (to - from) (drop from text) (omega (arith, length-drop from text, w.inside)))

  -- counting begins behind the first of them
  pub counting_same : (from : ℕ) → SpanSame r index blocks text 0 from → Counting r index blocks text from from
  counting_same from w = record { bytes = take (from - 0) (drop 0 text); passed = w.passed; size = sym (same_count 0 from w) ∙ none_less from }
    where
      none_less : (n : ℕ) → n - 0 ≡ n
      none_less n = omega arith

-- ---- a text below 80, on a page that keeps such text as it is both ways
module _ (classes singles pairs index blocks text : List ℕ) (below : EachBelow 0x80 text)
    (bytes : (byte : ℕ) → byte < 0x80 → (is_lead (entry_at classes byte) ≡ false) × (byte_alone classes singles byte ≡ Ok byte))
    (units : (unit : ℕ) → unit < 0x80 → unit_alone index blocks unit ≡ Ok unit) where
  plain_byte_same : (place : ℕ) → place < length text → SameSingle classes singles index blocks (entry_at text place)
  plain_byte_same place h =
      let low = below place h in
      record { single = (bytes (entry_at text place) low).0; unit = entry_at text place; character = (bytes (entry_at text place) low).1; own = units (entry_at text place) low }

  plain_front : (n : ℕ) → n ≤ length text → SpanSame (decoder classes singles pairs) index blocks text 0 n
  plain_front zero h = same_start (decoder classes singles pairs) index blocks text 0 (omega arith)
  plain_front (suc n) h =
      let one : n + 1 ≡ suc n = add-one n in
      let low = below n (omega arith) in
      subst (λ (to : ℕ). SpanSame (decoder classes singles pairs) index blocks text 0 to) one
      (same_more (decoder classes singles pairs) index blocks text 0 n 1 (plain_front n (omega arith)) (omega arith)
      (single_passed classes singles pairs index blocks text n (omega arith) (omega arith) (plain_byte_same n (omega arith))))

  -- it is its own spelling
  pub plain_passed : SpanSame (decoder classes singles pairs) index blocks text 0 (length text)
  plain_passed = plain_front (length text) (omega arith)

-- one code more that two bytes were looked at for
pub same_turn : (classes singles pairs index blocks text : List ℕ) (from place size : ℕ) → SpanSame (decoder classes singles pairs) index blocks text from place → NoLowLead classes → place + 1 < length text
    → entry_at text place ≤ 0xFF → entry_at text (place + 1) ≤ 0xFF → SameSize classes singles pairs index blocks (entry_at text place) (entry_at text (place + 1)) size
    → SpanSame (decoder classes singles pairs) index blocks text from (place + size)
same_turn classes singles pairs index blocks text from place size w low h a b s =
    same_more (decoder classes singles pairs) index blocks text from place size w (omega (arith, s.few)) (size_passed classes singles pairs index blocks text place h low a b size s)

-- ---- a stretch that is spelled as it stands, copied
module _ (r : Reader) (index blocks text before : List ℕ) (place written : ℕ) (out : List ℕ) (w : Writing r index blocks text before place written out) (able : Writable r index blocks text before) (to : ℕ)
    (s : SpanSame r index blocks text place to) where
  -- a stretch that is spelled as it stands fits the room
  pub same_room : written + (to - place) ≤ length out
  same_room = omega (arith, writing_room r index blocks text before place written out w able to (take (to - place) (drop place text)) s.passed, same_count r index blocks text place to s)

  -- it is copied
  pub writing_same : (next : ℕ) (after : List ℕ) → (next ≡ written + length (take (to - place) (drop place text))) × (after ≡ paste out written (take (to - place) (drop place text)) (length (take (to - place) (drop place text))))
      → Writing r index blocks text before to next after
  writing_same next after (e, put) =
      let bytes = take (to - place) (drop place text) in
      let room : written + length bytes ≤ length out = omega (arith, same_room, same_count r index blocks text place to s) in
      let laid : after ≡ (take written out ++ bytes) ++ drop (written + length bytes) out = put ∙ ap (λ (l : List ℕ). (take written out ++ l) ++ drop (written + length bytes) out) (take-length bytes) in
      let kept : length after ≡ length out = ap (λ (l : List ℕ). length l) put ∙ length-paste out written bytes (length bytes) room (omega arith) in
      subst (λ (n : ℕ). Writing r index blocks text before to n after) (sym e)
      (writing_more r index blocks text before place written out w to bytes after s.passed room kept laid)

-- the first stretch, copied: the spelling is begun
pub same_begun : (r : Reader) (index blocks text before : List ℕ) (from : ℕ) (s : SpanSame r index blocks text 0 from) → length text ≤ piece_limit → Writable r index blocks text before
    → (next : ℕ) (out : List ℕ) → (next ≡ 0 + length (take from text)) × (out ≡ paste before 0 (take from text) (length (take from text)))
    → Writing r index blocks text before from from out × Begun r index blocks text from out
same_begun r index blocks text before from s short able next out (e, put) =
    let start = writing_start r index blocks text before in
    let all : from ≡ from - 0 = omega arith in
    let bytes : take from text ≡ take (from - 0) (drop 0 text) = ap (λ (n : ℕ). take n text) all in
    let behind : next ≡ from = omega (arith, e, length-take-le from text s.inside) in
    let w : Writing r index blocks text before from from out =
    subst (λ (n : ℕ). Writing r index blocks text before from n out) behind
    (writing_same r index blocks text before 0 0 before start able from s next out (e ∙ ap (λ (l : List ℕ). 0 + length l) bytes, put ∙ ap (λ (l : List ℕ). paste before 0 l (length l)) bytes)) in
    (w, record { short = short; inside = s.inside; within = w.within; passed = w.passed; no_fault = able.no_fault; fits = omega (arith, able.fits, w.same) })
