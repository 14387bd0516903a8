-- Laws of the findings from a place on: the code there, codes that have characters, the text's end.
use mathlib.Core.Bool.{Bool, true, false}
use mathlib.Core.List.{List, [], ◌∷◌}
use mathlib.Core.Logic.{◌⊎◌, inl, inr}
use mathlib.Core.Option.{Option, none}
use mathlib.Core.Path.{◌≡◌, refl, sym, ap, ◌∙◌, subst}
use Prim.Native.Nat.{ℕ, zero, suc, ◌+◌, ◌≤◌, ◌<◌}
use native.Mathlib.Numerals.{add-one}
use native.Mathlib.Omega.{arith}
use lib.Dec.{leb, ltb}
use lib.ListN.{length, take, drop}
use lib.Seq.{drop-cons}
use borrow.Author.Tests.{leb-true, leb-false}
use Rattle.codepage.specs.CodePage.{pick, entry_at, is_lead}
use Rattle.codepage.specs.Reading.{Reader, decoder, byte_alone, Code, units_of, size_of, alone, together, left_pending, codes}
use Rattle.codepage.specs.declared.Kind.{Kind}
use Rattle.codepage.specs.declared.Kind.TheVariants.{UndefinedSingle, UndefinedPair, Invalid}
use Rattle.codepage.specs.Reading.{Lookup}
use Rattle.std.specs.Prelude.{Ok, Err}
use Rattle.codepage_walk.specs.declared.CodeRead.{CodeRead}
use Rattle.codepage_walk.specs.Walk.{placed_from, placed, CodeAt, ReadAs}
use Rattle.codepage_walk.proofs.WalkLaws.{codes_end, codes_next, at_one, at_end, at_two, at_alone, placed_next}
use Rattle.engine.specs.declared.Policy.{Policy}
use Rattle.engine.specs.declared.progress.Progress.{Progress}
use Rattle.engine.specs.Policies.{digits, action_of}
use Rattle.engine.specs.Engine.{effect_of, converter, endless, fits, room_left, Fed, after, stop_at, take_when, take_code, take_codes, feed_from}
use Rattle.engine.specs.Steps.{summary}
use Rattle.codepage_lookup.specs.Profile.{PlainPage}
use Rattle.findings.specs.declared.Finding.{Finding}
use Rattle.findings.specs.declared.Looked.{Looked}
use Rattle.findings.specs.Findings.{second_of, code_finding, until_stop, finding_then, findings_in, findings_of, findings_from}
use Rattle.std.specs.Prelude.{Option as RustOption, Some, None}
use Rattle.findings.specs.Steps.{finding_at, behind, with_behind, LookedAt, Passed, FoundAt}

-- ---- the bytes of the code at a place are the text's: the first two there are a and b
pub record BytesAre (text : List ℕ) (place a b : ℕ) (k : Code) : Type 0 where
  pub first : k.first ≡ a
  pub second : second_of k.more ≡ pick (ltb 1 (size_of k)) b 0
  pub all : take (size_of k) (drop place text) ≡ units_of k

module _ (r : Reader) (text : List ℕ) (place : ℕ) (k : Code) (at : CodeAt r text place k) where
  -- there is a code only before the text's end
  pub code_inside : place < length text
  code_inside = by (leb (length text) place) refl
    where
      by : (t : Bool) → leb (length text) place ≡ t → place < length text
      by false e = leb-false _ _ e
      by true e =
          let n : ◌≡◌ {A = List Code} [] (k ∷ codes r (drop (place + size_of k) text)) = sym (codes_end r text place (leb-true _ _ e)) ∙ at.here in
          absurd (let z : ◌≡◌ {A = ℕ} 0 1 = cc in omega arith)

  same_code : (l : Code) → CodeAt r text place l → l ≡ k
  same_code l al =
      let both : l ∷ codes r (drop (place + size_of l) text) ≡ k ∷ codes r (drop (place + size_of k) text) = sym al.here ∙ at.here in
      cc

  left : drop place text ≡ entry_at text place ∷ drop (place + 1) text
  left = rw add-one (drop-cons text place 0 code_inside)

  abbrev Are : Type 0
  Are = BytesAre text place (entry_at text place) (entry_at text (place + 1)) k

  by_alone : CodeAt r text place (alone r (entry_at text place)) → Are
  by_alone al = subst (BytesAre text place (entry_at text place) (entry_at text (place + 1))) (same_code _ al) (record { first = refl; second = refl; all = ap (take 1) left })

  by_both : place + 1 < length text → CodeAt r text place (together r (entry_at text place) (entry_at text (place + 1))) → Are
  by_both h al =
      let two : drop place text ≡ entry_at text place ∷ entry_at text (place + 1) ∷ drop (suc (place + 1)) text =
      left ∙ ap (λ (l : List ℕ). entry_at text place ∷ l) (drop-cons text (place + 1) 0 h) in
      subst (BytesAre text place (entry_at text place) (entry_at text (place + 1))) (same_code _ al) (record { first = refl; second = refl; all = ap (take 2) two })

  -- the bytes of the code at a place
  pub code_bytes : Are
  code_bytes = by (r.waits (entry_at text place)) refl
    where
      by_joins : place + 1 < length text → r.waits (entry_at text place) ≡ true → (t : Bool) → r.joins (entry_at text place) (entry_at text (place + 1)) ≡ t → Are
      by_joins g w true j = by_both g (at_two r text place g w j)
      by_joins g w false j = by_alone (at_alone r text place g w j)

      by_end : r.waits (entry_at text place) ≡ true → (t : Bool) → leb (length text) (place + 1) ≡ t → Are
      by_end w true e = let last : length text ≤ place + 1 = leb-true _ _ e in let h = code_inside in by_alone (at_end r text place (omega (arith, h, last)) w)
      by_end w false e = by_joins (leb-false _ _ e) w (r.joins (entry_at text place) (entry_at text (place + 1))) refl

      by : (t : Bool) → r.waits (entry_at text place) ≡ t → Are
      by true w = by_end w (leb (length text) (place + 1)) refl
      by false w = by_alone (at_one r text place code_inside w)

-- ---- the size of the code at a place: one or two bytes that are there
one_or_two : (n : ℕ) → (n ≡ 1) ⊎ (n ≡ 2) → (1 ≤ n) × (n ≤ 2)
one_or_two n (inl e) = (omega arith, omega arith)
one_or_two n (inr e) = (omega arith, omega arith)

-- a code that is read has one or two bytes, within the text
pub read_inside : (r : Reader) (text : List ℕ) (place : ℕ) (c : CodeRead) → ReadAs r text place c → (1 ≤ c.size) × (c.size ≤ 2) × (place + c.size ≤ length text)
read_inside r text place c w =
    let n = codes_next r text place w.code (codes r (drop (place + size_of w.code) text)) w.at.here in
    let small = one_or_two (size_of w.code) n.size in
    (omega (arith, w.size, small.0), omega (arith, w.size, small.1), omega (arith, w.size, n.inside))

-- ---- the findings from a place on
module _ (r : Reader) (policy : Policy) (text : List ℕ) where
  -- all of a text's
  pub from_start : findings_of r policy text ≡ findings_from r policy text 0
  unfolding findings_of findings_from placed
  from_start = refl

  -- at the text's end there are none
  pub from_end : (place : ℕ) → length text ≤ place → findings_from r policy text place ≡ []
  unfolding findings_from placed_from findings_in
  from_end place h = ap (λ (ks : List Code). findings_in policy (placed_from place ks)) (codes_end r text place h)

  -- the code at the place, and those behind it
  pub from_code : (place : ℕ) (k : Code) → CodeAt r text place k
      → findings_from r policy text place ≡ finding_then policy (record { place = place; code = k }) k.means (findings_from r policy text (place + size_of k))
  unfolding findings_from findings_in
  from_code place k at = ap (findings_in policy) (placed_next r text place k at)

  -- a code that has a character
  pub from_found : (place : ℕ) (k : Code) (unit : ℕ) → CodeAt r text place k → k.means ≡ Ok unit → findings_from r policy text place ≡ findings_from r policy text (place + size_of k)
  from_found place k unit at e = from_code place k at ∙ ap (λ (m : Lookup). finding_then policy (record { place = place; code = k }) m (findings_from r policy text (place + size_of k))) e

  -- one that has none
  pub from_lacking : (place : ℕ) (k : Code) (kind : Kind) → CodeAt r text place k → k.means ≡ Err kind
      → findings_from r policy text place ≡ finding_at policy kind text place (size_of k) ∷ behind r policy text (finding_at policy kind text place (size_of k)) (place + size_of k)
  unfolding behind
  from_lacking place k kind at e =
      let bytes = code_bytes r text place k at in
      from_code place k at
      ∙ ap (λ (m : Lookup). finding_then policy (record { place = place; code = k }) m (findings_from r policy text (place + size_of k))) e
      ∙ ap (λ (f : Finding). until_stop f (findings_from r policy text (place + size_of k))) (alike bytes.first bytes.second)
    where
      alike : k.first ≡ entry_at text place → second_of k.more ≡ pick (ltb 1 (size_of k)) (entry_at text (place + 1)) 0 → code_finding policy kind (record { place = place; code = k }) ≡ finding_at policy kind text place (size_of k)
      alike p q = cc

  -- ---- looking at the code at a place
  module _ (place : ℕ) (c : CodeRead) (w : ReadAs r text place c) (h : place < length text) where
    -- it has a character
    pub looked_found : (unit : ℕ) → c.means ≡ Ok unit → LookedAt r policy text place (record { finding = None; end = place + c.size })
    looked_found unit e =
        record {
          ahead = omega (arith, (read_inside r text place c w).0);
          inside = (read_inside r text place c w).2;
          all = from_found place w.code unit w.at (sym w.means ∙ e) ∙ ap (λ (n : ℕ). findings_from r policy text (place + n)) (sym w.size);
        }

    -- it has none
    pub looked_lacking : (kind : Kind) (f : Finding) → c.means ≡ Err kind → f ≡ finding_at policy kind text place c.size → LookedAt r policy text place (record { finding = Some f; end = place + c.size })
    looked_lacking kind f e q =
        record {
          ahead = omega (arith, (read_inside r text place c w).0);
          inside = (read_inside r text place c w).2;
          all =
              from_lacking place w.code kind w.at (sym w.means ∙ e)
              ∙ ap (λ (n : ℕ). finding_at policy kind text place n ∷ behind r policy text (finding_at policy kind text place n) (place + n)) (sym w.size)
              ∙ ap (λ (g : Finding). g ∷ behind r policy text g (place + c.size)) (sym q);
        }

-- ---- passing over codes that have characters
module _ {r : Reader} {policy : Policy} {text : List ℕ} where
  -- nothing is passed yet
  pub passed_start : {from : ℕ} → from ≤ length text → Passed r policy text from from
  passed_start h = record { ahead = omega arith; inside = h; same = refl }

  -- one stretch behind another
  pub passed_join : {from mid to : ℕ} → Passed r policy text from mid → Passed r policy text mid to → Passed r policy text from to
  passed_join a b = record { ahead = omega (arith, a.ahead, b.ahead); inside = b.inside; same = a.same ∙ b.same }

  passed_at : {from to to' : ℕ} → to ≡ to' → Passed r policy text from to → Passed r policy text from to'
  passed_at {from} e a = subst (Passed r policy text from) e a

  -- a code that has a character, and what was passed behind it
  pub passed_code : {from place to : ℕ} {s : Looked} → Passed r policy text from place → LookedAt r policy text place s → s.finding ≡ None → Passed r policy text s.end to → Passed r policy text from to
  passed_code {s = s} a l e b =
      record {
        ahead = omega (arith, a.ahead, l.ahead, b.ahead);
        inside = b.inside;
        same = a.same ∙ l.all ∙ ap (λ (o : RustOption Finding). with_behind r policy text o s.end) e ∙ b.same;
      }

  -- the first finding behind what was passed
  pub found_behind : {from place : ℕ} {s : Looked} (f : Finding) → Passed r policy text from place → LookedAt r policy text place s → s.finding ≡ Some f → FoundAt r policy text from (record { finding = f; end = s.end })
  found_behind {s = s} f a l e =
      record {
        ahead = omega (arith, a.ahead, l.ahead);
        inside = l.inside;
        one = a.same ∙ l.all ∙ ap (λ (o : RustOption Finding). with_behind r policy text o s.end) e;
      }

  -- there is none up to the text's end
  pub none_behind : {from place : ℕ} → Passed r policy text from place → length text ≤ place → findings_from r policy text from ≡ []
  none_behind {from} {place} a h = a.same ∙ from_end r policy text place h

-- one byte that is a code alone and has a character
passed_one : (policy : Policy) (classes singles pairs text : List ℕ) (place unit : ℕ) → place < length text → is_lead (entry_at classes (entry_at text place)) ≡ false
    → byte_alone classes singles (entry_at text place) ≡ Ok unit → Passed (decoder classes singles pairs) policy text place (place + 1)
unfolding decoder
passed_one policy classes singles pairs text place unit h e q =
    record {
      ahead = omega arith;
      inside = omega arith;
      same = from_found (decoder classes singles pairs) policy text place (alone (decoder classes singles pairs) (entry_at text place)) unit (at_one (decoder classes singles pairs) text place h e) q;
    }

-- so many plain bytes
pub passed_plain : (policy : Policy) (classes singles pairs text : List ℕ) → PlainPage classes singles → (place n : ℕ) → place + n ≤ length text → ((k : ℕ) → k < n → entry_at text (place + k) < 0x80)
    → Passed (decoder classes singles pairs) policy text place (place + n)
passed_plain policy classes singles pairs text page place zero h all = passed_at (omega arith) (passed_start (omega (arith, h)))
passed_plain policy classes singles pairs text page place (suc n) h all =
    let byte = entry_at text (place + n) in
    let p = page byte (all n (omega arith)) in
    passed_at (omega arith)
    (passed_join (passed_plain policy classes singles pairs text page place n (omega (arith, h)) (λ k b. all k (omega (arith, b))))
    (passed_one policy classes singles pairs text (place + n) byte (omega (arith, h)) p.0 p.1))

-- ---- reading under 000 stops at the first code without a character
take_clean : (writes : ℕ → List ℕ) (default first n : ℕ) (g : Fed) (m : Lookup) → (take_code endless n (effect_of writes (digits 0 0 0) default first m) g).answer ≡ 0
    → ((unit : ℕ) × (m ≡ Ok unit)) × (g.answer ≡ 0)
unfolding effect_of action_of take_code take_when stop_at fits after
take_clean writes default first n g (Ok unit) e = ((unit, refl), e)
take_clean writes default first n g (Err UndefinedSingle) e = absurd (omega (arith, e))
take_clean writes default first n g (Err UndefinedPair) e = absurd (omega (arith, e))
take_clean writes default first n g (Err Invalid) e = absurd (omega (arith, e))

module _ (r : Reader) (default : ℕ) (policy : Policy) where
  -- read to the end: every code has a character, and there are no findings, whatever the policy
  clean_codes : (place : ℕ) (ks : List Code) (pending : Option ℕ) → (take_codes (converter r (digits 0 0 0) default) endless ks pending).answer ≡ 0 → findings_in policy (placed_from place ks) ≡ []
  unfolding placed_from findings_in take_codes converter room_left
  clean_codes place [] pending e = refl
  clean_codes place (k ∷ ks) pending e =
      let (found, rest) = take_clean r.writes default k.first (size_of k) (take_codes (converter r (digits 0 0 0) default) endless ks pending) k.means e in
      ap (λ (m : Lookup). finding_then policy (record { place = place; code = k }) m (findings_in policy (placed_from (place + size_of k) ks))) found.1
      ∙ clean_codes (place + size_of k) ks pending rest

  -- a text that is counted to its end under 000 has no findings
  pub clean_text : (text : List ℕ) (s : Progress) → s ≡ summary (feed_from (converter r (digits 0 0 0) default) true endless none text) → s.answer ≡ 0 → findings_from r policy text 0 ≡ []
  unfolding summary feed_from findings_from codes converter
  clean_text text s e z = clean_codes 0 (codes r text) (left_pending r true none text) (ap (λ (f : Progress). f.answer) (sym e) ∙ z)
