-- Laws of the last place: it is found by the lead bytes before a place alone.
use mathlib.Core.Bool.{Bool, true, false, true≢false}
use mathlib.Core.List.{List, [], ◌∷◌}
use mathlib.Core.Logic.{◌⊎◌, inl, inr}
use mathlib.Core.Path.{◌≡◌, refl, sym, ap, ◌∙◌}
use Prim.Native.Nat.{ℕ, zero, suc, ◌+◌, ◌-◌, ◌%◌, ◌≤◌, ◌<◌}
use native.Mathlib.Omega.{arith}
use lib.Dec.{leb, ltb}
use lib.ListN.{length, drop}
use borrow.Author.Tests.{leb-true, leb-false, ltb-true, ltb-false}
use Rattle.codepage.specs.CodePage.{entry_at, is_lead}
use Rattle.codepage.specs.Reading.{Reader, decoder, Code, size_of, codes}
use Rattle.codepage_walk.specs.Walk.{ClassesSize}
use Rattle.codepage_walk.proofs.WalkLaws.{Next, codes_next, no_wait_one, code_there, size_high, sized_small}
use Rattle.codepage_walk.specs.Checks.{ForClasses}
use Rattle.linebreak.specs.Steps.{last_code_place, GoodClasses, LeadsBefore}
use Rattle.linebreak.proofs.PlaceLaws.{last_stop, last_goes, last_next, last_here}

-- ---- a code ends behind every unit that does not wait: from a place before it, the codes come by
module _ (r : Reader) (text : List ℕ) (to by : ℕ) (up_to : by ≤ to) (inside : to ≤ length text) where
  come_by : (ks : List Code) (place : ℕ) → codes r (drop place text) ≡ ks → place ≤ by → (place < by → r.waits (entry_at text (by - 1)) ≡ false)
      → last_code_place to place ks ≡ last_code_place to by (codes r (drop by text))
  come_by [] place e h w = at_once (ltb place by) refl
    where
      at_once : (t : Bool) → ltb place by ≡ t → last_code_place to place [] ≡ last_code_place to by (codes r (drop by text))
      at_once true q =
          let t = code_there r text place (omega (arith, ltb-true place by q)) in
          let none : ◌≡◌ {A = List Code} [] (t.code ∷ codes r (drop (place + size_of t.code) text)) = sym e ∙ t.at.here in
          absurd (let z : ◌≡◌ {A = ℕ} 0 1 = cc in omega arith)
      at_once false q =
          let same : place ≡ by = omega (arith, ltb-false place by q) in
          ap (last_code_place to place) (sym e) ∙ ap (λ (n : ℕ). last_code_place to n (codes r (drop n text))) same
  come_by (k ∷ ks) place e h w = at_code (ltb place by) refl (come_by ks (place + size_of k))
    where
      next : Next r text place k ks
      next = codes_next r text place k ks e

      ends : place < by → (size_of k ≡ 1) ⊎ (size_of k ≡ 2) → place + size_of k ≤ by
      ends l (inl one) = omega arith
      ends l (inr two) = short (leb (place + 2) by) refl
        where
          short : (t : Bool) → leb (place + 2) by ≡ t → place + size_of k ≤ by
          short true q = omega (arith, leb-true (place + 2) by q)
          short false q =
              let over : by < place + 2 = leb-false (place + 2) by q in
              let here : by - 1 ≡ place = omega arith in
              let one = no_wait_one r text place k (omega arith) next.at (ap (λ (n : ℕ). r.waits (entry_at text n)) (sym here) ∙ w l) in
              absurd (omega arith)

      at_code : (t : Bool) → ltb place by ≡ t
          → (codes r (drop (place + size_of k) text) ≡ ks → place + size_of k ≤ by → (place + size_of k < by → r.waits (entry_at text (by - 1)) ≡ false)
          → last_code_place to (place + size_of k) ks ≡ last_code_place to by (codes r (drop by text)))
          → last_code_place to place (k ∷ ks) ≡ last_code_place to by (codes r (drop by text))
      at_code true q later =
          let before = ltb-true place by q in
          let end = ends before next.size in
          last_goes to place k ks (omega arith) ∙ later next.others end (λ l. w before)
      at_code false q later =
          let same : place ≡ by = omega (arith, ltb-false place by q) in
          ap (last_code_place to place) (sym e) ∙ ap (λ (n : ℕ). last_code_place to n (codes r (drop n text))) same

  pub comes_by : (place : ℕ) → place ≤ by → (place < by → r.waits (entry_at text (by - 1)) ≡ false) → last_code_place to place (codes r (drop place text)) ≡ last_code_place to by (codes r (drop by text))
  comes_by place = come_by (codes r (drop place text)) place refl

-- ---- lead bytes side by side: one more before them
pub leads_more : (classes text : List ℕ) (to place : ℕ) → 0 < place → ((k : ℕ) → place ≤ k → k < to → is_lead (entry_at classes (entry_at text k)) ≡ true)
    → is_lead (entry_at classes (entry_at text (place - 1))) ≡ true → (k : ℕ) → place - 1 ≤ k → k < to → is_lead (entry_at classes (entry_at text k)) ≡ true
leads_more classes text to place some all e k h l = by (leb place k) refl
  where
    by : (t : Bool) → leb place k ≡ t → is_lead (entry_at classes (entry_at text k)) ≡ true
    by true q = all k (leb-true _ _ q) l
    by false q =
        let over : k < place = leb-false place k q in
        let same : k ≡ place - 1 = omega arith in
        ap (λ (n : ℕ). is_lead (entry_at classes (entry_at text n))) same ∙ e

-- ---- lead bytes side by side are codes of two
module _ (classes text : List ℕ) (good : GoodClasses classes) (to : ℕ) (inside : to ≤ length text) where
  abbrev AllLeads : ℕ → Type 0
  AllLeads place = (k : ℕ) → place ≤ k → k < to → is_lead (entry_at classes (entry_at text k)) ≡ true

  lead_high : (byte : ℕ) → is_lead (entry_at classes byte) ≡ true → 0x80 ≤ byte
  lead_high byte e = by (leb 0x80 byte) refl
    where
      by : (t : Bool) → leb 0x80 byte ≡ t → 0x80 ≤ byte
      by true q = leb-true _ _ q
      by false q = absurd (true≢false (sym e ∙ good.no_low_lead byte (leb-false _ _ q)))

  two_leads : (place : ℕ) → place + 2 ≤ to → AllLeads place → ForClasses classes (λ (r : Reader). last_code_place to place (codes r (drop place text)) ≡ last_code_place to (place + 2) (codes r (drop (place + 2) text)))
  two_leads place h all singles pairs =
      let sized : ClassesSize classes text place 2 = size_high classes text place (omega arith) (all place (omega arith) (omega arith)) (lead_high _ (all (place + 1) (omega arith) (omega arith))) in
      last_next (decoder classes singles pairs) text to place 2 (sized singles pairs) h

  leads_even : (n place : ℕ) → place + n ≡ to → n % 2 ≡ 0 → AllLeads place → ForClasses classes (λ (r : Reader). last_code_place to place (codes r (drop place text)) ≡ to)
  leads_even zero place e m all singles pairs = last_here to place _ (omega arith) ∙ omega arith
  leads_even (suc zero) place e m all singles pairs = absurd (omega arith)
  leads_even (suc (suc n)) place e m all singles pairs =
      two_leads place (omega arith) all singles pairs
      ∙ leads_even n (place + 2) (omega arith) (omega arith) (λ k h l. all k (omega arith) l) singles pairs

  -- the last of an odd number of them decides
  leads_odd : (n place : ℕ) → place + n ≡ to → n % 2 ≡ 1 → AllLeads place
      → ForClasses classes (λ (r : Reader). last_code_place to place (codes r (drop place text)) ≡ last_code_place to (to - 1) (codes r (drop (to - 1) text)))
  leads_odd zero place e m all singles pairs = absurd (omega arith)
  leads_odd (suc zero) place e m all singles pairs =
      let same : place ≡ to - 1 = omega arith in
      ap (λ (p : ℕ). last_code_place to p (codes (decoder classes singles pairs) (drop p text))) same
  leads_odd (suc (suc n)) place e m all singles pairs =
      two_leads place (omega arith) all singles pairs
      ∙ leads_odd n (place + 2) (omega arith) (omega arith) (λ k h l. all k (omega arith) l) singles pairs

  module _ (from begin : ℕ) (b : LeadsBefore classes text from to begin) where
    back : ForClasses classes (λ (r : Reader). last_code_place to from (codes r (drop from text)) ≡ last_code_place to begin (codes r (drop begin text)))
    unfolding decoder
    back singles pairs = comes_by (decoder classes singles pairs) text to begin b.up_to inside from b.from_on b.begin

    -- an even number of lead bytes side by side before `to`: the last place is `to`
    pub last_even : (to - begin) % 2 ≡ 0 → ForClasses classes (λ (r : Reader). to ≡ last_code_place to from (codes r (drop from text)))
    last_even m singles pairs = sym (back singles pairs ∙ leads_even (to - begin) begin (omega (arith, b.up_to)) m b.leads singles pairs)

    -- an odd number of them, and the code at the final one has two bytes: the last place is `to - 1`
    pub last_odd : (size : ℕ) → ((to - begin) % 2 ≡ 0 → ⊥) → ClassesSize classes text (to - 1) size → size ≡ 2 → ForClasses classes (λ (r : Reader). to - 1 ≡ last_code_place to from (codes r (drop from text)))
    last_odd size m s two singles pairs =
        let up_to = b.up_to in
        sym (back singles pairs ∙ leads_odd (to - begin) begin (omega arith) (omega arith) b.leads singles pairs
        ∙ last_stop (decoder classes singles pairs) text to (to - 1) size (s singles pairs) (omega arith))

    -- an odd number of them, and the code at the final one does not have two bytes: the last place is `to`
    pub last_alone : (size : ℕ) → ((to - begin) % 2 ≡ 0 → ⊥) → ClassesSize classes text (to - 1) size → (size ≡ 2 → ⊥) → ForClasses classes (λ (r : Reader). to ≡ last_code_place to from (codes r (drop from text)))
    last_alone size m s not_two singles pairs =
        let up_to = b.up_to in
        let one : size ≡ 1 = by_size (sized_small (decoder classes singles pairs) text (to - 1) size (s singles pairs)) in
        let end : to - 1 + size ≡ to = omega arith in
        sym (back singles pairs ∙ leads_odd (to - begin) begin (omega arith) (omega arith) b.leads singles pairs
        ∙ last_next (decoder classes singles pairs) text to (to - 1) size (s singles pairs) (omega arith)
        ∙ last_here to (to - 1 + size) _ (omega arith)
        ∙ end)
      where
        by_size : (size ≡ 1) ⊎ (size ≡ 2) → size ≡ 1
        by_size (inl one) = one
        by_size (inr two) = absurd (not_two two)
