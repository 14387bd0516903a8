-- A lead's block as listed is its block in the table set.
use mathlib.Core.Bool.{Bool, true, false, ◌&&◌}
use mathlib.Core.Path.{◌≡◌, refl, sym, ap, ◌∙◌}
use Prim.Native.Nat.{ℕ, ◌+◌, ◌-◌, ◌^◌, ◌≤◌, ◌<◌}
use native.Mathlib.Nat.{mod-eq_of_lt}
use native.Mathlib.Omega.{arith}
use lib.Count.{ones}
use lib.Dec.{ltb}
use borrow.Author.Tests.{lt-ltb, le-ltb, ltb-true, ltb-false, le-leb, lt-leb}
use Rattle.codepage.specs.CodePage.{CodePage, GoodShape, entry_at, is_lead, leads_below}
use Rattle.listing.specs.declared.Half.{Half}
use Rattle.listing.specs.declared.Progress.{Progress}
use Rattle.listing.specs.Sets.{bit, bits_below, in_half, below_in_half}
use Rattle.listing.specs.Order.{is_listed_lead}
use Rattle.listing.specs.Tables.{lead_block}
use Rattle.listing_laws.proofs.BitLaws.{tally, tally_same, tally_none, tally_split, word_tally}
use Rattle.listing_laws.proofs.WholeLaws.{leads_tally}
use Rattle.listing_laws.proofs.RoundLaws.{Before}

-- those below a place, counted
pub below_tally : (h : Half) → h.low < 2 ^ 64 → (place : ℕ) → below_in_half h place ≡ tally (in_half h) place
unfolding below_in_half in_half bits_below
below_tally h small place = by_word (ltb place 64) refl
  where
    low : (n : ℕ) → n ≤ 64 → tally (bit h.low) n ≡ tally (in_half h) n
    low n l = tally_same (bit h.low) (in_half h) n (λ i m. sym (rw (lt-ltb i 64 (omega arith))))

    shifted : (i : ℕ) → in_half h (64 + i) ≡ bit h.high i
    shifted i = let e : 64 + i - 64 ≡ i = omega arith in rw (le-ltb (64 + i) 64 (omega arith), e)

    by_word : (t : Bool) → ltb place 64 ≡ t → below_in_half h place ≡ tally (in_half h) place
    by_word true q = rw q (word_tally h.low place ∙ low place (omega (arith, ltb-true place 64 q)))
    by_word false q =
        let first : ones h.low ≡ tally (in_half h) 64 = ap ones (sym (mod-eq_of_lt small)) ∙ word_tally h.low 64 ∙ low 64 (omega arith) in
        let rest : tally (bit h.high) (place - 64) ≡ tally (λ i. in_half h (64 + i)) (place - 64) = tally_same (bit h.high) (λ i. in_half h (64 + i)) (place - 64) (λ i m. sym (shifted i)) in
        let whole : 64 + (place - 64) ≡ place = omega (arith, ltb-false place 64 q) in
        rw q (omega (arith, first, word_tally h.high (place - 64), rest, tally_split (in_half h) 64 (place - 64), ap (tally (in_half h)) whole))

-- the same over all bytes below a lead
pub listed_tally : (h : Half) (lead : ℕ) → 0x80 ≤ lead → tally (in_half h) (lead - 0x80) ≡ tally (is_listed_lead h) lead
unfolding is_listed_lead
listed_tally h lead high =
    let none : tally (is_listed_lead h) 128 ≡ 0 = tally_none (is_listed_lead h) 128 (λ i m. rw (lt-leb 0x80 i m)) in
    let rest : tally (in_half h) (lead - 0x80) ≡ tally (λ i. is_listed_lead h (128 + i)) (lead - 0x80) = tally_same (in_half h) (λ i. is_listed_lead h (128 + i)) (lead - 0x80) (λ i m. sym (shifted i)) in
    let whole : 128 + (lead - 0x80) ≡ lead = omega arith in
    omega (arith, none, rest, tally_split (is_listed_lead h) 128 (lead - 0x80), ap (tally (is_listed_lead h)) whole)
  where
    shifted : (i : ℕ) → is_listed_lead h (128 + i) ≡ in_half h i
    shifted i = let e : 128 + i - 128 ≡ i = omega arith in rw (le-leb 128 (128 + i) (omega arith), e)

-- once all leads below a lead are listed, its block is that of the table set
pub same_block : (p : CodePage) → GoodShape p → (k : ℕ) (s : Progress) → Before p k s → s.leads.low < 2 ^ 64 → (lead : ℕ) → 0x80 ≤ lead → lead < 256 → 258 + lead ≤ k → lead_block s lead ≡ leads_below p.classes lead
unfolding lead_block leads_below
same_block p good k s b small lead high h l =
    below_tally s.leads small (lead - 0x80)
    ∙ listed_tally s.leads lead high
    ∙ tally_same (is_listed_lead s.leads) (λ i. is_lead (entry_at p.classes i)) lead (λ i m. b.leads i (omega arith) ∙ ap (λ (x : Bool). x && is_lead (entry_at p.classes i)) (lt-ltb (258 + i) k (omega arith)))
    ∙ sym (leads_tally p.classes lead (omega (arith, good.classes)))
