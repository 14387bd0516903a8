-- The characters of single bytes come back.
use mathlib.Core.Bool.{Bool, true, false, ◌&&◌, false≢true, true≢false}
use mathlib.Core.List.{List}
use mathlib.Core.Path.{◌≡◌, refl, sym, ap, ◌∙◌}
use Prim.Native.Nat.{ℕ, ◌+◌, ◌-◌, ◌*◌, ◌/◌, ◌%◌, ◌≤◌, ◌<◌}
use native.Mathlib.Omega.{arith}
use lib.Dec.{ltb, eqb}
use lib.ListN.{length, get_or, set}
use lib.Seq.{get_or-set_same, get_or-set_other}
use borrow.Author.Tests.{lt-ltb, le-ltb, ltb-true, ltb-false, eqb-true, eqb-false, ne_eqb}
use Rattle.codepage.specs.CodePage.{CodePage, pick, entry_at, is_single, is_lead, is_trail, leads_below}
use Rattle.codepage.specs.Reading.{byte_alone}
use Rattle.listing.specs.declared.Progress.{Progress}
use Rattle.listing.specs.declared.Record.{Record}
use Rattle.listing.specs.declared.Record.TheVariants.{Single, NoRecord}
use Rattle.listing.specs.Order.{after_record, sizes_listed}
use Rattle.listing.specs.Tables.{Tables, change_of}
use Rattle.lister.specs.Lister.{single_at, lead_at, trail_at, pair_at, code_at, record_at, is_record}
use Rattle.listing_laws.proofs.RoundLaws.{FitsAll, Keeps}

-- the singles before a place have their characters
abbrev pub Singles : CodePage → ℕ → Tables → Type 0
Singles p k t = (c : ℕ) → c < 256 → 2 + c < k → is_single (entry_at p.classes c) ≡ true → entry_at t.singles c ≡ entry_at p.singles c

-- the places of singles
pub at_single : (p : CodePage) (c : ℕ) → c < 256 → record_at p (2 + c) ≡ single_at p.classes p.singles c
unfolding record_at
at_single p c h =
    let e : 2 + c - 2 ≡ c = omega arith in
    rw (ne_eqb (2 + c) 0 (λ x. omega arith), ne_eqb (2 + c) 1 (λ x. omega arith), lt-ltb (2 + c) 258 (omega arith), e)

single_here : (p : CodePage) (c : ℕ) → c < 256 → is_single (entry_at p.classes c) ≡ true → record_at p (2 + c) ≡ Single c (entry_at p.singles c)
unfolding single_at
single_here p c h e = at_single p c h ∙ rw e

-- a record that leaves the singles as they are
abbrev Leaves : Progress → Tables → Record → Type 0
Leaves s t r = (change_of s r t).singles ≡ t.singles

leaves_pick : (s : Progress) (t : Tables) (b : Bool) (x y : Record) → Leaves s t x → Leaves s t y → Leaves s t (pick b x y)
leaves_pick s t true x y p q = p
leaves_pick s t false x y p q = q

later_leaves : (p : CodePage) (s : Progress) (t : Tables) (k : ℕ) → 258 ≤ k → Leaves s t (record_at p k)
unfolding record_at lead_at trail_at pair_at code_at
later_leaves p s t k h =
    rw (ne_eqb k 0 (λ x. omega arith), ne_eqb k 1 (λ x. omega arith), le-ltb k 258 h)
    (leaves_pick s t (ltb k 514) _ _ (leaves_pick s t (is_lead (entry_at p.classes (k - 258))) _ _ refl refl)
    (leaves_pick s t (ltb k 770) _ _ (leaves_pick s t (is_trail (entry_at p.classes (k - 514))) _ _ refl refl)
    (leaves_pick s t (ltb k 66306) _ _
    (leaves_pick s t (is_lead (entry_at p.classes ((k - 770) / 256)) && is_trail (entry_at p.classes ((k - 770) % 256))) _ _
    (leaves_pick s t (eqb (entry_at p.pairs (256 * leads_below p.classes ((k - 770) / 256) + (k - 770) % 256)) 0xFFFF) _ _ refl refl) refl)
    (leaves_pick s t (eqb (entry_at p.blocks (256 * entry_at p.index ((k - 66306) / 256) + (k - 66306) % 256)) 0xFFFF) _ _ refl refl))))

single_kept : (p : CodePage) (k : ℕ) (s : Progress) (t : Tables) → 2 ≤ k → 256 ≤ length t.singles → Singles p k t → is_record (record_at p k) ≡ true → Singles p (k + 1) (change_of s (record_at p k) t)
unfolding single_at
single_kept p k s t l long held q c h less on = by_part (ltb k 258) refl
  where
    by_place : (r : Record) (d : ℕ) → r ≡ Single d (entry_at p.singles d) → k ≡ 2 + d → d < 256 → entry_at (change_of s r t).singles c ≡ entry_at p.singles c
    by_place r d e f g = ap (λ (x : Record). entry_at (change_of s x t).singles c) e ∙ by_byte (eqb c d) refl
      where
        by_byte : (b : Bool) → eqb c d ≡ b → entry_at (set t.singles d (entry_at p.singles d)) c ≡ entry_at p.singles c
        by_byte true w =
            let same : c ≡ d = eqb-true c d w in
            ap (λ (n : ℕ). get_or (set t.singles d (entry_at p.singles d)) n 0) same ∙ get_or-set_same t.singles d (entry_at p.singles d) 0 (omega arith) ∙ ap (entry_at p.singles) (sym same)
        by_byte false w =
            let ne : c ≡ d → ⊥ = eqb-false c d w in
            get_or-set_other t.singles d c (entry_at p.singles d) 0 ne ∙ held c h (omega arith) on

    by_class : (d : ℕ) → k ≡ 2 + d → d < 256 → (b : Bool) → is_single (entry_at p.classes d) ≡ b → entry_at (change_of s (record_at p k) t).singles c ≡ entry_at p.singles c
    by_class d f g true w = by_place (record_at p k) d (ap (record_at p) f ∙ single_here p d g w) f g
    by_class d f g false w =
        let none : record_at p k ≡ NoRecord = ap (record_at p) f ∙ at_single p d g ∙ rw w in
        absurd (false≢true (sym (ap is_record none) ∙ q))

    by_part : (b : Bool) → ltb k 258 ≡ b → entry_at (change_of s (record_at p k) t).singles c ≡ entry_at p.singles c
    by_part true w = by_class (k - 2) (omega arith) (omega (arith, ltb-true k 258 w)) (is_single (entry_at p.classes (k - 2))) refl
    by_part false w = ap (λ (x : List ℕ). entry_at x c) (later_leaves p s t k (ltb-false k 258 w)) ∙ held c h (omega (arith, ltb-false k 258 w)) on

-- tables that fit have all singles
wide : (n : Progress) (t : Tables) → FitsAll (sizes_listed n) t → 256 ≤ length t.singles
unfolding sizes_listed
wide n t f = f.singles_fit

-- the characters of singles are kept
pub singles_keep : (p : CodePage) → Keeps p (Singles p)
singles_keep p =
    record {
      starts = λ s page t fits c h less on. absurd (omega arith);
      record_kept = λ k s t l h b sound fits held q. single_kept p k s t l (wide (after_record s (record_at p k)) t fits) held q;
      none_kept = λ k t l h held q c small less on. by_place p k t held q c small less on (eqb (2 + c) k) refl;
    }
  where
    by_place : (p : CodePage) (k : ℕ) (t : Tables) → Singles p k t → is_record (record_at p k) ≡ false → (c : ℕ) → c < 256 → 2 + c < k + 1 → is_single (entry_at p.classes c) ≡ true
        → (x : Bool) → eqb (2 + c) k ≡ x → entry_at t.singles c ≡ entry_at p.singles c
    by_place p k t held q c small less on true w =
        absurd (true≢false (sym (ap is_record (single_here p c small on)) ∙ ap (λ (n : ℕ). is_record (record_at p n)) (eqb-true (2 + c) k w) ∙ q))
    by_place p k t held q c small less on false w = held c small (omega (arith, eqb-false (2 + c) k w)) on

-- every single byte has the same meaning
pub same_singles : (p : CodePage) (classes singles : List ℕ) → ((byte : ℕ) → byte < 256 → entry_at classes byte ≡ entry_at p.classes byte) → ((byte : ℕ) → byte < 256 → is_single (entry_at p.classes byte) ≡ true → entry_at singles byte ≡ entry_at p.singles byte)
    → (byte : ℕ) → byte < 256 → byte_alone classes singles byte ≡ byte_alone p.classes p.singles byte
unfolding byte_alone
same_singles p classes singles same kept byte h = by_class (is_single (entry_at p.classes byte)) refl
  where
    by_class : (x : Bool) → is_single (entry_at p.classes byte) ≡ x → byte_alone classes singles byte ≡ byte_alone p.classes p.singles byte
    by_class true q = rw (same byte h, q, kept byte h q)
    by_class false q = rw (same byte h, q)
