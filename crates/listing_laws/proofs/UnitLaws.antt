-- The codes of units come back.
use mathlib.Core.Bool.{Bool, true, false, ◌&&◌, false≢true, true≢false}
use mathlib.Core.List.{List}
use mathlib.Core.Path.{◌≡◌, refl, sym, ap, ap₂, ◌∙◌, subst}
use Prim.Native.Nat.{ℕ, ◌+◌, ◌-◌, ◌*◌, ◌/◌, ◌%◌, ◌≤◌, ◌<◌}
use native.Mathlib.Omega.{arith}
use lib.Dec.{ltb, eqb}
use lib.ListN.{length}
use borrow.Author.Tests.{lt-ltb, le-ltb, ltb-true, ltb-false, eqb-true, eqb-false, ne_eqb}
use Rattle.codepage.specs.CodePage.{CodePage, GoodShape, pick, entry_at, is_single, is_lead, is_trail, leads_below}
use Rattle.codepage_lookup.specs.Profile.{unit_entry}
use Rattle.listing.specs.declared.Progress.{Progress}
use Rattle.listing.specs.declared.Record.{Record}
use Rattle.listing.specs.declared.Record.TheVariants.{Page, Code, NoRecord}
use Rattle.listing.specs.Order.{accepts, after_page, after_record, blocks_listed, sizes_listed}
use Rattle.listing.specs.Steps.{RecordReady}
use Rattle.listing.proofs.ChangeLaws.{code_room}
use Rattle.listing.specs.Tables.{Tables, filled, change_of}
use Rattle.lister.specs.Lister.{single_at, lead_at, trail_at, pair_at, code_at, record_at, is_record}
use Rattle.listing_laws.specs.Claims.{InWidths}
use Rattle.listing_laws.proofs.FilledLaws.{filled_front_lem}
use Rattle.listing_laws.proofs.CodeLaws.{CodePut, code_put}
use Rattle.listing_laws.proofs.WholeLaws.{Sound}
use Rattle.listing_laws.proofs.RoundLaws.{Before, FitsAll, Keeps, fine, ltb_more}

-- the code of a unit in a table set
abbrev pub code_in : CodePage → (unit : ℕ) → ℕ
code_in p unit = unit_entry p.index p.blocks unit

-- the units before a place have their codes, and no other has one
abbrev pub Codes : CodePage → ℕ → Tables → Type 0
Codes p k t = (u : ℕ) → u < 65536 → unit_entry t.index t.blocks u ≡ pick (ltb (66306 + u) k) (code_in p u) 0xFFFF

-- tables that fit have the whole index, and the block of a code
wide_index : (n : Progress) (t : Tables) → FitsAll (sizes_listed n) t → 256 ≤ length t.index
unfolding sizes_listed
wide_index n t f = f.index_fit

one_block : (page : ℕ) (t : Tables) → FitsAll (sizes_listed (after_page page)) t → 256 ≤ length t.blocks
unfolding sizes_listed blocks_listed
one_block page t f = f.blocks_fit

module _ (p : CodePage) where
  -- the places of codes
  pub at_code : (c : ℕ) → record_at p (66306 + c) ≡ code_at p.index p.blocks c
  unfolding record_at
  at_code c =
      let e : 66306 + c - 66306 ≡ c = omega arith in
      rw (ne_eqb (66306 + c) 0 (λ x. omega arith), ne_eqb (66306 + c) 1 (λ x. omega arith), le-ltb (66306 + c) 258 (omega arith), le-ltb (66306 + c) 514 (omega arith), le-ltb (66306 + c) 770 (omega arith), le-ltb (66306 + c) 66306 (omega arith), e)

  code_here : (c : ℕ) → eqb (code_in p c) 0xFFFF ≡ false → record_at p (66306 + c) ≡ Code c (code_in p c)
  unfolding code_at
  code_here c e = at_code c ∙ rw e

  no_code_here : (c : ℕ) → eqb (code_in p c) 0xFFFF ≡ true → record_at p (66306 + c) ≡ NoRecord
  unfolding code_at
  no_code_here c e = at_code c ∙ rw e

  pick_same : (b : Bool) (v : ℕ) → v ≡ 0xFFFF → pick b v 0xFFFF ≡ 0xFFFF
  pick_same true v e = e
  pick_same false v e = refl

  codes_none : (k : ℕ) (t : Tables) → Codes p k t → is_record (record_at p k) ≡ false → Codes p (k + 1) t
  codes_none k t held q u h = held u h ∙ by_place (eqb (66306 + u) k) refl
    where
      none : 66306 + u ≡ k → code_in p u ≡ 0xFFFF
      none e = by_code (eqb (code_in p u) 0xFFFF) refl
        where
          by_code : (b : Bool) → eqb (code_in p u) 0xFFFF ≡ b → code_in p u ≡ 0xFFFF
          by_code true w = eqb-true (code_in p u) 0xFFFF w
          by_code false w = absurd (true≢false (sym (ap is_record (ap (record_at p) (sym e) ∙ code_here u w)) ∙ q))

      by_place : (b : Bool) → eqb (66306 + u) k ≡ b → pick (ltb (66306 + u) k) (code_in p u) 0xFFFF ≡ pick (ltb (66306 + u) (k + 1)) (code_in p u) 0xFFFF
      by_place true w =
          let e = none (eqb-true (66306 + u) k w) in
          pick_same (ltb (66306 + u) k) (code_in p u) e ∙ sym (pick_same (ltb (66306 + u) (k + 1)) (code_in p u) e)
      by_place false w = ap (λ (x : Bool). pick x (code_in p u) 0xFFFF) (sym (ltb_more (66306 + u) k (eqb-false (66306 + u) k w)))

  -- before the first `W` no record changes a code
  abbrev Leaves : Progress → Tables → Record → Type 0
  Leaves s t r = ((change_of s r t).index ≡ t.index) × ((change_of s r t).blocks ≡ t.blocks)

  leaves_pick : (s : Progress) (t : Tables) (b : Bool) (x y : Record) → Leaves s t x → Leaves s t y → Leaves s t (pick b x y)
  leaves_pick s t true x y e f = e
  leaves_pick s t false x y e f = f

  early_leaves : (s : Progress) (t : Tables) (k : ℕ) → 2 ≤ k → k < 66306 → Leaves s t (record_at p k)
  unfolding record_at single_at lead_at trail_at pair_at
  early_leaves s t k l h =
      rw (ne_eqb k 0 (λ x. omega arith), ne_eqb k 1 (λ x. omega arith), lt-ltb k 66306 h)
      (leaves_pick s t (ltb k 258) _ _ (leaves_pick s t (is_single (entry_at p.classes (k - 2))) _ _ (refl, refl) (refl, refl))
      (leaves_pick s t (ltb k 514) _ _ (leaves_pick s t (is_lead (entry_at p.classes (k - 258))) _ _ (refl, refl) (refl, refl))
      (leaves_pick s t (ltb k 770) _ _ (leaves_pick s t (is_trail (entry_at p.classes (k - 514))) _ _ (refl, refl) (refl, refl))
      (leaves_pick s t (is_lead (entry_at p.classes ((k - 770) / 256)) && is_trail (entry_at p.classes ((k - 770) % 256))) _ _
      (leaves_pick s t (eqb (entry_at p.pairs (256 * leads_below p.classes ((k - 770) / 256) + (k - 770) % 256)) 0xFFFF) _ _ (refl, refl) (refl, refl)) (refl, refl)))))

  module _ (good : GoodShape p) (m : InWidths p) (k : ℕ) (s : Progress) (t : Tables) (late : 2 ≤ k) (most : k < 131842) (b : Before p k s) (sound : Sound s t) (fits : FitsAll (sizes_listed (after_record s (record_at p k))) t) (held : Codes p k t) (q : is_record (record_at p k) ≡ true) where
    early_kept : k < 66306 → Codes p (k + 1) (change_of s (record_at p k) t)
    early_kept h u k₁ =
        let same = early_leaves s t k late h in
        ap₂ (λ (x y : List ℕ). unit_entry x y u) same.0 same.1
        ∙ held u k₁
        ∙ ap (λ (x : Bool). pick x (code_in p u) 0xFFFF) (sym (ltb_more (66306 + u) k (λ e. omega arith)))

    -- a `W` record
    code_kept : (c : ℕ) → c < 65536 → k ≡ 66306 + c → (x : Bool) → eqb (code_in p c) 0xFFFF ≡ x → Codes p (k + 1) (change_of s (record_at p k) t)
    code_kept c h e true w u k₁ = absurd (false≢true (sym (ap is_record (ap (record_at p) e ∙ no_code_here c w)) ∙ q))
    code_kept c h e false w u k₁ = ap (λ (r : Record). unit_entry (change_of s r t).index (change_of s r t).blocks u) here ∙ put.one u k₁ ∙ by_unit (eqb u c) refl
      where
        here : record_at p k ≡ Code c (code_in p c)
        here = ap (record_at p) e ∙ code_here c w

        accepted : accepts s (Code c (code_in p c)) ≡ true
        accepted = ap (accepts s) (sym here) ∙ ((fine p good m k s b late most).0 q).1.0

        fits_code : FitsAll (sizes_listed (after_record s (Code c (code_in p c)))) t
        fits_code = subst (λ (r : Record). FitsAll (sizes_listed (after_record s r)) t) here fits

        ready : RecordReady s (after_record s (Code c (code_in p c))) (Code c (code_in p c)) t.classes t.singles t.pairs t.index t.blocks
        ready = record { accepted = accepted; next = refl; fits = fits_code }

        put : CodePut s t c (code_in p c)
        put = code_put s t (sound (omega (arith, b.late))).numbers c (code_in p c) h accepted (wide_index (after_record s (Code c (code_in p c))) t fits_code) (code_room ready c (code_in p c) refl)

        by_unit : (x : Bool) → eqb u c ≡ x → pick (eqb u c) (code_in p c) (unit_entry t.index t.blocks u) ≡ pick (ltb (66306 + u) (k + 1)) (code_in p u) 0xFFFF
        by_unit true o =
            let same : u ≡ c = eqb-true u c o in
            rw (o, lt-ltb (66306 + u) (k + 1) (omega arith)) (ap (code_in p) (sym same))
        by_unit false o =
            let ne : u ≡ c → ⊥ = eqb-false u c o in
            rw o (held u k₁ ∙ ap (λ (x : Bool). pick x (code_in p u) 0xFFFF) (sym (ltb_more (66306 + u) k (λ x. ne (omega arith)))))

    codes_record : Codes p (k + 1) (change_of s (record_at p k) t)
    codes_record = by_size (ltb k 66306) refl
      where
        by_size : (x : Bool) → ltb k 66306 ≡ x → Codes p (k + 1) (change_of s (record_at p k) t)
        by_size true w = early_kept (ltb-true k 66306 w)
        by_size false w = code_kept (k - 66306) (omega (arith, ltb-false k 66306 w)) (omega (arith, ltb-false k 66306 w)) (eqb (code_in p (k - 66306)) 0xFFFF) refl

  -- once `P` was read no unit has a code
  codes_start : (s : Progress) (page : ℕ) (t : Tables) → FitsAll (sizes_listed (after_page page)) t → Codes p 2 (change_of s (Page page) t)
  codes_start s page t fits u h =
      let zero_there : entry_at (filled t.index 0 256 0) (u / 256) ≡ 0 = filled_front_lem t.index 256 0 (u / 256) (omega arith) (wide_index (after_page page) t fits) in
      let place : 256 * entry_at (filled t.index 0 256 0) (u / 256) + u % 256 ≡ u % 256 = omega (arith, zero_there) in
      ap (entry_at (filled t.blocks 0 256 0xFFFF)) place
      ∙ filled_front_lem t.blocks 256 0xFFFF (u % 256) (omega arith) (one_block page t fits)
      ∙ sym (ap (λ (x : Bool). pick x (code_in p u) 0xFFFF) (le-ltb (66306 + u) 2 (omega arith)))

  -- the codes of units are kept
  pub codes_keep : GoodShape p → InWidths p → Keeps p (Codes p)
  codes_keep good m =
      record {
        starts = codes_start;
        record_kept = λ k s t l h b sound fits held q. codes_record good m k s t l h b sound fits held q;
        none_kept = λ k t l h held q. codes_none k t held q;
      }
