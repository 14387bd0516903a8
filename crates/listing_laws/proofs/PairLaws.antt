-- The characters of pairs come back.
use mathlib.Core.Bool.{Bool, true, false, ◌&&◌, false≢true, true≢false}
use mathlib.Core.List.{List}
use mathlib.Core.Path.{◌≡◌, refl, sym, ap, ap₂, ◌∙◌, subst}
use Prim.Native.Nat.{ℕ, suc, ◌+◌, ◌-◌, ◌*◌, ◌/◌, ◌%◌, ◌≤◌, ◌<◌}
use native.Mathlib.Omega.{arith}
use lib.Dec.{ltb, eqb}
use lib.ListN.{length, get_or, set}
use lib.Seq.{get_or-set_same, get_or-set_other}
use borrow.Author.Tests.{lt-ltb, le-ltb, ltb-true, ltb-false, eqb-true, eqb-false, ne_eqb}
use Rattle.codepage.specs.CodePage.{CodePage, GoodShape, pick, entry_at, is_single, is_lead, is_trail, leads_below}
use Rattle.listing.specs.declared.Progress.{Progress}
use Rattle.listing.specs.declared.Record.{Record}
use Rattle.listing.specs.declared.Record.TheVariants.{Lead, Pair, NoRecord}
use Rattle.listing.specs.Tables.{Tables, filled, change_of}
use Rattle.listing.specs.Form.{unless_none}
use Rattle.listing.specs.Order.{accepts, after_record, is_listed_lead, sizes_listed}
use Rattle.listing.proofs.TableLaws.{listed_below}
use Rattle.listing.specs.Sets.{count_half}
use Rattle.listing.specs.Tables.{lead_block}
use Rattle.lister.specs.Lister.{single_at, lead_at, trail_at, record_at, is_record, pair_at, code_at}
use Rattle.listing_laws.specs.Claims.{InWidths}
use Rattle.listing_laws.proofs.BitLaws.{tally, tally_split}
use Rattle.listing_laws.proofs.WholeLaws.{Sound, hold_record, leads_tally}
use Rattle.listing_laws.proofs.RoundLaws.{Before, FitsAll, Keeps, fine, ltb_more}
use Rattle.listing_laws.proofs.BlockLaws.{same_block}
use Rattle.listing_laws.proofs.HoldLaws.{Holds}
use Rattle.listing_laws.proofs.FilledLaws.{filled_in, filled_out}

-- ---- the blocks of leads rise
pub leads_rise : (p : CodePage) → GoodShape p → (lead other : ℕ) → lead < other → other ≤ 256 → is_lead (entry_at p.classes lead) ≡ true → leads_below p.classes lead + 1 ≤ leads_below p.classes other
unfolding leads_below tally
leads_rise p good lead other h l e =
    let f : ℕ → Bool = λ i. is_lead (entry_at p.classes i) in
    let more : tally f (suc lead) ≡ suc (tally f lead) = rw e in
    let whole : suc lead + (other - suc lead) ≡ other = omega arith in
    omega (arith, leads_tally p.classes lead (omega (arith, good.classes)), leads_tally p.classes other (omega (arith, good.classes)), more, tally_split f (suc lead) (other - suc lead), ap (tally f) whole)

-- ---- what the pairs hold before a place
abbrev pub pair_place : CodePage → (lead byte : ℕ) → ℕ
pair_place p lead byte = 256 * leads_below p.classes lead + byte

-- the pairs of the leads passed: as listed up to a place, empty behind it
abbrev pub Pairs : CodePage → ℕ → Tables → Type 0
Pairs p k t = (l c : ℕ) → l < 256 → c < 256 → is_lead (entry_at p.classes l) ≡ true → is_trail (entry_at p.classes c) ≡ true → 258 + l < k
    → entry_at t.pairs (pair_place p l c) ≡ pick (ltb (770 + (256 * l + c)) k) (entry_at p.pairs (pair_place p l c)) 0xFFFF

module _ (p : CodePage) (good : GoodShape p) where
  at_lead : (c : ℕ) → c < 256 → record_at p (258 + c) ≡ lead_at p.classes c
  unfolding record_at
  at_lead c h =
      let e : 258 + c - 258 ≡ c = omega arith in
      rw (ne_eqb (258 + c) 0 (λ x. omega arith), ne_eqb (258 + c) 1 (λ x. omega arith), le-ltb (258 + c) 258 (omega arith), lt-ltb (258 + c) 514 (omega arith), e)

  lead_here : (c : ℕ) → c < 256 → is_lead (entry_at p.classes c) ≡ true → record_at p (258 + c) ≡ Lead c
  unfolding lead_at
  lead_here c h e = at_lead c h ∙ rw e

  at_pair : (c : ℕ) → c < 65536 → record_at p (770 + c) ≡ pair_at p.classes p.pairs c
  unfolding record_at
  at_pair c h =
      let e : 770 + c - 770 ≡ c = omega arith in
      rw (ne_eqb (770 + c) 0 (λ x. omega arith), ne_eqb (770 + c) 1 (λ x. omega arith), le-ltb (770 + c) 258 (omega arith), le-ltb (770 + c) 514 (omega arith), le-ltb (770 + c) 770 (omega arith), lt-ltb (770 + c) 66306 (omega arith), e)

  pair_here : (l c : ℕ) → l < 256 → c < 256 → is_lead (entry_at p.classes l) ≡ true → is_trail (entry_at p.classes c) ≡ true
      → record_at p (770 + (256 * l + c)) ≡ unless_none (entry_at p.pairs (pair_place p l c)) (Pair (256 * l + c) (entry_at p.pairs (pair_place p l c)))
  unfolding pair_at
  pair_here l c h k lead trail =
      let x : (256 * l + c) / 256 ≡ l = omega arith in
      let y : (256 * l + c) % 256 ≡ c = omega arith in
      at_pair (256 * l + c) (omega arith) ∙ rw (x, y, lead, trail)

  pick_same : (b : Bool) (v : ℕ) → v ≡ 0xFFFF → pick b v 0xFFFF ≡ 0xFFFF
  pick_same true v e = e
  pick_same false v e = refl

  -- where there is no record
  pub pairs_none : (k : ℕ) (t : Tables) → Pairs p k t → is_record (record_at p k) ≡ false → Pairs p (k + 1) t
  pairs_none k t held q l c h m lead trail less = by_lead (eqb (258 + l) k) refl
    where
      no_value : 770 + (256 * l + c) ≡ k → entry_at p.pairs (pair_place p l c) ≡ 0xFFFF
      no_value e = by_test (eqb (entry_at p.pairs (pair_place p l c)) 0xFFFF) refl
        where
          by_test : (b : Bool) → eqb (entry_at p.pairs (pair_place p l c)) 0xFFFF ≡ b → entry_at p.pairs (pair_place p l c) ≡ 0xFFFF
          by_test true w = eqb-true (entry_at p.pairs (pair_place p l c)) 0xFFFF w
          by_test false w =
              let r : record_at p k ≡ Pair (256 * l + c) (entry_at p.pairs (pair_place p l c)) = ap (record_at p) (sym e) ∙ pair_here l c h m lead trail ∙ rw w in
              absurd (true≢false (sym (ap is_record r) ∙ q))

      by_code : (b : Bool) → eqb (770 + (256 * l + c)) k ≡ b → 258 + l < k → entry_at t.pairs (pair_place p l c) ≡ pick (ltb (770 + (256 * l + c)) (k + 1)) (entry_at p.pairs (pair_place p l c)) 0xFFFF
      by_code true w low =
          let none = no_value (eqb-true (770 + (256 * l + c)) k w) in
          held l c h m lead trail low ∙ pick_same (ltb (770 + (256 * l + c)) k) _ none ∙ sym (pick_same (ltb (770 + (256 * l + c)) (k + 1)) _ none)
      by_code false w low =
          held l c h m lead trail low ∙ ap (λ (x : Bool). pick x (entry_at p.pairs (pair_place p l c)) 0xFFFF) (sym (ltb_more (770 + (256 * l + c)) k (eqb-false (770 + (256 * l + c)) k w)))

      by_lead : (b : Bool) → eqb (258 + l) k ≡ b → entry_at t.pairs (pair_place p l c) ≡ pick (ltb (770 + (256 * l + c)) (k + 1)) (entry_at p.pairs (pair_place p l c)) 0xFFFF
      by_lead true w =
          let r : record_at p k ≡ Lead l = ap (record_at p) (sym (eqb-true (258 + l) k w)) ∙ lead_here l h lead in
          absurd (true≢false (sym (ap is_record r) ∙ q))
      by_lead false w = by_code (eqb (770 + (256 * l + c)) k) refl (omega (arith, eqb-false (258 + l) k w))

  -- a record that leaves the pairs as they are, at a place of neither `L` nor `M`
  outside : (k : ℕ) (t u : Tables) → u.pairs ≡ t.pairs → ((l : ℕ) → l < 256 → 258 + l ≡ k → ⊥) → ((c : ℕ) → c < 65536 → 770 + c ≡ k → ⊥) → Pairs p k t → Pairs p (k + 1) u
  outside k t u same no_lead no_pair held l c h m lead trail less =
      let ne : 258 + l ≡ k → ⊥ = no_lead l h in
      ap (λ (x : List ℕ). entry_at x (pair_place p l c)) same
      ∙ held l c h m lead trail (omega arith)
      ∙ ap (λ (x : Bool). pick x (entry_at p.pairs (pair_place p l c)) 0xFFFF) (sym (ltb_more (770 + (256 * l + c)) k (no_pair (256 * l + c) (omega arith))))

  high_lead : (b : ℕ) → is_lead (entry_at p.classes b) ≡ true → 0x80 ≤ b
  high_lead b on = by_size (ltb b 0x80) refl
    where
      by_size : (t : Bool) → ltb b 0x80 ≡ t → 0x80 ≤ b
      by_size true q = absurd (true≢false (sym on ∙ good.low b (ltb-true b 0x80 q)))
      by_size false q = ltb-false b 0x80 q

  -- the pairs of a listed lead lie inside a table that fits
  block_fits : (n : Progress) (t : Tables) (lead : ℕ) → is_listed_lead n.leads lead ≡ true → lead_block n lead ≡ leads_below p.classes lead → 256 * count_half n.leads ≤ length t.pairs → 256 * leads_below p.classes lead + 256 ≤ length t.pairs
  unfolding lead_block
  block_fits n t lead listed block room = omega (arith, room, listed_below n.leads lead listed, block)

  whole_front : (n : Progress) (t : Tables) → FitsAll (sizes_listed n) t → (256 ≤ length t.classes) × (256 ≤ length t.index)
  unfolding sizes_listed
  whole_front n t f = (f.classes_fit, f.index_fit)

  pairs_fit : (n : Progress) (t : Tables) → FitsAll (sizes_listed n) t → 256 * count_half n.leads ≤ length t.pairs
  unfolding sizes_listed
  pairs_fit n t f = f.pairs_fit

  lead_kept : (k : ℕ) (n : Progress) (t : Tables) (b : ℕ) → b < 256 → k ≡ 258 + b → is_lead (entry_at p.classes b) ≡ true → 256 * leads_below p.classes b + 256 ≤ length t.pairs → lead_block n b ≡ leads_below p.classes b → Pairs p k t
      → (u : Tables) → u.pairs ≡ filled t.pairs (256 * lead_block n b) 256 0xFFFF → Pairs p (k + 1) u
  lead_kept k n t b small at on long block held u change l c h m lead trail less =
      ap (λ (x : List ℕ). entry_at x (pair_place p l c)) (change ∙ ap (λ (x : ℕ). filled t.pairs (256 * x) 256 0xFFFF) block)
      ∙ by_lead (eqb l b) refl
      ∙ sym (ap (λ (x : Bool). pick x (entry_at p.pairs (pair_place p l c)) 0xFFFF) (le-ltb (770 + (256 * l + c)) (k + 1) (omega arith)))
    where
      by_lead : (x : Bool) → eqb l b ≡ x → entry_at (filled t.pairs (256 * leads_below p.classes b) 256 0xFFFF) (pair_place p l c) ≡ 0xFFFF
      by_lead true q =
          let same : l ≡ b = eqb-true l b q in
          ap (λ (x : ℕ). entry_at (filled t.pairs (256 * leads_below p.classes b) 256 0xFFFF) (pair_place p x c)) same
          ∙ filled_in t.pairs (256 * leads_below p.classes b) 256 0xFFFF c m long
      by_lead false q =
          let lower : l < b = omega (arith, eqb-false l b q) in
          filled_out t.pairs (256 * leads_below p.classes b) 256 0xFFFF (pair_place p l c) (omega (arith, leads_rise p good l b lower (omega arith) lead))
          ∙ held l c h m lead trail (omega arith)
          ∙ ap (λ (x : Bool). pick x (entry_at p.pairs (pair_place p l c)) 0xFFFF) (le-ltb (770 + (256 * l + c)) k (omega arith))

  pair_kept : (k : ℕ) (t u : Tables) (a d : ℕ) → a < 256 → d < 256 → k ≡ 770 + (256 * a + d) → is_lead (entry_at p.classes a) ≡ true → 256 * leads_below p.classes a + 256 ≤ length t.pairs → Pairs p k t
      → u.pairs ≡ set t.pairs (pair_place p a d) (entry_at p.pairs (pair_place p a d)) → Pairs p (k + 1) u
  pair_kept k t u a d x y at on long held change l c h m lead trail less =
      ap (λ (z : List ℕ). entry_at z (pair_place p l c)) change ∙ by_code (eqb l a) refl (eqb c d) refl
    where
      apart : (pair_place p l c ≡ pair_place p a d → ⊥) → (256 * l + c ≡ 256 * a + d → ⊥) → entry_at (set t.pairs (pair_place p a d) (entry_at p.pairs (pair_place p a d))) (pair_place p l c) ≡ pick (ltb (770 + (256 * l + c)) (k + 1)) (entry_at p.pairs (pair_place p l c)) 0xFFFF
      apart ne other =
          get_or-set_other t.pairs (pair_place p a d) (pair_place p l c) (entry_at p.pairs (pair_place p a d)) 0 ne
          ∙ held l c h m lead trail (omega arith)
          ∙ ap (λ (z : Bool). pick z (entry_at p.pairs (pair_place p l c)) 0xFFFF) (sym (ltb_more (770 + (256 * l + c)) k (λ e. other (omega arith))))

      by_order : (z : Bool) → ltb l a ≡ z → (l ≡ a → ⊥) → pair_place p l c ≡ pair_place p a d → ⊥
      by_order true q ne e = omega (arith, leads_rise p good l a (ltb-true l a q) (omega arith) lead)
      by_order false q ne e = omega (arith, leads_rise p good a l (omega (arith, ltb-false l a q)) (omega arith) on)

      by_code : (z : Bool) → eqb l a ≡ z → (w : Bool) → eqb c d ≡ w → entry_at (set t.pairs (pair_place p a d) (entry_at p.pairs (pair_place p a d))) (pair_place p l c) ≡ pick (ltb (770 + (256 * l + c)) (k + 1)) (entry_at p.pairs (pair_place p l c)) 0xFFFF
      by_code true q true r =
          let same : l ≡ a = eqb-true l a q in
          let equal : c ≡ d = eqb-true c d r in
          let place : pair_place p l c ≡ pair_place p a d = ap₂ (pair_place p) same equal in
          ap (λ (z : ℕ). get_or (set t.pairs (pair_place p a d) (entry_at p.pairs (pair_place p a d))) z 0) place
          ∙ get_or-set_same t.pairs (pair_place p a d) (entry_at p.pairs (pair_place p a d)) 0 (omega arith)
          ∙ ap (entry_at p.pairs) (sym place)
          ∙ sym (ap (λ (z : Bool). pick z (entry_at p.pairs (pair_place p l c)) 0xFFFF) (lt-ltb (770 + (256 * l + c)) (k + 1) (omega arith)))
      by_code true q false r = let same : l ≡ a = eqb-true l a q in apart (λ e. eqb-false c d r (omega (arith, ap (leads_below p.classes) same))) (λ e. eqb-false c d r (omega arith))
      by_code false q w r = apart (by_order (ltb l a) refl (eqb-false l a q)) (λ e. eqb-false l a q (omega arith))

  -- ---- every record
  module _ (m : InWidths p) (k : ℕ) (s : Progress) (t : Tables) (late : 2 ≤ k) (most : k < 131842) (b : Before p k s) (sound : Sound s t) (fits : FitsAll (sizes_listed (after_record s (record_at p k))) t) (held : Pairs p k t) (q : is_record (record_at p k) ≡ true) where
    accepted : accepts s (record_at p k) ≡ true
    accepted = ((fine p good m k s b late most).0 q).1.0

    next : Before p (k + 1) (after_record s (record_at p k))
    next = ((fine p good m k s b late most).0 q).1.1

    at_l : (d : ℕ) → d < 256 → k ≡ 258 + d → (x : Bool) → is_lead (entry_at p.classes d) ≡ x → Pairs p (k + 1) (change_of s (record_at p k) t)
    unfolding lead_at
    at_l d h e true on =
        let here : record_at p k ≡ Lead d = ap (record_at p) e ∙ lead_here d h on in
        let before : Before p (k + 1) (after_record s (Lead d)) = subst (λ (r : Record). Before p (k + 1) (after_record s r)) here next in
        let low : Holds (after_record s (Lead d)) (change_of s (Lead d) t) = hold_record s t sound (Lead d) h (ap (accepts s) (sym here) ∙ accepted) (whole_front (after_record s (record_at p k)) t fits).0 (whole_front (after_record s (record_at p k)) t fits).1 in
        let block : lead_block (after_record s (Lead d)) d ≡ leads_below p.classes d = same_block p good (k + 1) (after_record s (Lead d)) before low.low_word d (high_lead d on) h (omega arith) in
        let listed : is_listed_lead (after_record s (Lead d)).leads d ≡ true = before.leads d h ∙ ap₂ (λ (x y : Bool). x && y) (lt-ltb (258 + d) (k + 1) (omega arith)) on in
        lead_kept k (after_record s (Lead d)) t d h e on (block_fits (after_record s (Lead d)) t d listed block (pairs_fit (after_record s (Lead d)) t (subst (λ (r : Record). FitsAll (sizes_listed (after_record s r)) t) here fits))) block held (change_of s (record_at p k) t) (ap (λ (r : Record). (change_of s r t).pairs) here)
    at_l d h e false on =
        let none : record_at p k ≡ NoRecord = ap (record_at p) e ∙ at_lead d h ∙ rw on in
        absurd (false≢true (sym (ap is_record none) ∙ q))

    at_m : (a d : ℕ) → a < 256 → d < 256 → k ≡ 770 + (256 * a + d) → (x : Bool) → is_lead (entry_at p.classes a) ≡ x → (y : Bool) → is_trail (entry_at p.classes d) ≡ y
        → (z : Bool) → eqb (entry_at p.pairs (pair_place p a d)) 0xFFFF ≡ z → Pairs p (k + 1) (change_of s (record_at p k) t)
    unfolding pair_at
    at_m a d h l e true on true trail false some =
        let here : record_at p k ≡ Pair (256 * a + d) (entry_at p.pairs (pair_place p a d)) = ap (record_at p) e ∙ pair_here a d h l on trail ∙ rw some in
        let block : lead_block s a ≡ leads_below p.classes a = same_block p good k s b (sound (omega (arith, b.late))).holds.low_word a (high_lead a on) h (omega arith) in
        let x : (256 * a + d) / 256 ≡ a = omega arith in
        let y : (256 * a + d) % 256 ≡ d = omega arith in
        let place : 256 * lead_block s ((256 * a + d) / 256) + (256 * a + d) % 256 ≡ pair_place p a d = ap₂ (λ (i j : ℕ). 256 * lead_block s i + j) x y ∙ ap (λ (n : ℕ). 256 * n + d) block in
        let listed : is_listed_lead s.leads a ≡ true = b.leads a h ∙ ap₂ (λ (x y : Bool). x && y) (lt-ltb (258 + a) k (omega arith)) on in
        pair_kept k t (change_of s (record_at p k) t) a d h l e on (block_fits s t a listed block (pairs_fit (after_record s (Pair (256 * a + d) (entry_at p.pairs (pair_place p a d)))) t (subst (λ (r : Record). FitsAll (sizes_listed (after_record s r)) t) here fits))) held
        (ap (λ (r : Record). (change_of s r t).pairs) here ∙ ap (λ (n : ℕ). set t.pairs n (entry_at p.pairs (pair_place p a d))) place)
    at_m a d h l e true on true trail true some =
        let none : record_at p k ≡ NoRecord = ap (record_at p) e ∙ pair_here a d h l on trail ∙ rw some in
        absurd (false≢true (sym (ap is_record none) ∙ q))
    at_m a d h l e true on false trail z some =
        let x : (256 * a + d) / 256 ≡ a = omega arith in
        let y : (256 * a + d) % 256 ≡ d = omega arith in
        let none : record_at p k ≡ NoRecord = ap (record_at p) e ∙ at_pair (256 * a + d) (omega arith) ∙ rw (x, y, on, trail) in
        absurd (false≢true (sym (ap is_record none) ∙ q))
    at_m a d h l e false on y trail z some =
        let x : (256 * a + d) / 256 ≡ a = omega arith in
        let none : record_at p k ≡ NoRecord = ap (record_at p) e ∙ at_pair (256 * a + d) (omega arith) ∙ rw (x, on) in
        absurd (false≢true (sym (ap is_record none) ∙ q))

    leaves_pick : (x : Bool) (v w : Record) → (change_of s v t).pairs ≡ t.pairs → (change_of s w t).pairs ≡ t.pairs → (change_of s (pick x v w) t).pairs ≡ t.pairs
    leaves_pick true v w e f = e
    leaves_pick false v w e f = f

    zero_not : eqb k 0 ≡ false
    zero_not = ne_eqb k 0 (λ e. omega arith)

    one_not : eqb k 1 ≡ false
    one_not = ne_eqb k 1 (λ e. omega arith)

    same_single : (d : ℕ) → d < 256 → k ≡ 2 + d → (change_of s (record_at p k) t).pairs ≡ t.pairs
    unfolding record_at single_at
    same_single d h e = rw (zero_not, one_not, lt-ltb k 258 (omega arith)) (leaves_pick (is_single (entry_at p.classes (k - 2))) _ _ refl refl)

    same_trail : ltb k 258 ≡ false → ltb k 514 ≡ false → ltb k 770 ≡ true → (change_of s (record_at p k) t).pairs ≡ t.pairs
    unfolding record_at trail_at
    same_trail x y z = rw (zero_not, one_not, x, y, z) (leaves_pick (is_trail (entry_at p.classes (k - 514))) _ _ refl refl)

    same_code : ltb k 258 ≡ false → ltb k 514 ≡ false → ltb k 770 ≡ false → ltb k 66306 ≡ false → (change_of s (record_at p k) t).pairs ≡ t.pairs
    unfolding record_at code_at
    same_code x y z w = rw (zero_not, one_not, x, y, z, w) (leaves_pick (eqb (entry_at p.blocks (256 * entry_at p.index ((k - 66306) / 256) + (k - 66306) % 256)) 0xFFFF) _ _ refl refl)

    -- where there is one
    pub pairs_record : Pairs p (k + 1) (change_of s (record_at p k) t)
    pairs_record = by_size (ltb k 258) refl (ltb k 514) refl (ltb k 770) refl (ltb k 66306) refl
      where
        by_size : (x : Bool) → ltb k 258 ≡ x → (y : Bool) → ltb k 514 ≡ y → (z : Bool) → ltb k 770 ≡ z → (w : Bool) → ltb k 66306 ≡ w → Pairs p (k + 1) (change_of s (record_at p k) t)
        by_size true x b1 y b2 z b3 w = outside k t (change_of s (record_at p k) t) (same_single (k - 2) (omega (arith, ltb-true k 258 x)) (omega arith)) (λ l h e. omega (arith, ltb-true k 258 x)) (λ c h e. omega (arith, ltb-true k 258 x)) held
        by_size false x true y b2 z b3 w = at_l (k - 258) (omega (arith, ltb-true k 514 y)) (omega (arith, ltb-false k 258 x)) (is_lead (entry_at p.classes (k - 258))) refl
        by_size false x false y true z b3 w = outside k t (change_of s (record_at p k) t) (same_trail x y z) (λ l h e. omega (arith, ltb-false k 514 y)) (λ c h e. omega (arith, ltb-true k 770 z)) held
        by_size false x false y false z true w =
            at_m ((k - 770) / 256) ((k - 770) % 256) (omega (arith, ltb-true k 66306 w)) (omega arith) (omega (arith, ltb-false k 770 z))
            (is_lead (entry_at p.classes ((k - 770) / 256))) refl (is_trail (entry_at p.classes ((k - 770) % 256))) refl (eqb (entry_at p.pairs (pair_place p ((k - 770) / 256) ((k - 770) % 256))) 0xFFFF) refl
        by_size false x false y false z false w = outside k t (change_of s (record_at p k) t) (same_code x y z w) (λ l h e. omega (arith, ltb-false k 66306 w)) (λ c h e. omega (arith, ltb-false k 66306 w)) held

-- the characters of pairs are kept
pub pairs_keep : (p : CodePage) → GoodShape p → InWidths p → Keeps p (Pairs p)
pairs_keep p good m =
    record {
      starts = λ s page t fits l c h k lead trail less. absurd (omega arith);
      record_kept = λ k s t l h b sound fits held q. pairs_record p good m k s t l h b sound fits held q;
      none_kept = λ k t l h held q. pairs_none p good k t held q;
    }
