-- Each record that is accepted from `S` on: the record of its place is it, and no other place changes.
use mathlib.Core.Bool.{Bool, true, false, not, ◌&&◌, true≢false}
use mathlib.Core.List.{List}
use mathlib.Core.Path.{◌≡◌, refl, sym, ap, ◌∙◌}
use Prim.Native.Nat.{ℕ, suc, ◌+◌, ◌-◌, ◌*◌, ◌/◌, ◌%◌, ◌≤◌, ◌<◌}
use native.Mathlib.Omega.{arith}
use lib.Dec.{leb, ltb, eqb}
use lib.ListN.{length}
use lib.Seq.{get_or-set_same, get_or-set_other}
use borrow.Author.Tests.{leb-true, ltb-true, ltb-false, eqb-true, eqb-false, eq-eqb, ne_eqb, not-true}
use Rattle.codepage.specs.CodePage.{entry_at, is_single, is_lead, is_trail, leads_below}
use Rattle.codepage.proofs.ShapeLaws.{and_left, and_right}
use Rattle.codepage_lookup.specs.Profile.{unit_entry}
use Rattle.listing.specs.declared.Progress.{Progress}
use Rattle.listing.specs.declared.Letter.TheVariants.{S, L, T, M, W}
use Rattle.listing.specs.declared.Record.{Record}
use Rattle.listing.specs.declared.Record.TheVariants.{Single, Lead, Trail, Pair, Code, NoRecord}
use Rattle.listing.specs.Sets.{in_bytes, count_half}
use Rattle.listing.specs.Order.{rank, follows, is_listed_lead, with_lead, accepts, after_record}
use Rattle.listing.specs.Tables.{Tables, lead_block, change_of}
use Rattle.listing.proofs.TableLaws.{listed_below}
use Rattle.lister.specs.Lister.{single_at, lead_at, trail_at, pair_at, code_at, record_at, is_record}
use Rattle.listing_laws.proofs.BitLaws.{tally, tally_same, bytes_other, lead_other}
use Rattle.listing_laws.proofs.FilledLaws.{filled_in, filled_out}
use Rattle.listing_laws.proofs.NumberLaws.{tally_rise, tally_next}
use Rattle.listing_laws.proofs.HoldLaws.{Holds, follows_order, follows_key, lead_follows, pair_follows}
use Rattle.listing_laws.proofs.CodeLaws.{OneCode}
use Rattle.listing_laws.proofs.WholeLaws.{leads_tally, same_sizes}
use Rattle.listing_laws.proofs.RoundLaws.{bytes_with, lead_with}
use Rattle.listing_laws.proofs.SingleLaws.{at_single}
use Rattle.listing_laws.proofs.BlockLaws.{below_tally, listed_tally}
use Rattle.listing_laws.proofs.UnitLaws.{at_code}
use Rattle.listing_laws.proofs.PutLaws.{set_of, last_place, place_of, KeyIn, order_S, order_L, order_T, order_M, order_W, at_lead, at_trail, at_pair, PartsBut, by_parts, lead_test, trail_test, single_test, block_as, listed_from_80, single_part, lead_part, trail_part, pair_part, pair_none, pair_empty, code_part}

-- What stands once `D` was read: no record behind the last one, and no character in the pairs before the first `M`.
pub record Standing (s : Progress) (t : Tables) : Type 0 where
  pub late : 2 ≤ rank s.letter
  pub key : KeyIn s.letter s.key
  pub behind : (k : ℕ) → last_place s < k → 2 ≤ k → k < 131842 → record_at (set_of s t) k ≡ NoRecord
  pub empty : rank s.letter ≤ 5 → (l c : ℕ) → l < 256 → c < 256 → is_listed_lead s.leads l ≡ true → entry_at t.pairs (256 * lead_block s l + c) ≡ 0xFFFF

-- a record put at its place
pub record Put (s : Progress) (t : Tables) (r : Record) : Type 0 where
  pub order : last_place s < place_of r
  pub others : (k : ℕ) → 2 ≤ k → k < 131842 → (k ≡ place_of r → ⊥) → record_at (set_of (after_record s r) (change_of s r t)) k ≡ record_at (set_of s t) k
  pub here : record_at (set_of (after_record s r) (change_of s r t)) (place_of r) ≡ r

-- leads below a lead, by the tests
pub below_same : (classes classes' : List ℕ) → 256 ≤ length classes → 256 ≤ length classes' → ((i : ℕ) → i < 256 → is_lead (entry_at classes' i) ≡ is_lead (entry_at classes i)) → (l : ℕ) → l < 256 → leads_below classes' l ≡ leads_below classes l
unfolding leads_below
below_same classes classes' long long' same l h =
    leads_tally classes' l (omega arith)
    ∙ tally_same (λ i. is_lead (entry_at classes' i)) (λ i. is_lead (entry_at classes i)) l (λ i m. same i (omega arith))
    ∙ sym (leads_tally classes l (omega arith))

below_rise : (classes : List ℕ) → 256 ≤ length classes → (l g : ℕ) → l < g → g < 256 → is_lead (entry_at classes l) ≡ true → leads_below classes l + 1 ≤ leads_below classes g
unfolding leads_below
below_rise classes long l g h m on =
    omega (arith, leads_tally classes l (omega arith), leads_tally classes g (omega arith), tally_next (λ i. is_lead (entry_at classes i)) l on, tally_rise (λ i. is_lead (entry_at classes i)) (suc l) g (omega arith))

-- two leads with as many below them are one
below_one : (classes : List ℕ) → 256 ≤ length classes → (l g : ℕ) → l < 256 → g < 256 → is_lead (entry_at classes l) ≡ true → is_lead (entry_at classes g) ≡ true → leads_below classes l ≡ leads_below classes g → l ≡ g
below_one classes long l g h k on on' e = by_order (eqb l g) refl (ltb l g) refl
  where
    by_order : (a : Bool) → eqb l g ≡ a → (b : Bool) → ltb l g ≡ b → l ≡ g
    by_order true q b w = eqb-true l g q
    by_order false q true w = absurd (omega (arith, e, below_rise classes long l g (ltb-true l g w) k on))
    by_order false q false w = absurd (omega (arith, e, below_rise classes long g l (omega (arith, eqb-false l g q, ltb-false l g w)) h on'))

module _ (s : Progress) (t : Tables) (held : Holds s t) (st : Standing s t) (long : 256 ≤ length t.classes) where
  -- a listed lead or second byte stands at a place that was read
  lead_before : (c : ℕ) → c < 256 → is_lead (entry_at t.classes c) ≡ true → 258 + c ≤ last_place s
  unfolding lead_at
  lead_before c h on = by_order (ltb (last_place s) (258 + c)) refl
    where
      here : record_at (set_of s t) (258 + c) ≡ Lead c
      here = at_lead (set_of s t) c h ∙ rw on

      by_order : (b : Bool) → ltb (last_place s) (258 + c) ≡ b → 258 + c ≤ last_place s
      by_order true q = absurd (true≢false (sym (ap is_record here) ∙ ap is_record (st.behind (258 + c) (ltb-true (last_place s) (258 + c) q) (omega arith) (omega arith))))
      by_order false q = ltb-false (last_place s) (258 + c) q

  trail_before : (c : ℕ) → c < 256 → is_trail (entry_at t.classes c) ≡ true → 514 + c ≤ last_place s
  unfolding trail_at
  trail_before c h on = by_order (ltb (last_place s) (514 + c)) refl
    where
      here : record_at (set_of s t) (514 + c) ≡ Trail c
      here = at_trail (set_of s t) c h ∙ rw on

      by_order : (b : Bool) → ltb (last_place s) (514 + c) ≡ b → 514 + c ≤ last_place s
      by_order true q = absurd (true≢false (sym (ap is_record here) ∙ ap is_record (st.behind (514 + c) (ltb-true (last_place s) (514 + c) q) (omega arith) (omega arith))))
      by_order false q = ltb-false (last_place s) (514 + c) q

  no_lead : (c : ℕ) → c < 256 → last_place s < 258 + c → is_listed_lead s.leads c ≡ false
  no_lead c h less = by_lead (is_listed_lead s.leads c) refl
    where
      by_lead : (b : Bool) → is_listed_lead s.leads c ≡ b → is_listed_lead s.leads c ≡ false
      by_lead true q = absurd (omega (arith, lead_before c h (lead_test s t held c h ∙ q)))
      by_lead false q = q

  no_trail : (c : ℕ) → c < 256 → last_place s < 514 + c → in_bytes s.trails c ≡ false
  no_trail c h less = by_trail (in_bytes s.trails c) refl
    where
      by_trail : (b : Bool) → in_bytes s.trails c ≡ b → in_bytes s.trails c ≡ false
      by_trail true q = absurd (omega (arith, trail_before c h (trail_test s t held c h ∙ q)))
      by_trail false q = q

  -- ---- `S`
  module _ (byte unit : ℕ) (small : byte < 256) (e : accepts s (Single byte unit) ≡ true) (held' : Holds (after_record s (Single byte unit)) (change_of s (Single byte unit) t)) (wide : 256 ≤ length t.singles) where
    abbrev s₁ : Progress
    s₁ = after_record s (Single byte unit)

    abbrev t₁ : Tables
    t₁ = change_of s (Single byte unit) t

    single_order : last_place s < 2 + byte
    single_order = order_S s.letter s.key byte st.key st.late (follows_order s S byte e) (follows_key s S byte e)

    single_leads : (c : ℕ) → c < 256 → is_lead (entry_at t₁.classes c) ≡ is_lead (entry_at t.classes c)
    single_leads c h = lead_test s₁ t₁ held' c h ∙ sym (lead_test s t held c h)

    single_trails : (c : ℕ) → c < 256 → is_trail (entry_at t₁.classes c) ≡ is_trail (entry_at t.classes c)
    single_trails c h = trail_test s₁ t₁ held' c h ∙ sym (trail_test s t held c h)

    single_on : is_single (entry_at t₁.classes byte) ≡ true
    single_on = single_test s₁ t₁ held' byte small ∙ rw (no_lead byte small (omega (arith, single_order)), bytes_with s.singles byte)

    single_here : record_at (set_of s₁ t₁) (2 + byte) ≡ Single byte unit
    unfolding single_at
    single_here = at_single (set_of s₁ t₁) byte small ∙ rw (single_on, get_or-set_same t.singles byte unit 0 (omega arith))

    single_parts : PartsBut (set_of s t) (set_of s₁ t₁) (2 + byte)
    single_parts =
        record {
          singles = λ c h ne.
              let other : c ≡ byte → ⊥ = λ x. ne (omega arith) in
              single_part t.classes t.singles t₁.classes t₁.singles c
              (single_test s₁ t₁ held' c h ∙ ap (λ (x : Bool). not (is_listed_lead s.leads c) && x) (bytes_other s.singles byte c other) ∙ sym (single_test s t held c h))
              (get_or-set_other t.singles byte c unit 0 other);
          leads = λ c h ne. lead_part t.classes t₁.classes c (single_leads c h);
          trails = λ c h ne. trail_part t.classes t₁.classes c (single_trails c h);
          pairs = λ c h ne.
              pair_part t.classes t.pairs t₁.classes t.pairs c (single_leads (c / 256) (omega arith)) (single_trails (c % 256) (omega arith))
              (λ on. ap (λ (n : ℕ). entry_at t.pairs (256 * n + c % 256)) (below_same t.classes t₁.classes long (omega (arith, (same_sizes s (Single byte unit) t).classes)) single_leads (c / 256) (omega arith)));
          codes = λ c h ne. refl;
        }

    -- an `S` is put at its place
    pub put_single : Put s t (Single byte unit)
    put_single = record { order = single_order; others = by_parts (set_of s t) (set_of s₁ t₁) (2 + byte) single_parts; here = single_here }

  -- ---- `T`
  module _ (byte : ℕ) (small : byte < 256) (e : accepts s (Trail byte) ≡ true) (held' : Holds (after_record s (Trail byte)) (change_of s (Trail byte) t)) where
    abbrev s₂ : Progress
    s₂ = after_record s (Trail byte)

    abbrev t₂ : Tables
    t₂ = change_of s (Trail byte) t

    trail_order : last_place s < 514 + byte
    trail_order = order_T s.letter s.key byte st.key st.late (follows_order s T byte e) (follows_key s T byte e)

    trail_leads : (c : ℕ) → c < 256 → is_lead (entry_at t₂.classes c) ≡ is_lead (entry_at t.classes c)
    trail_leads c h = lead_test s₂ t₂ held' c h ∙ sym (lead_test s t held c h)

    trail_others : (c : ℕ) → c < 256 → (c ≡ byte → ⊥) → is_trail (entry_at t₂.classes c) ≡ is_trail (entry_at t.classes c)
    trail_others c h ne = trail_test s₂ t₂ held' c h ∙ bytes_other s.trails byte c ne ∙ sym (trail_test s t held c h)

    trail_on : is_trail (entry_at t₂.classes byte) ≡ true
    trail_on = trail_test s₂ t₂ held' byte small ∙ bytes_with s.trails byte

    trail_here : record_at (set_of s₂ t₂) (514 + byte) ≡ Trail byte
    unfolding trail_at
    trail_here = at_trail (set_of s₂ t₂) byte small ∙ rw trail_on

    trail_below : (l : ℕ) → l < 256 → leads_below t₂.classes l ≡ leads_below t.classes l
    trail_below = below_same t.classes t₂.classes long (omega (arith, (same_sizes s (Trail byte) t).classes)) trail_leads

    -- the pairs with it have no character yet
    trail_pairs : (c : ℕ) → c < 65536 → pair_at t₂.classes t.pairs c ≡ pair_at t.classes t.pairs c
    trail_pairs c h = by_byte (eqb (c % 256) byte) refl
      where
        by_byte : (b : Bool) → eqb (c % 256) byte ≡ b → pair_at t₂.classes t.pairs c ≡ pair_at t.classes t.pairs c
        by_byte true q =
            let same : c % 256 ≡ byte = eqb-true (c % 256) byte q in
            pair_empty t₂.classes t.pairs c (λ on.
            let listed : is_listed_lead s.leads (c / 256) ≡ true = sym (lead_test s₂ t₂ held' (c / 256) (omega arith)) ∙ on in
            ap (λ (n : ℕ). entry_at t.pairs (256 * n + c % 256)) (trail_below (c / 256) (omega arith) ∙ sym (block_as s t held (c / 256) (listed_from_80 s.leads (c / 256) listed) (omega arith) long))
            ∙ st.empty (follows_order s T byte e) (c / 256) (c % 256) (omega arith) (omega arith) listed)
            ∙ sym (pair_none t.classes t.pairs c (trail_test s t held (c % 256) (omega arith) ∙ no_trail (c % 256) (omega arith) (omega (arith, trail_order))))
        by_byte false q =
            pair_part t.classes t.pairs t₂.classes t.pairs c (trail_leads (c / 256) (omega arith)) (trail_others (c % 256) (omega arith) (eqb-false (c % 256) byte q))
            (λ on. ap (λ (n : ℕ). entry_at t.pairs (256 * n + c % 256)) (trail_below (c / 256) (omega arith)))

    trail_parts : PartsBut (set_of s t) (set_of s₂ t₂) (514 + byte)
    trail_parts =
        record {
          singles = λ c h ne. single_part t.classes t.singles t₂.classes t.singles c (single_test s₂ t₂ held' c h ∙ sym (single_test s t held c h)) refl;
          leads = λ c h ne. lead_part t.classes t₂.classes c (trail_leads c h);
          trails = λ c h ne. trail_part t.classes t₂.classes c (trail_others c h (λ x. ne (omega arith)));
          pairs = λ c h ne. trail_pairs c h;
          codes = λ c h ne. refl;
        }

    -- a `T` is put at its place
    pub put_trail : Put s t (Trail byte)
    put_trail = record { order = trail_order; others = by_parts (set_of s t) (set_of s₂ t₂) (514 + byte) trail_parts; here = trail_here }

  -- ---- `L`
  module _ (byte : ℕ) (small : byte < 256) (e : accepts s (Lead byte) ≡ true) (held' : Holds (after_record s (Lead byte)) (change_of s (Lead byte) t)) where
    abbrev s₃ : Progress
    s₃ = after_record s (Lead byte)

    abbrev t₃ : Tables
    t₃ = change_of s (Lead byte) t

    lead_order : last_place s < 258 + byte
    lead_order = order_L s.letter s.key byte st.key st.late (follows_order s L byte (lead_follows s byte e)) (follows_key s L byte (lead_follows s byte e))

    lead_high : 0x80 ≤ byte
    lead_high = leb-true 0x80 byte (and_right (follows s L byte) (leb 0x80 byte) (and_left (follows s L byte && leb 0x80 byte) (not (in_bytes s.singles byte)) e))

    lead_single : in_bytes s.singles byte ≡ false
    lead_single = not-true (in_bytes s.singles byte) (and_right (follows s L byte && leb 0x80 byte) (not (in_bytes s.singles byte)) e)

    lead_on : is_lead (entry_at t₃.classes byte) ≡ true
    lead_on = lead_test s₃ t₃ held' byte small ∙ lead_with s.leads byte lead_high

    lead_here : record_at (set_of s₃ t₃) (258 + byte) ≡ Lead byte
    unfolding lead_at
    lead_here = at_lead (set_of s₃ t₃) byte small ∙ rw lead_on

    lead_singles : (c : ℕ) → c < 256 → is_single (entry_at t₃.classes c) ≡ is_single (entry_at t.classes c)
    lead_singles c h = single_test s₃ t₃ held' c h ∙ by_byte (eqb c byte) refl ∙ sym (single_test s t held c h)
      where
        none : (b : Bool) → (b && false) ≡ false
        none true = refl
        none false = refl

        by_byte : (b : Bool) → eqb c byte ≡ b → (not (is_listed_lead (with_lead s.leads byte) c) && in_bytes s.singles c) ≡ (not (is_listed_lead s.leads c) && in_bytes s.singles c)
        by_byte true q =
            let off : in_bytes s.singles c ≡ false = ap (in_bytes s.singles) (eqb-true c byte q) ∙ lead_single in
            ap (λ (x : Bool). not (is_listed_lead (with_lead s.leads byte) c) && x) off ∙ none (not (is_listed_lead (with_lead s.leads byte) c))
            ∙ sym (ap (λ (x : Bool). not (is_listed_lead s.leads c) && x) off ∙ none (not (is_listed_lead s.leads c)))
        by_byte false q = ap (λ (x : Bool). not x && in_bytes s.singles c) (lead_other s.leads byte c (eqb-false c byte q))

    lead_parts : PartsBut (set_of s t) (set_of s₃ t₃) (258 + byte)
    lead_parts =
        record {
          singles = λ c h ne. single_part t.classes t.singles t₃.classes t.singles c (lead_singles c h) refl;
          leads = λ c h ne. lead_part t.classes t₃.classes c (lead_test s₃ t₃ held' c h ∙ lead_other s.leads byte c (λ x. ne (omega arith)) ∙ sym (lead_test s t held c h));
          trails = λ c h ne. trail_part t.classes t₃.classes c (trail_test s₃ t₃ held' c h ∙ sym (trail_test s t held c h));
          pairs = λ c h ne.
              let off : in_bytes s.trails (c % 256) ≡ false = no_trail (c % 256) (omega arith) (omega (arith, lead_order)) in
              pair_none t₃.classes t₃.pairs c (trail_test s₃ t₃ held' (c % 256) (omega arith) ∙ off)
              ∙ sym (pair_none t.classes t.pairs c (trail_test s t held (c % 256) (omega arith) ∙ off));
          codes = λ c h ne. refl;
        }

    -- an `L` is put at its place
    pub put_lead : Put s t (Lead byte)
    put_lead = record { order = lead_order; others = by_parts (set_of s t) (set_of s₃ t₃) (258 + byte) lead_parts; here = lead_here }

    -- its pairs are empty, and those of the leads before it are as they were
    count_as : (n : Progress) (u : Tables) → Holds n u → (l : ℕ) → 0x80 ≤ l → lead_block n l ≡ tally (is_listed_lead n.leads) l
    unfolding lead_block
    count_as n u x l h = below_tally n.leads x.low_word (l - 0x80) ∙ listed_tally n.leads l h

    -- the pairs of every listed lead are empty behind an `L`
    pub empty_lead : 256 * count_half s₃.leads ≤ length t.pairs → (l c : ℕ) → l < 256 → c < 256 → is_listed_lead s₃.leads l ≡ true → entry_at t₃.pairs (256 * lead_block s₃ l + c) ≡ 0xFFFF
    unfolding lead_block
    empty_lead room l c h k listed = by_byte (eqb l byte) refl
      where
        by_byte : (b : Bool) → eqb l byte ≡ b → entry_at t₃.pairs (256 * lead_block s₃ l + c) ≡ 0xFFFF
        by_byte true q =
            let same : l ≡ byte = eqb-true l byte q in
            ap (λ (n : ℕ). entry_at t₃.pairs (256 * lead_block s₃ n + c)) same
            ∙ filled_in t.pairs (256 * lead_block s₃ byte) 256 0xFFFF c k (omega (arith, room, listed_below s₃.leads byte (lead_with s.leads byte lead_high)))
        by_byte false q =
            let ne : l ≡ byte → ⊥ = eqb-false l byte q in
            let before : is_listed_lead s.leads l ≡ true = sym (lead_other s.leads byte l ne) ∙ listed in
            let less : l < byte = omega (arith, lead_before l h (lead_test s t held l h ∙ before), lead_order) in
            let high : 0x80 ≤ l = listed_from_80 s.leads l before in
            let same : lead_block s₃ l ≡ lead_block s l = count_as s₃ t₃ held' l high ∙ tally_same (is_listed_lead s₃.leads) (is_listed_lead s.leads) l (λ i m. lead_other s.leads byte i (λ x. omega arith)) ∙ sym (count_as s t held l high) in
            let lower : lead_block s₃ l + 1 ≤ lead_block s₃ byte = omega (arith, count_as s₃ t₃ held' l high, count_as s₃ t₃ held' byte lead_high, tally_next (is_listed_lead s₃.leads) l listed, tally_rise (is_listed_lead s₃.leads) (suc l) byte (omega arith)) in
            filled_out t.pairs (256 * lead_block s₃ byte) 256 0xFFFF (256 * lead_block s₃ l + c) (omega arith)
            ∙ ap (λ (n : ℕ). entry_at t.pairs (256 * n + c)) same
            ∙ st.empty (omega (arith, follows_order s L byte (lead_follows s byte e))) l c h k before

  -- ---- `M`
  module _ (code unit : ℕ) (small : code < 65536) (some : eqb unit 0xFFFF ≡ false) (e : accepts s (Pair code unit) ≡ true) (room : 256 * count_half s.leads ≤ length t.pairs) where
    pair_order : last_place s < 770 + code
    pair_order = order_M s.letter s.key code st.key st.late (follows_order s M code (pair_follows s code unit e)) (follows_key s M code (pair_follows s code unit e))

    pair_lead : is_listed_lead s.leads (code / 256) ≡ true
    pair_lead = and_right (follows s M code) (is_listed_lead s.leads (code / 256)) (and_left (follows s M code && is_listed_lead s.leads (code / 256)) (in_bytes s.trails (code % 256)) e)

    pair_trail : in_bytes s.trails (code % 256) ≡ true
    pair_trail = and_right (follows s M code && is_listed_lead s.leads (code / 256)) (in_bytes s.trails (code % 256)) e

    abbrev t₄ : Tables
    t₄ = change_of s (Pair code unit) t

    abbrev s₄ : Progress
    s₄ = after_record s (Pair code unit)

    block_here : lead_block s (code / 256) ≡ leads_below t.classes (code / 256)
    block_here = block_as s t held (code / 256) (listed_from_80 s.leads (code / 256) pair_lead) (omega arith) long

    lead_there : is_lead (entry_at t.classes (code / 256)) ≡ true
    lead_there = lead_test s t held (code / 256) (omega arith) ∙ pair_lead

    pair_inside : 256 * lead_block s (code / 256) + code % 256 < length t.pairs
    unfolding lead_block
    pair_inside = omega (arith, room, listed_below s.leads (code / 256) pair_lead)

    pair_value : entry_at t₄.pairs (256 * leads_below t.classes (code / 256) + code % 256) ≡ unit
    pair_value = ap (λ (n : ℕ). entry_at t₄.pairs (256 * n + code % 256)) (sym block_here) ∙ get_or-set_same t.pairs (256 * lead_block s (code / 256) + code % 256) unit 0 pair_inside

    pair_here : record_at (set_of s₄ t₄) (770 + code) ≡ Pair code unit
    unfolding pair_at
    pair_here = at_pair (set_of s₄ t₄) code small ∙ rw (lead_there, trail_test s t held (code % 256) (omega arith) ∙ pair_trail, pair_value, some)

    pair_others : (c : ℕ) → c < 65536 → (c ≡ code → ⊥) → pair_at t.classes t₄.pairs c ≡ pair_at t.classes t.pairs c
    pair_others c h ne =
        pair_part t.classes t.pairs t.classes t₄.pairs c refl refl
        (λ on. get_or-set_other t.pairs (256 * lead_block s (code / 256) + code % 256) (256 * leads_below t.classes (c / 256) + c % 256) unit 0 (λ x. apart on x))
      where
        apart : is_lead (entry_at t.classes (c / 256)) ≡ true → 256 * leads_below t.classes (c / 256) + c % 256 ≡ 256 * lead_block s (code / 256) + code % 256 → ⊥
        apart on x =
            let low : c % 256 ≡ code % 256 = omega arith in
            let high : leads_below t.classes (c / 256) ≡ leads_below t.classes (code / 256) = omega (arith, block_here) in
            let lead : c / 256 ≡ code / 256 = below_one t.classes long (c / 256) (code / 256) (omega arith) (omega arith) on lead_there high in
            ne (omega arith)

    pair_parts : PartsBut (set_of s t) (set_of s₄ t₄) (770 + code)
    pair_parts =
        record {
          singles = λ c h ne. refl;
          leads = λ c h ne. refl;
          trails = λ c h ne. refl;
          pairs = λ c h ne. pair_others c h (λ x. ne (omega arith));
          codes = λ c h ne. refl;
        }

    -- an `M` is put at its place
    pub put_pair : Put s t (Pair code unit)
    put_pair = record { order = pair_order; others = by_parts (set_of s t) (set_of s₄ t₄) (770 + code) pair_parts; here = pair_here }

  -- ---- `W`
  module _ (unit code : ℕ) (small : unit < 65536) (some : eqb code 0xFFFF ≡ false) (e : accepts s (Code unit code) ≡ true) (one : OneCode t (change_of s (Code unit code) t) unit code) where
    abbrev t₅ : Tables
    t₅ = change_of s (Code unit code) t

    abbrev s₅ : Progress
    s₅ = after_record s (Code unit code)

    code_order : last_place s < 66306 + unit
    code_order = order_W s.letter s.key unit st.key st.late (follows_order s W unit e) (follows_key s W unit e)

    code_value : unit_entry t₅.index t₅.blocks unit ≡ code
    code_value = one unit small ∙ rw (eq-eqb unit unit refl)

    code_there : record_at (set_of s₅ t₅) (66306 + unit) ≡ Code unit code
    unfolding code_at
    code_there = at_code (set_of s₅ t₅) unit ∙ rw (code_value, some)

    code_parts : PartsBut (set_of s t) (set_of s₅ t₅) (66306 + unit)
    code_parts =
        record {
          singles = λ c h ne. refl;
          leads = λ c h ne. refl;
          trails = λ c h ne. refl;
          pairs = λ c h ne. refl;
          codes = λ c h ne. code_part t.index t.blocks t₅.index t₅.blocks c (one c h ∙ rw (ne_eqb c unit (λ x. ne (omega arith))));
        }

    -- a `W` is put at its place
    pub put_code : Put s t (Code unit code)
    put_code = record { order = code_order; others = by_parts (set_of s t) (set_of s₅ t₅) (66306 + unit) code_parts; here = code_there }
