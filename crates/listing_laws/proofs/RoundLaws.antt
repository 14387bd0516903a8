-- A whole listing of a good table set is accepted, line by line.
use mathlib.Core.Bool.{Bool, true, false, not, ◌&&◌, ◌||◌, false≢true, true≢false}
use mathlib.Core.List.{List, ◌∷◌}
use mathlib.Core.Path.{◌≡◌, refl, sym, ap, ap₂, ◌∙◌, subst}
use Prim.Native.Nat.{ℕ, zero, suc, ◌+◌, ◌-◌, ◌*◌, ◌/◌, ◌%◌, ◌≤◌, ◌<◌}
use native.Mathlib.Numerals.{add-one}
use native.Mathlib.Omega.{arith}
use lib.Count.{ones, ones-le}
use lib.Dec.{leb, ltb, eqb}
use lib.ListN.{length}
use borrow.Author.Tests.{lt-ltb, le-ltb, ltb-true, ltb-false, le-leb, lt-leb, eqb-true, eqb-false, eq-eqb, ne_eqb}
use Rattle.codepage.specs.CodePage.{CodePage, GoodShape, pick, entry_at, is_known, is_single, is_lead, is_trail, leads_below}
use Rattle.listing.specs.declared.Half.{Half}
use Rattle.listing.specs.declared.Bytes.{Bytes}
use Rattle.listing.specs.declared.Progress.{Progress}
use Rattle.listing.specs.declared.Letter.{Letter}
use Rattle.listing.specs.declared.Letter.TheVariants.{Start, P, D, S, L, T, M, W}
use Rattle.listing.specs.declared.Record.{Record}
use Rattle.listing.specs.declared.Record.TheVariants.{Page, Defaults, Single, Lead, Trail, Pair, Code, NoRecord}
use Rattle.listing.specs.Sets.{in_bytes, add_to_bytes, count_half}
use Rattle.listing.specs.Order.{rank, follows, is_listed_lead, with_lead, accepts, after_record}
use Rattle.listing.proofs.SetLaws.{half_with}
use Rattle.codepage.specs.declared.Sizes.{Sizes}
use Rattle.listing.specs.declared.Refusal.TheVariants.{TooSmall}
use Rattle.std.specs.declared.result.Result.TheVariants.{Ok, Err}
use Rattle.listing.specs.Steps.{Fits}
use Rattle.listing.proofs.ChangeLaws.{fit_known}
use Rattle.listing.specs.Form.{record_of, unless_none}
use Rattle.listing.specs.Order.{blocks_listed, sizes_listed, after_page, class_of}
use Rattle.listing.specs.Tables.{Tables, change_of, tables_fit, Reading, reading_as, read_record, line_reading}
use Rattle.listing.specs.Whole.{read_all, then_read}
use Rattle.lister.specs.Lines.{record_line}
use Rattle.lister.specs.Lister.{places, single_at, lead_at, trail_at, pair_at, code_at, record_at, is_record}
use Rattle.listing_laws.specs.Round.{lines_from, whole_listing}
use Rattle.listing_laws.specs.Claims.{InWidths, LargeEnough}
use Rattle.listing_laws.proofs.BoundLaws.{Bounded, bounded}
use Rattle.listing_laws.proofs.HoldLaws.{Holds, lead_none}
use Rattle.listing_laws.proofs.WholeLaws.{Sound, same_sizes, hold_record, step, reading_same, refused_not}
use Rattle.listing_laws.proofs.LineLaws.{read_page, read_defaults, read_single, read_lead, read_trail, read_pair, read_code}
use Rattle.listing_laws.proofs.BitLaws.{bytes_none, bytes_other, lead_other}

-- ---- the place of the last record
abbrev pub place_by : Letter → (key : ℕ) → ℕ
place_by Start key = 0
place_by P key = 0
place_by D key = 1
place_by S key = 2 + key
place_by L key = 258 + key
place_by T key = 514 + key
place_by M key = 770 + key
place_by W key = 66306 + key

abbrev Later : Letter → (last : ℕ) → Letter → (key : ℕ) → Type 0
Later l last letter key = (leb 2 (rank l) && (ltb (rank l) (rank letter) || eqb (rank l) (rank letter) && ltb last key)) ≡ true

later_S : (l : Letter) (last key : ℕ) → key < 256 → 2 ≤ rank l → place_by l last < place_by S key → Later l last S key
later_S Start last key small late h = absurd (omega arith)
later_S P last key small late h = absurd (omega arith)
later_S D last key small late h = refl
later_S S last key small late h = lt-ltb last key (omega arith)
later_S L last key small late h = absurd (omega arith)
later_S T last key small late h = absurd (omega arith)
later_S M last key small late h = absurd (omega arith)
later_S W last key small late h = absurd (omega arith)

later_L : (l : Letter) (last key : ℕ) → key < 256 → 2 ≤ rank l → place_by l last < place_by L key → Later l last L key
later_L Start last key small late h = absurd (omega arith)
later_L P last key small late h = absurd (omega arith)
later_L D last key small late h = refl
later_L S last key small late h = refl
later_L L last key small late h = lt-ltb last key (omega arith)
later_L T last key small late h = absurd (omega arith)
later_L M last key small late h = absurd (omega arith)
later_L W last key small late h = absurd (omega arith)

later_T : (l : Letter) (last key : ℕ) → key < 256 → 2 ≤ rank l → place_by l last < place_by T key → Later l last T key
later_T Start last key small late h = absurd (omega arith)
later_T P last key small late h = absurd (omega arith)
later_T D last key small late h = refl
later_T S last key small late h = refl
later_T L last key small late h = refl
later_T T last key small late h = lt-ltb last key (omega arith)
later_T M last key small late h = absurd (omega arith)
later_T W last key small late h = absurd (omega arith)

later_M : (l : Letter) (last key : ℕ) → key < 65536 → 2 ≤ rank l → place_by l last < place_by M key → Later l last M key
later_M Start last key small late h = absurd (omega arith)
later_M P last key small late h = absurd (omega arith)
later_M D last key small late h = refl
later_M S last key small late h = refl
later_M L last key small late h = refl
later_M T last key small late h = refl
later_M M last key small late h = lt-ltb last key (omega arith)
later_M W last key small late h = absurd (omega arith)

later_W : (l : Letter) (last key : ℕ) → key < 65536 → 2 ≤ rank l → place_by l last < place_by W key → Later l last W key
later_W Start last key small late h = absurd (omega arith)
later_W P last key small late h = absurd (omega arith)
later_W D last key small late h = refl
later_W S last key small late h = refl
later_W L last key small late h = refl
later_W T last key small late h = refl
later_W M last key small late h = refl
later_W W last key small late h = lt-ltb last key (omega arith)

-- ---- what was listed before a place
-- the bytes of a test, at their places from `base` on
abbrev Listed : (base place : ℕ) → (test has : ℕ → Bool) → Type 0
Listed base place test has = (c : ℕ) → c < 256 → has c ≡ (ltb (base + c) place && test c)

-- a place behind another one is passed by neither
pub ltb_more : (x k : ℕ) → (x ≡ k → ⊥) → ltb x (k + 1) ≡ ltb x k
ltb_more x k ne = by_case (ltb x k) refl
  where
    by_case : (t : Bool) → ltb x k ≡ t → ltb x (k + 1) ≡ ltb x k
    by_case true q = lt-ltb x (k + 1) (omega (arith, ltb-true x k q)) ∙ sym q
    by_case false q = le-ltb x (k + 1) (omega (arith, ltb-false x k q)) ∙ sym q

and_none : (t : Bool) → (t && false) ≡ false
and_none true = refl
and_none false = refl

module _ (base k : ℕ) (test has : ℕ → Bool) (listed : Listed base k test has) where
  pass : ((c : ℕ) → c < 256 → base + c ≡ k → test c ≡ false) → Listed base (k + 1) test has
  pass none c h = by_case (eqb (base + c) k) refl
    where
      by_case : (t : Bool) → eqb (base + c) k ≡ t → has c ≡ (ltb (base + c) (k + 1) && test c)
      by_case true q =
          let off : test c ≡ false = none c h (eqb-true (base + c) k q) in
          listed c h ∙ ap (λ (x : Bool). ltb (base + c) k && x) off ∙ and_none (ltb (base + c) k) ∙ sym (ap (λ (x : Bool). ltb (base + c) (k + 1) && x) off ∙ and_none (ltb (base + c) (k + 1)))
      by_case false q = listed c h ∙ ap (λ (x : Bool). x && test c) (sym (ltb_more (base + c) k (eqb-false (base + c) k q)))

  add : (more : ℕ → Bool) (b : ℕ) → base + b ≡ k → test b ≡ true → more b ≡ true → ((c : ℕ) → (c ≡ b → ⊥) → more c ≡ has c) → Listed base (k + 1) test more
  add more b at on new old c h = by_case (eqb c b) refl
    where
      by_case : (t : Bool) → eqb c b ≡ t → more c ≡ (ltb (base + c) (k + 1) && test c)
      by_case true q =
          let e : c ≡ b = eqb-true c b q in
          ap more e ∙ new ∙ sym (ap₂ (λ (x y : Bool). x && y) (lt-ltb (base + c) (k + 1) (omega arith)) (ap test e ∙ on))
      by_case false q =
          let ne : c ≡ b → ⊥ = eqb-false c b q in
          old c ne ∙ listed c h ∙ ap (λ (x : Bool). x && test c) (sym (ltb_more (base + c) k (λ e. ne (omega arith))))

-- what has been read before a place, from the first `S` on
pub record Before (p : CodePage) (k : ℕ) (s : Progress) : Type 0 where
  pub late : 2 ≤ rank s.letter
  pub place : place_by s.letter s.key < k
  pub singles : Listed 2 k (λ c. is_single (entry_at p.classes c)) (in_bytes s.singles)
  pub leads : Listed 258 k (λ c. is_lead (entry_at p.classes c)) (is_listed_lead s.leads)
  pub trails : Listed 514 k (λ c. is_trail (entry_at p.classes c)) (in_bytes s.trails)
  pub page : s.numbers.page ≡ p.page
  pub byte : s.numbers.default_byte ≡ p.default_byte
  pub unit : s.numbers.default_unit ≡ p.default_unit

-- a byte that was added is in the set
pub bytes_with : (s : Bytes) (byte : ℕ) → in_bytes (add_to_bytes s byte) byte ≡ true
unfolding in_bytes add_to_bytes
bytes_with s byte = by_half (ltb byte 0x80) refl
  where
    by_half : (t : Bool) → ltb byte 0x80 ≡ t → in_bytes (add_to_bytes s byte) byte ≡ true
    by_half true q = rw q (half_with s.low byte)
    by_half false q = rw q (half_with s.high (byte - 0x80))

-- a lead that was listed is listed
pub lead_with : (leads : Half) (byte : ℕ) → 0x80 ≤ byte → is_listed_lead (with_lead leads byte) byte ≡ true
unfolding is_listed_lead with_lead
lead_with leads byte h = rw (le-ltb byte 0x80 h, le-leb 0x80 byte h) (half_with leads (byte - 0x80))

both : {a b : Bool} → a ≡ true → b ≡ true → (a && b) ≡ true
both {a} {b} x y = rw (x, y)

-- a lead is no single
pub lead_not_single : (class : ℕ) → is_lead class ≡ true → is_single class ≡ false
unfolding is_lead is_single
lead_not_single class e = by_two (eqb class 2) refl
  where
    by_two : (t : Bool) → eqb class 2 ≡ t → is_single class ≡ false
    by_two true q = let two : class ≡ 2 = eqb-true class 2 q in rw (ne_eqb class 1 (λ x. omega arith), ne_eqb class 5 (λ x. omega arith))
    by_two false q =
        let six : class ≡ 6 = eqb-true class 6 (sym (rw q) ∙ e) in
        rw (ne_eqb class 1 (λ x. omega arith), ne_eqb class 5 (λ x. omega arith))

-- ---- each record is accepted at its place
module _ (p : CodePage) (good : GoodShape p) (k : ℕ) (s : Progress) (b : Before p k s) where
  step_single : (byte unit : ℕ) → byte < 256 → k ≡ 2 + byte → is_single (entry_at p.classes byte) ≡ true
      → (accepts s (Single byte unit) ≡ true) × Before p (k + 1) (after_record s (Single byte unit))
  unfolding follows
  step_single byte unit small at on = (
    later_S s.letter s.key byte small b.late (omega (arith, b.place)),
    record {
      late = omega arith;
      place = omega arith;
      singles = add 2 k _ _ b.singles (in_bytes (add_to_bytes s.singles byte)) byte (sym at) on (bytes_with s.singles byte) (λ c ne. bytes_other s.singles byte c ne);
      leads = pass 258 k _ _ b.leads (λ c h e. absurd (omega arith));
      trails = pass 514 k _ _ b.trails (λ c h e. absurd (omega arith));
      page = b.page;
      byte = b.byte;
      unit = b.unit;
    },
  )

  step_lead : (byte : ℕ) → byte < 256 → k ≡ 258 + byte → is_lead (entry_at p.classes byte) ≡ true
      → (accepts s (Lead byte) ≡ true) × Before p (k + 1) (after_record s (Lead byte))
  unfolding follows
  step_lead byte small at on = (
    both (both (later_L s.letter s.key byte small b.late (omega (arith, b.place))) (le-leb 0x80 byte high)) (ap not single),
    record {
      late = omega arith;
      place = omega arith;
      singles = pass 2 k _ _ b.singles (λ c h e. absurd (omega arith));
      leads = add 258 k _ _ b.leads (is_listed_lead (with_lead s.leads byte)) byte (sym at) on (lead_with s.leads byte high) (λ c ne. lead_other s.leads byte c ne);
      trails = pass 514 k _ _ b.trails (λ c h e. absurd (omega arith));
      page = b.page;
      byte = b.byte;
      unit = b.unit;
    },
  )
    where
      by_size : (t : Bool) → ltb byte 0x80 ≡ t → 0x80 ≤ byte
      by_size true q = absurd (true≢false (sym on ∙ good.low byte (ltb-true byte 0x80 q)))
      by_size false q = ltb-false byte 0x80 q

      high : 0x80 ≤ byte
      high = by_size (ltb byte 0x80) refl

      single : in_bytes s.singles byte ≡ false
      single = b.singles byte small ∙ ap (λ (x : Bool). ltb (2 + byte) k && x) (lead_not_single (entry_at p.classes byte) on) ∙ and_none (ltb (2 + byte) k)

  step_trail : (byte : ℕ) → byte < 256 → k ≡ 514 + byte → is_trail (entry_at p.classes byte) ≡ true
      → (accepts s (Trail byte) ≡ true) × Before p (k + 1) (after_record s (Trail byte))
  unfolding follows
  step_trail byte small at on = (
    later_T s.letter s.key byte small b.late (omega (arith, b.place)),
    record {
      late = omega arith;
      place = omega arith;
      singles = pass 2 k _ _ b.singles (λ c h e. absurd (omega arith));
      leads = pass 258 k _ _ b.leads (λ c h e. absurd (omega arith));
      trails = add 514 k _ _ b.trails (in_bytes (add_to_bytes s.trails byte)) byte (sym at) on (bytes_with s.trails byte) (λ c ne. bytes_other s.trails byte c ne);
      page = b.page;
      byte = b.byte;
      unit = b.unit;
    },
  )

  step_pair : (code unit : ℕ) → code < 65536 → k ≡ 770 + code → is_lead (entry_at p.classes (code / 256)) ≡ true → is_trail (entry_at p.classes (code % 256)) ≡ true
      → (accepts s (Pair code unit) ≡ true) × Before p (k + 1) (after_record s (Pair code unit))
  unfolding follows
  step_pair code unit small at lead trail = (
    both
        (both (later_M s.letter s.key code small b.late (omega (arith, b.place))) (b.leads (code / 256) (omega arith) ∙ both (lt-ltb (258 + code / 256) k (omega arith)) lead))
        (b.trails (code % 256) (omega arith) ∙ both (lt-ltb (514 + code % 256) k (omega arith)) trail),
    record {
      late = omega arith;
      place = omega arith;
      singles = pass 2 k _ _ b.singles (λ c h e. absurd (omega arith));
      leads = pass 258 k _ _ b.leads (λ c h e. absurd (omega arith));
      trails = pass 514 k _ _ b.trails (λ c h e. absurd (omega arith));
      page = b.page;
      byte = b.byte;
      unit = b.unit;
    },
  )

  step_code : (unit code : ℕ) → unit < 65536 → k ≡ 66306 + unit → (accepts s (Code unit code) ≡ true) × Before p (k + 1) (after_record s (Code unit code))
  unfolding follows
  step_code unit code small at = (
    later_W s.letter s.key unit small b.late (omega (arith, b.place)),
    record {
      late = omega arith;
      place = omega arith;
      singles = pass 2 k _ _ b.singles (λ c h e. absurd (omega arith));
      leads = pass 258 k _ _ b.leads (λ c h e. absurd (omega arith));
      trails = pass 514 k _ _ b.trails (λ c h e. absurd (omega arith));
      page = b.page;
      byte = b.byte;
      unit = b.unit;
    },
  )

-- ---- the record of a place: it is read back, and accepted; where there is none, nothing is passed over
abbrev Fine : CodePage → ℕ → Progress → Record → Type 0
Fine p k s r = (is_record r ≡ true → (record_of (record_line r) ≡ r) × ((accepts s r ≡ true) × Before p (k + 1) (after_record s r))) × (is_record r ≡ false → Before p (k + 1) s)

module _ (p : CodePage) (good : GoodShape p) (m : InWidths p) (k : ℕ) (s : Progress) (b : Before p k s) where
  skip : ((c : ℕ) → c < 256 → 2 + c ≡ k → is_single (entry_at p.classes c) ≡ false)
      → ((c : ℕ) → c < 256 → 258 + c ≡ k → is_lead (entry_at p.classes c) ≡ false)
      → ((c : ℕ) → c < 256 → 514 + c ≡ k → is_trail (entry_at p.classes c) ≡ false) → Before p (k + 1) s
  skip x y z =
      record {
        late = b.late;
        place = omega (arith, b.place);
        singles = pass 2 k _ _ b.singles x;
        leads = pass 258 k _ _ b.leads y;
        trails = pass 514 k _ _ b.trails z;
        page = b.page;
        byte = b.byte;
        unit = b.unit;
      }

  fine_single : (c : ℕ) → c < 256 → k ≡ 2 + c → Fine p k s (single_at p.classes p.singles c)
  unfolding single_at
  fine_single c h e = by_class (is_single (entry_at p.classes c)) refl
    where
      by_class : (t : Bool) → is_single (entry_at p.classes c) ≡ t → Fine p k s (single_at p.classes p.singles c)
      by_class true q = rw q ((λ t. (read_single c (entry_at p.singles c) h (m.singles c), step_single p good k s b c (entry_at p.singles c) h e q)), (λ t. absurd (true≢false t)))
      by_class false q =
          rw q (
            (λ t. absurd (false≢true t)),
            (λ t. skip (λ d l f. let same : d ≡ c = omega arith in ap (λ (n : ℕ). is_single (entry_at p.classes n)) same ∙ q) (λ d l f. absurd (omega arith)) (λ d l f. absurd (omega arith))),
          )

  fine_lead : (c : ℕ) → c < 256 → k ≡ 258 + c → Fine p k s (lead_at p.classes c)
  unfolding lead_at
  fine_lead c h e = by_class (is_lead (entry_at p.classes c)) refl
    where
      by_class : (t : Bool) → is_lead (entry_at p.classes c) ≡ t → Fine p k s (lead_at p.classes c)
      by_class true q = rw q ((λ t. (read_lead c h, step_lead p good k s b c h e q)), (λ t. absurd (true≢false t)))
      by_class false q =
          rw q (
            (λ t. absurd (false≢true t)),
            (λ t. skip (λ d l f. absurd (omega arith)) (λ d l f. let same : d ≡ c = omega arith in ap (λ (n : ℕ). is_lead (entry_at p.classes n)) same ∙ q) (λ d l f. absurd (omega arith))),
          )

  fine_trail : (c : ℕ) → c < 256 → k ≡ 514 + c → Fine p k s (trail_at p.classes c)
  unfolding trail_at
  fine_trail c h e = by_class (is_trail (entry_at p.classes c)) refl
    where
      by_class : (t : Bool) → is_trail (entry_at p.classes c) ≡ t → Fine p k s (trail_at p.classes c)
      by_class true q = rw q ((λ t. (read_trail c h, step_trail p good k s b c h e q)), (λ t. absurd (true≢false t)))
      by_class false q =
          rw q (
            (λ t. absurd (false≢true t)),
            (λ t. skip (λ d l f. absurd (omega arith)) (λ d l f. absurd (omega arith)) (λ d l f. let same : d ≡ c = omega arith in ap (λ (n : ℕ). is_trail (entry_at p.classes n)) same ∙ q)),
          )

  past : 770 ≤ k → Before p (k + 1) s
  past h = skip (λ d l f. absurd (omega arith)) (λ d l f. absurd (omega arith)) (λ d l f. absurd (omega arith))

  fine_none : 770 ≤ k → Fine p k s NoRecord
  fine_none h = ((λ t. absurd (false≢true t)), (λ t. past h))

  fine_code : (c : ℕ) → c < 65536 → k ≡ 66306 + c → Fine p k s (code_at p.index p.blocks c)
  unfolding code_at
  fine_code c h e = by_entry (entry_at p.blocks (256 * entry_at p.index (c / 256) + c % 256)) (m.blocks (256 * entry_at p.index (c / 256) + c % 256))
    where
      by_entry : (v : ℕ) → v < 65536 → Fine p k s (unless_none v (Code c v))
      by_entry v small = by_test (eqb v 0xFFFF) refl
        where
          by_test : (t : Bool) → eqb v 0xFFFF ≡ t → Fine p k s (unless_none v (Code c v))
          by_test true q = rw q (fine_none (omega arith))
          by_test false q = rw q ((λ t. (read_code c v h small (eqb-false v 0xFFFF q), step_code p good k s b c v h e)), (λ t. absurd (true≢false t)))

  fine_pair : (c : ℕ) → c < 65536 → k ≡ 770 + c → Fine p k s (pair_at p.classes p.pairs c)
  unfolding pair_at
  fine_pair c h e = by_class (is_lead (entry_at p.classes (c / 256))) refl (is_trail (entry_at p.classes (c % 256))) refl
    where
      by_entry : (v : ℕ) → v < 65536 → is_lead (entry_at p.classes (c / 256)) ≡ true → is_trail (entry_at p.classes (c % 256)) ≡ true → Fine p k s (unless_none v (Pair c v))
      by_entry v small x y = by_test (eqb v 0xFFFF) refl
        where
          by_test : (t : Bool) → eqb v 0xFFFF ≡ t → Fine p k s (unless_none v (Pair c v))
          by_test true q = rw q (fine_none (omega arith))
          by_test false q = rw q ((λ t. (read_pair c v h small (eqb-false v 0xFFFF q), step_pair p good k s b c v h e x y)), (λ t. absurd (true≢false t)))

      by_class : (t : Bool) → is_lead (entry_at p.classes (c / 256)) ≡ t → (u : Bool) → is_trail (entry_at p.classes (c % 256)) ≡ u → Fine p k s (pair_at p.classes p.pairs c)
      by_class true x true y = rw (x, y) (by_entry (entry_at p.pairs (256 * leads_below p.classes (c / 256) + c % 256)) (m.pairs (256 * leads_below p.classes (c / 256) + c % 256)) x y)
      by_class true x false y = rw (x, y) (fine_none (omega arith))
      by_class false x u y = rw x (fine_none (omega arith))

  -- every record of a table set is read back and accepted at its place
  pub fine : 2 ≤ k → k < 131842 → Fine p k s (record_at p k)
  unfolding record_at
  fine l h = by_size (ltb k 258) refl (ltb k 514) refl (ltb k 770) refl (ltb k 66306) refl
    where
      zero_not : eqb k 0 ≡ false
      zero_not = ne_eqb k 0 (λ e. omega arith)

      one_not : eqb k 1 ≡ false
      one_not = ne_eqb k 1 (λ e. omega arith)

      by_size : (a : Bool) → ltb k 258 ≡ a → (c : Bool) → ltb k 514 ≡ c → (d : Bool) → ltb k 770 ≡ d → (f : Bool) → ltb k 66306 ≡ f → Fine p k s (record_at p k)
      by_size true q c r d t f u = rw (zero_not, one_not, q) (fine_single (k - 2) (omega (arith, ltb-true k 258 q)) (omega arith))
      by_size false q true r d t f u = rw (zero_not, one_not, q, r) (fine_lead (k - 258) (omega (arith, ltb-true k 514 r)) (omega (arith, ltb-false k 258 q)))
      by_size false q false r true t f u = rw (zero_not, one_not, q, r, t) (fine_trail (k - 514) (omega (arith, ltb-true k 770 t)) (omega (arith, ltb-false k 514 r)))
      by_size false q false r false t true u = rw (zero_not, one_not, q, r, t, u) (fine_pair (k - 770) (omega (arith, ltb-true k 66306 u)) (omega (arith, ltb-false k 770 t)))
      by_size false q false r false t false u = rw (zero_not, one_not, q, r, t, u) (fine_code (k - 66306) (omega arith) (omega (arith, ltb-false k 66306 u)))

-- ---- all lines
-- the tables have the sizes needed
abbrev pub FitsAll : Sizes → Tables → Type 0
FitsAll n t = Fits n t.classes t.singles t.pairs t.index t.blocks

large_after : (s : Progress) (r : Record) (t : Tables) → LargeEnough t → LargeEnough (change_of s r t)
large_after s r t l =
    record {
      classes = omega (arith, l.classes, (same_sizes s r t).classes);
      singles = omega (arith, l.singles, (same_sizes s r t).singles);
      pairs = omega (arith, l.pairs, (same_sizes s r t).pairs);
      index = omega (arith, l.index, (same_sizes s r t).index);
      blocks = omega (arith, l.blocks, (same_sizes s r t).blocks);
    }

-- large tables fit what has been read
pub large_fits : (n : Progress) (u t : Tables) → Holds n u → LargeEnough t → tables_fit (sizes_listed n) t ≡ true
unfolding tables_fit sizes_listed count_half blocks_listed
large_fits n u t h l =
    both
    (both
    (both (both (le-leb 256 (length t.classes) l.classes) (le-leb 256 (length t.singles) l.singles))
    (le-leb (256 * (ones n.leads.low + ones n.leads.high)) (length t.pairs) (omega (arith, l.pairs, ones-le 64 n.leads.low h.low_word, ones-le 64 n.leads.high h.high_word))))
    (le-leb 256 (length t.index) l.index))
    (le-leb (256 * pick (eqb (rank n.letter) 7 && eqb n.block 0) 256 (n.block + 1)) (length t.blocks) (omega (arith, l.blocks, by_case (eqb (rank n.letter) 7 && eqb n.block 0))))
  where
    by_case : (b : Bool) → pick b 256 (n.block + 1) ≤ 256
    by_case true = omega arith
    by_case false = omega (arith, h.block)

-- a record that is read back, accepted, in tables that fit
pub read_as : (s : Progress) (r : Record) (t : Tables) → record_of (record_line r) ≡ r → accepts s r ≡ true → tables_fit (sizes_listed (after_record s r)) t ≡ true → line_reading s (record_line r) t ≡ reading_as (Ok (after_record s r)) (change_of s r t)
unfolding line_reading read_record
read_as s r t back accepted roomy = ap (λ (q : Record). read_record s q t) back ∙ rw (accepted, roomy, read_record)

read_small : (s : Progress) (r : Record) (t : Tables) → record_of (record_line r) ≡ r → accepts s r ≡ true → tables_fit (sizes_listed (after_record s r)) t ≡ false → line_reading s (record_line r) t ≡ reading_as (Err TooSmall) t
unfolding line_reading read_record
read_small s r t back accepted small = ap (λ (q : Record). read_record s q t) back ∙ rw (accepted, small, read_record)

-- one line
record Took (s : Progress) (r : Record) (t : Tables) : Type 0 where
  reads : line_reading s (record_line r) t ≡ reading_as (Ok (after_record s r)) (change_of s r t)
  sound : Sound (after_record s r) (change_of s r t)
  fits : FitsAll (sizes_listed (after_record s r)) t

take : (s : Progress) (r : Record) (t : Tables) → Sound s t → tables_fit (sizes_listed (after_record s r)) t ≡ true → record_of (record_line r) ≡ r → accepts s r ≡ true → Took s r t
take s r t sound roomy back accepted = record { reads = reads; sound = kept; fits = fit_known (sizes_listed (after_record s r)) t.classes t.singles t.pairs t.index t.blocks roomy }
  where
    reads : line_reading s (record_line r) t ≡ reading_as (Ok (after_record s r)) (change_of s r t)
    reads = read_as s r t back accepted roomy

    kept : Sound (after_record s r) (change_of s r t)
    kept = subst (λ (u : Tables). Sound (after_record s r) u) (ap (λ (x : Reading). x.lent) reads) (step s t sound (record_line r) (after_record s r) (ap (λ (x : Reading). x.answer) reads))

-- where the room for each line comes from: what is known at a place, with so many places left
pub record Supply (p : CodePage) (G : (count k : ℕ) → Progress → Tables → Type 0) : Type 0 where
  pub line : (count k : ℕ) (s : Progress) (t : Tables) (r : Record) → r ≡ record_at p k → G (suc count) k s t → is_record r ≡ true → record_of (record_line r) ≡ r → accepts s r ≡ true → Sound s t
      → (tables_fit (sizes_listed (after_record s r)) t ≡ true) × G count (suc k) (after_record s r) (change_of s r t)
  pub skip : (count k : ℕ) (s : Progress) (t : Tables) → G (suc count) k s t → is_record (record_at p k) ≡ false → G count (suc k) s t

-- from tables large enough for every listing
pub by_size : (p : CodePage) → Supply p (λ count k s t. LargeEnough t)
by_size p =
    record {
      line = λ count k s t r e large q back accepted sound.
          (large_fits (after_record s r) (change_of s r t) t (hold_record s t sound r (subst Bounded back (bounded (record_line r))) accepted large.classes large.index) large, large_after s r t large);
      skip = λ count k s t large q. large;
    }

-- from an acceptance of the lines that are left
pub by_acceptance : (p : CodePage) (s' : Progress) (t' : Tables) → Supply p (λ count k s t. read_all s (lines_from p count k) t ≡ reading_as (Ok s') t')
unfolding read_all lines_from
by_acceptance p s' t' =
    record {
      line = λ count k s t r e acc q back accepted sound. by_fit count k s t r e acc q back accepted (tables_fit (sizes_listed (after_record s r)) t) refl;
      skip = λ count k s t acc q. sym (rw q) ∙ acc;
    }
  where
    first : (count k : ℕ) (s : Progress) (t : Tables) (r : Record) → r ≡ record_at p k → is_record r ≡ true → pick (is_record (record_at p k)) (record_line (record_at p k) ∷ lines_from p count (suc k)) (lines_from p count (suc k)) ≡ record_line r ∷ lines_from p count (suc k)
    first count k s t r e q = ap (λ (x : Record). pick (is_record x) (record_line x ∷ lines_from p count (suc k)) (lines_from p count (suc k))) (sym e) ∙ rw q

    by_fit : (count k : ℕ) (s : Progress) (t : Tables) (r : Record) → r ≡ record_at p k
        → read_all s (pick (is_record (record_at p k)) (record_line (record_at p k) ∷ lines_from p count (suc k)) (lines_from p count (suc k))) t ≡ reading_as (Ok s') t'
        → is_record r ≡ true → record_of (record_line r) ≡ r → accepts s r ≡ true → (b : Bool) → tables_fit (sizes_listed (after_record s r)) t ≡ b
        → (tables_fit (sizes_listed (after_record s r)) t ≡ true) × (read_all (after_record s r) (lines_from p count (suc k)) (change_of s r t) ≡ reading_as (Ok s') t')
    by_fit count k s t r e acc q back accepted true w = (
      w,
      sym (ap (λ (x : Reading). then_read x.answer x.lent (λ n u. read_all n (lines_from p count (suc k)) u)) (read_as s r t back accepted w))
          ∙ sym (ap (λ (l : List (List ℕ)). read_all s l t) (first count k s t r e q))
          ∙ acc,
    )
    by_fit count k s t r e acc q back accepted false w =
        absurd (refused_not (reading_same (
        sym (ap (λ (x : Reading). then_read x.answer x.lent (λ n u. read_all n (lines_from p count (suc k)) u)) (read_small s r t back accepted w))
        ∙ sym (ap (λ (l : List (List ℕ)). read_all s l t) (first count k s t r e q))
        ∙ acc
        )).0)

-- what is asked of the tables at a place, kept by every record and where there is none
pub record Keeps (p : CodePage) (Q : ℕ → Tables → Type 0) : Type 0 where
  pub starts : (s : Progress) (page : ℕ) (t : Tables) → FitsAll (sizes_listed (after_page page)) t → Q 2 (change_of s (Page page) t)
  pub record_kept : (k : ℕ) (s : Progress) (t : Tables) → 2 ≤ k → k < 131842 → Before p k s → Sound s t → FitsAll (sizes_listed (after_record s (record_at p k))) t → Q k t → is_record (record_at p k) ≡ true → Q (k + 1) (change_of s (record_at p k) t)
  pub none_kept : (k : ℕ) (t : Tables) → 2 ≤ k → k < 131842 → Q k t → is_record (record_at p k) ≡ false → Q (k + 1) t

-- what a whole reading arrives at
pub record Arrived (p : CodePage) (Q : ℕ → Tables → Type 0) (s : Progress) (lines : List (List ℕ)) (t : Tables) : Type 0 where
  pub state : Progress
  pub lent : Tables
  pub accepted : read_all s lines t ≡ reading_as (Ok state) lent
  pub before : Before p places state
  pub sound : Sound state lent
  pub kept : Q places lent

module _ (p : CodePage) (good : GoodShape p) (m : InWidths p) (Q : ℕ → Tables → Type 0) (keeps : Keeps p Q) (G : (count k : ℕ) → Progress → Tables → Type 0) (supply : Supply p G) where
  arrive_line : (s : Progress) (r : Record) (lines : List (List ℕ)) (t : Tables) → Took s r t → Arrived p Q (after_record s r) lines (change_of s r t) → Arrived p Q s (record_line r ∷ lines) t
  unfolding read_all
  arrive_line s r lines t took a =
      record {
        state = a.state;
        lent = a.lent;
        accepted = ap (λ (x : Reading). then_read x.answer x.lent (λ n u. read_all n lines u)) took.reads ∙ a.accepted;
        before = a.before;
        sound = a.sound;
        kept = a.kept;
      }

  next_place : (k : ℕ) (n : Progress) → Before p (k + 1) n → Before p (suc k) n
  next_place k n x = subst (λ (i : ℕ). Before p i n) (add-one k) x

  line_arrives : (count k : ℕ) (s : Progress) (t : Tables) → 2 ≤ k → k < 131842 → Before p k s → Sound s t → G (suc count) k s t → Q k t → is_record (record_at p k) ≡ true
      → ((n : Progress) (u : Tables) → Before p (suc k) n → Sound n u → G count (suc k) n u → Q (suc k) u → Arrived p Q n (lines_from p count (suc k)) u) → Arrived p Q s (record_line (record_at p k) ∷ lines_from p count (suc k)) t
  line_arrives count k s t l h b sound g here q more =
      arrive_line s r (lines_from p count (suc k)) t took
      (more (after_record s r) (change_of s r t) (next_place k (after_record s r) known.1.1) took.sound room.1 (subst (λ (i : ℕ). Q i (change_of s r t)) (add-one k) (keeps.record_kept k s t l h b sound took.fits here q)))
    where
      r : Record
      r = record_at p k

      known : (record_of (record_line (record_at p k)) ≡ record_at p k) × ((accepts s (record_at p k) ≡ true) × Before p (k + 1) (after_record s (record_at p k)))
      known = (fine p good m k s b l h).0 q

      room : (tables_fit (sizes_listed (after_record s (record_at p k))) t ≡ true) × G count (suc k) (after_record s (record_at p k)) (change_of s (record_at p k) t)
      room = supply.line count k s t (record_at p k) refl g q known.0 known.1.0 sound

      took : Took s (record_at p k) t
      took = take s (record_at p k) t sound room.0 known.0 known.1.0

  -- from place to place
  pub every_place : (count k : ℕ) (s : Progress) (t : Tables) → count + k ≡ 131842 → 2 ≤ k → Before p k s → Sound s t → G count k s t → Q k t → Arrived p Q s (lines_from p count k) t
  unfolding lines_from read_all
  every_place zero k s t e l b sound g here =
      record { state = s; lent = t; accepted = refl; before = subst (λ (n : ℕ). Before p n s) same b; kept = subst (λ (n : ℕ). Q n t) same here; sound = sound }
    where
      same : k ≡ 131842
      same = omega arith
  every_place (suc count) k s t e l b sound g here =
      by_record (λ n u x y z w. every_place count (suc k) n u (omega arith) (omega arith) x y z w) (is_record (record_at p k)) refl
    where
      by_record : ((n : Progress) (u : Tables) → Before p (suc k) n → Sound n u → G count (suc k) n u → Q (suc k) u → Arrived p Q n (lines_from p count (suc k)) u)
          → (x : Bool) → is_record (record_at p k) ≡ x → Arrived p Q s (lines_from p (suc count) k) t
      by_record more true q = rw q (line_arrives count k s t l (omega arith) b sound g here q more)
      by_record more false q = rw q (more s t (next_place k s ((fine p good m k s b l (omega arith)).1 q)) sound (supply.skip count k s t g q) (subst (λ (i : ℕ). Q i t) (add-one k) (keeps.none_kept k t l (omega arith) here q)))

  -- ---- the first two lines
  first_place : (page byte unit : ℕ) (s : Progress) → page ≡ p.page → byte ≡ p.default_byte → unit ≡ p.default_unit → Before p 2 (after_record (after_page page) (Defaults byte unit))
  first_place page byte unit s e f g =
      record {
        late = omega arith;
        place = omega arith;
        singles = λ c h. bytes_none c ∙ sym (ap (λ (x : Bool). x && is_single (entry_at p.classes c)) (le-ltb (2 + c) 2 (omega arith)));
        leads = λ c h. lead_none c ∙ sym (ap (λ (x : Bool). x && is_lead (entry_at p.classes c)) (le-ltb (258 + c) 2 (omega arith)));
        trails = λ c h. bytes_none c ∙ sym (ap (λ (x : Bool). x && is_trail (entry_at p.classes c)) (le-ltb (514 + c) 2 (omega arith)));
        page = e;
        byte = f;
        unit = g;
      }

  begin : (n : ℕ) → n + 2 ≡ 131842 → (s : Progress) (t : Tables) → s.letter ≡ Start → G (suc (suc n)) 0 s t → Arrived p Q s (lines_from p (suc (suc n)) 0) t
  unfolding lines_from record_at
  begin n e s t start g =
      arrive_line s (Page p.page) (record_line (Defaults p.default_byte p.default_unit) ∷ lines_from p n 2) t first
      (arrive_line (after_page p.page) (Defaults p.default_byte p.default_unit) (lines_from p n 2) (change_of s (Page p.page) t) second
      (every_place n 2 (after_record (after_page p.page) (Defaults p.default_byte p.default_unit)) (change_of (after_page p.page) (Defaults p.default_byte p.default_unit) (change_of s (Page p.page) t)) e (omega arith)
      (first_place p.page p.default_byte p.default_unit s refl refl refl)
      second.sound
      room₂.1 (keeps.starts s p.page t first.fits)))
    where
      some_page : 1 ≤ p.page
      some_page = by_page p.page good.page
        where
          by_page : (n : ℕ) → (n ≡ 0 → ⊥) → 1 ≤ n
          by_page zero ne = absurd (ne refl)
          by_page (suc n) ne = omega arith

      none_yet : Sound s t
      none_yet h = absurd (omega (arith, ap rank start))

      room₁ : (tables_fit (sizes_listed (after_page p.page)) t ≡ true) × G (suc n) 1 (after_page p.page) (change_of s (Page p.page) t)
      room₁ = supply.line (suc n) 0 s t (Page p.page) refl g refl (read_page p.page some_page m.page) (eq-eqb (rank s.letter) 0 (ap rank start)) none_yet

      first : Took s (Page p.page) t
      first = take s (Page p.page) t none_yet room₁.0 (read_page p.page some_page m.page) (eq-eqb (rank s.letter) 0 (ap rank start))

      room₂ : (tables_fit (sizes_listed (after_record (after_page p.page) (Defaults p.default_byte p.default_unit))) (change_of s (Page p.page) t) ≡ true)
          × G n 2 (after_record (after_page p.page) (Defaults p.default_byte p.default_unit)) (change_of s (Page p.page) t)
      room₂ = supply.line n 1 (after_page p.page) (change_of s (Page p.page) t) (Defaults p.default_byte p.default_unit) refl room₁.1 refl (read_defaults p.default_byte p.default_unit m.byte m.unit) refl first.sound

      second : Took (after_page p.page) (Defaults p.default_byte p.default_unit) (change_of s (Page p.page) t)
      second = take (after_page p.page) (Defaults p.default_byte p.default_unit) (change_of s (Page p.page) t) first.sound room₂.0 (read_defaults p.default_byte p.default_unit m.byte m.unit) refl

  two_more : (n : ℕ) × (n + 2 ≡ 131842)
  two_more = (131840, omega arith)

  -- A whole listing of a good table set is accepted, line by line, into tables with room for each line.
  pub listing_accepted : (s : Progress) (t : Tables) → s.letter ≡ Start → ((n : ℕ) → n ≡ 131842 → G n 0 s t) → Arrived p Q s (whole_listing p) t
  unfolding whole_listing
  listing_accepted s t start g =
      let all : suc (suc two_more.0) ≡ 131842 = omega (arith, two_more.1) in
      subst (λ (n : ℕ). Arrived p Q s (lines_from p n 0) t) all (begin two_more.0 two_more.1 s t start (g (suc (suc two_more.0)) all))

-- ---- the same page, defaults and classes
class_back : (c : ℕ) → is_known c ≡ true → pick (is_trail c) (4 + pick (is_lead c) 2 (pick (is_single c) 1 0)) (pick (is_lead c) 2 (pick (is_single c) 1 0)) ≡ c
unfolding is_known is_trail is_lead is_single
class_back zero e = refl
class_back (suc zero) e = refl
class_back (suc (suc zero)) e = refl
class_back (suc (suc (suc zero))) e = absurd (false≢true e)
class_back (suc (suc (suc (suc zero)))) e = refl
class_back (suc (suc (suc (suc (suc zero))))) e = refl
class_back (suc (suc (suc (suc (suc (suc zero)))))) e = refl
class_back (suc (suc (suc (suc (suc (suc (suc c))))))) e = absurd (large (suc (suc (suc (suc (suc (suc (suc c))))))) (omega arith) e)
  where
    large : (n : ℕ) → 7 ≤ n → is_known n ≡ true → ⊥
    large n h e = false≢true (sym (rw (lt-leb n 2 (omega arith), le-leb 4 n (omega arith), lt-leb n 6 (omega arith))) ∙ e)

module _ (p : CodePage) (good : GoodShape p) {Q : ℕ → Tables → Type 0} {s : Progress} {lines : List (List ℕ)} {t : Tables} (a : Arrived p Q s lines t) where
  all_listed : (c : ℕ) → c < 256 → class_of a.state c ≡ entry_at p.classes c
  all_listed c h =
      rw (trail, lead, single) (class_back (entry_at p.classes c) (good.class c h))
    where
      trail : in_bytes a.state.trails c ≡ is_trail (entry_at p.classes c)
      trail = a.before.trails c h ∙ ap (λ (x : Bool). x && is_trail (entry_at p.classes c)) (lt-ltb (514 + c) 131842 (omega arith))

      lead : is_listed_lead a.state.leads c ≡ is_lead (entry_at p.classes c)
      lead = a.before.leads c h ∙ ap (λ (x : Bool). x && is_lead (entry_at p.classes c)) (lt-ltb (258 + c) 131842 (omega arith))

      single : in_bytes a.state.singles c ≡ is_single (entry_at p.classes c)
      single = a.before.singles c h ∙ ap (λ (x : Bool). x && is_single (entry_at p.classes c)) (lt-ltb (2 + c) 131842 (omega arith))

  -- the classes come back
  pub same_classes : (byte : ℕ) → byte < 256 → entry_at a.lent.classes byte ≡ entry_at p.classes byte
  same_classes byte h = (a.sound (omega (arith, a.before.late))).holds.classes byte h ∙ all_listed byte h
