-- A record that is accepted is the record of its place afterwards, and no other place has another record than before.
use mathlib.Core.Bool.{Bool, true, false, not, ◌&&◌, false≢true}
use mathlib.Core.List.{List}
use mathlib.Core.Path.{◌≡◌, refl, sym, ap, ◌∙◌}
use Prim.Native.Nat.{ℕ, ◌+◌, ◌-◌, ◌*◌, ◌/◌, ◌%◌, ◌≤◌, ◌<◌}
use native.Mathlib.Omega.{arith}
use lib.Dec.{leb, ltb, eqb}
use lib.ListN.{length}
use borrow.Author.Tests.{leb-true, lt-ltb, le-ltb, ltb-true, ltb-false, ne_eqb}
use Rattle.codepage.specs.CodePage.{CodePage, code_page, pick, entry_at, is_single, is_lead, is_trail, leads_below}
use Rattle.codepage_lookup.specs.Profile.{unit_entry}
use Rattle.listing.specs.declared.Half.{Half}
use Rattle.listing.specs.declared.Progress.{Progress}
use Rattle.listing.specs.declared.Letter.{Letter}
use Rattle.listing.specs.declared.Letter.TheVariants.{Start, P, D, S, L, T, M, W}
use Rattle.listing.specs.declared.Record.{Record}
use Rattle.listing.specs.declared.Record.TheVariants.{Page, Defaults, Single, Lead, Trail, Pair, Code, NoRecord}
use Rattle.listing.specs.Sets.{in_bytes}
use Rattle.listing.specs.Order.{rank, is_listed_lead, class_of}
use Rattle.listing.specs.Tables.{Tables, lead_block}
use Rattle.lister.specs.Lister.{single_at, lead_at, trail_at, pair_at, code_at, record_at}
use Rattle.listing_laws.proofs.BitLaws.{tally_same}
use Rattle.listing_laws.proofs.HoldLaws.{Holds}
use Rattle.listing_laws.proofs.WholeLaws.{class_lead, leads_tally}
use Rattle.listing_laws.proofs.RoundLaws.{place_by}
use Rattle.listing_laws.proofs.BlockLaws.{below_tally, listed_tally}

-- the table set as it stands
abbrev pub set_of : Progress → Tables → CodePage
set_of s t = code_page s.numbers t.classes t.singles t.pairs t.index t.blocks

-- the place of the last record, and of a record
abbrev pub last_place : Progress → ℕ
last_place s = place_by s.letter s.key

-- the place of a record in the order of the listing
abbrev pub place_of : Record → ℕ
place_of (Page page) = 0
place_of (Defaults byte unit) = 1
place_of (Single byte unit) = 2 + byte
place_of (Lead byte) = 258 + byte
place_of (Trail byte) = 514 + byte
place_of (Pair code unit) = 770 + code
place_of (Code unit code) = 66306 + unit
place_of NoRecord = 0

-- ---- records come in the order of their places
-- a key of a byte or of a unit
abbrev pub KeyIn : Letter → ℕ → Type 0
KeyIn Start key = Unit {0}
KeyIn P key = Unit {0}
KeyIn D key = Unit {0}
KeyIn S key = key < 256
KeyIn L key = key < 256
KeyIn T key = key < 256
KeyIn M key = key < 65536
KeyIn W key = key < 65536

-- an `S` comes behind the last place
pub order_S : (l : Letter) (last key : ℕ) → KeyIn l last → 2 ≤ rank l → rank l ≤ 3 → (rank l ≡ 3 → last < key) → place_by l last < 2 + key
order_S Start last key small late most g = absurd (omega arith)
order_S P last key small late most g = absurd (omega arith)
order_S D last key small late most g = omega arith
order_S S last key small late most g = omega (arith, g refl)
order_S L last key small late most g = absurd (omega arith)
order_S T last key small late most g = absurd (omega arith)
order_S M last key small late most g = absurd (omega arith)
order_S W last key small late most g = absurd (omega arith)

-- so does an `L`
pub order_L : (l : Letter) (last key : ℕ) → KeyIn l last → 2 ≤ rank l → rank l ≤ 4 → (rank l ≡ 4 → last < key) → place_by l last < 258 + key
order_L Start last key small late most g = absurd (omega arith)
order_L P last key small late most g = absurd (omega arith)
order_L D last key small late most g = omega arith
order_L S last key small late most g = omega arith
order_L L last key small late most g = omega (arith, g refl)
order_L T last key small late most g = absurd (omega arith)
order_L M last key small late most g = absurd (omega arith)
order_L W last key small late most g = absurd (omega arith)

-- so does a `T`
pub order_T : (l : Letter) (last key : ℕ) → KeyIn l last → 2 ≤ rank l → rank l ≤ 5 → (rank l ≡ 5 → last < key) → place_by l last < 514 + key
order_T Start last key small late most g = absurd (omega arith)
order_T P last key small late most g = absurd (omega arith)
order_T D last key small late most g = omega arith
order_T S last key small late most g = omega arith
order_T L last key small late most g = omega arith
order_T T last key small late most g = omega (arith, g refl)
order_T M last key small late most g = absurd (omega arith)
order_T W last key small late most g = absurd (omega arith)

-- so does an `M`
pub order_M : (l : Letter) (last key : ℕ) → KeyIn l last → 2 ≤ rank l → rank l ≤ 6 → (rank l ≡ 6 → last < key) → place_by l last < 770 + key
order_M Start last key small late most g = absurd (omega arith)
order_M P last key small late most g = absurd (omega arith)
order_M D last key small late most g = omega arith
order_M S last key small late most g = omega arith
order_M L last key small late most g = omega arith
order_M T last key small late most g = omega arith
order_M M last key small late most g = omega (arith, g refl)
order_M W last key small late most g = absurd (omega arith)

-- so does a `W`
pub order_W : (l : Letter) (last key : ℕ) → KeyIn l last → 2 ≤ rank l → rank l ≤ 7 → (rank l ≡ 7 → last < key) → place_by l last < 66306 + key
order_W Start last key small late most g = absurd (omega arith)
order_W P last key small late most g = absurd (omega arith)
order_W D last key small late most g = omega arith
order_W S last key small late most g = omega arith
order_W L last key small late most g = omega arith
order_W T last key small late most g = omega arith
order_W M last key small late most g = omega arith
order_W W last key small late most g = omega (arith, g refl)

-- ---- the record of a place
module _ (p : CodePage) where
  -- the places of leads
  pub at_lead : (c : ℕ) → c < 256 → record_at p (258 + c) ≡ lead_at p.classes c
  unfolding record_at
  at_lead c h =
      let e : 258 + c - 258 ≡ c = omega arith in
      rw (ne_eqb (258 + c) 0 (λ x. omega arith), ne_eqb (258 + c) 1 (λ x. omega arith), le-ltb (258 + c) 258 (omega arith), lt-ltb (258 + c) 514 (omega arith), e)

  -- the places of second bytes
  pub at_trail : (c : ℕ) → c < 256 → record_at p (514 + c) ≡ trail_at p.classes c
  unfolding record_at
  at_trail c h =
      let e : 514 + c - 514 ≡ c = omega arith in
      rw (ne_eqb (514 + c) 0 (λ x. omega arith), ne_eqb (514 + c) 1 (λ x. omega arith), le-ltb (514 + c) 258 (omega arith), le-ltb (514 + c) 514 (omega arith), lt-ltb (514 + c) 770 (omega arith), e)

  -- the places of pairs
  pub at_pair : (c : ℕ) → c < 65536 → record_at p (770 + c) ≡ pair_at p.classes p.pairs c
  unfolding record_at
  at_pair c h =
      let e : 770 + c - 770 ≡ c = omega arith in
      rw (ne_eqb (770 + c) 0 (λ x. omega arith), ne_eqb (770 + c) 1 (λ x. omega arith), le-ltb (770 + c) 258 (omega arith), le-ltb (770 + c) 514 (omega arith), le-ltb (770 + c) 770 (omega arith), lt-ltb (770 + c) 66306 (omega arith), e)

-- what two table sets have at every place but one, part by part
pub record PartsBut (p q : CodePage) (k : ℕ) : Type 0 where
  pub singles : (c : ℕ) → c < 256 → (2 + c ≡ k → ⊥) → single_at q.classes q.singles c ≡ single_at p.classes p.singles c
  pub leads : (c : ℕ) → c < 256 → (258 + c ≡ k → ⊥) → lead_at q.classes c ≡ lead_at p.classes c
  pub trails : (c : ℕ) → c < 256 → (514 + c ≡ k → ⊥) → trail_at q.classes c ≡ trail_at p.classes c
  pub pairs : (c : ℕ) → c < 65536 → (770 + c ≡ k → ⊥) → pair_at q.classes q.pairs c ≡ pair_at p.classes p.pairs c
  pub codes : (c : ℕ) → c < 65536 → (66306 + c ≡ k → ⊥) → code_at q.index q.blocks c ≡ code_at p.index p.blocks c

-- equal parts are equal records
pub by_parts : (p q : CodePage) (k : ℕ) → PartsBut p q k → (i : ℕ) → 2 ≤ i → i < 131842 → (i ≡ k → ⊥) → record_at q i ≡ record_at p i
unfolding record_at
by_parts p q k parts i l h ne = by_size (ltb i 258) refl (ltb i 514) refl (ltb i 770) refl (ltb i 66306) refl
  where
    zero_not : eqb i 0 ≡ false
    zero_not = ne_eqb i 0 (λ e. omega arith)

    one_not : eqb i 1 ≡ false
    one_not = ne_eqb i 1 (λ e. omega arith)

    by_size : (a : Bool) → ltb i 258 ≡ a → (b : Bool) → ltb i 514 ≡ b → (c : Bool) → ltb i 770 ≡ c → (d : Bool) → ltb i 66306 ≡ d → record_at q i ≡ record_at p i
    by_size true x b y c z d w = rw (zero_not, one_not, x) (parts.singles (i - 2) (omega (arith, ltb-true i 258 x)) (λ e. ne (omega arith)))
    by_size false x true y c z d w = rw (zero_not, one_not, x, y) (parts.leads (i - 258) (omega (arith, ltb-true i 514 y)) (λ e. ne (omega (arith, ltb-false i 258 x))))
    by_size false x false y true z d w = rw (zero_not, one_not, x, y, z) (parts.trails (i - 514) (omega (arith, ltb-true i 770 z)) (λ e. ne (omega (arith, ltb-false i 514 y))))
    by_size false x false y false z true w = rw (zero_not, one_not, x, y, z, w) (parts.pairs (i - 770) (omega (arith, ltb-true i 66306 w)) (λ e. ne (omega (arith, ltb-false i 770 z))))
    by_size false x false y false z false w = rw (zero_not, one_not, x, y, z, w) (parts.codes (i - 66306) (omega (arith, ltb-false i 66306 w)) (λ e. ne (omega (arith, ltb-false i 66306 w))))

-- ---- the tests of classes, by what is listed
class_trail : (s : Progress) (byte : ℕ) → is_trail (class_of s byte) ≡ in_bytes s.trails byte
unfolding is_trail
class_trail s byte = by_case (in_bytes s.trails byte) (is_listed_lead s.leads byte) (in_bytes s.singles byte)
  where
    by_case : (a b c : Bool) → is_trail (pick a (4 + pick b 2 (pick c 1 0)) (pick b 2 (pick c 1 0))) ≡ a
    by_case true true c = refl
    by_case true false true = refl
    by_case true false false = refl
    by_case false true c = refl
    by_case false false true = refl
    by_case false false false = refl

class_single : (s : Progress) (byte : ℕ) → is_single (class_of s byte) ≡ (not (is_listed_lead s.leads byte) && in_bytes s.singles byte)
unfolding is_single
class_single s byte = by_case (in_bytes s.trails byte) (is_listed_lead s.leads byte) (in_bytes s.singles byte)
  where
    by_case : (a b c : Bool) → is_single (pick a (4 + pick b 2 (pick c 1 0)) (pick b 2 (pick c 1 0))) ≡ (not b && c)
    by_case true true c = refl
    by_case true false true = refl
    by_case true false false = refl
    by_case false true c = refl
    by_case false false true = refl
    by_case false false false = refl

module _ (s : Progress) (t : Tables) (held : Holds s t) where
  -- a lead is a byte listed as one
  pub lead_test : (c : ℕ) → c < 256 → is_lead (entry_at t.classes c) ≡ is_listed_lead s.leads c
  lead_test c h = ap is_lead (held.classes c h) ∙ class_lead s c

  -- a second byte is a byte listed as one
  pub trail_test : (c : ℕ) → c < 256 → is_trail (entry_at t.classes c) ≡ in_bytes s.trails c
  trail_test c h = ap is_trail (held.classes c h) ∙ class_trail s c

  -- a single is a byte listed as one, and not as a lead
  pub single_test : (c : ℕ) → c < 256 → is_single (entry_at t.classes c) ≡ (not (is_listed_lead s.leads c) && in_bytes s.singles c)
  single_test c h = ap is_single (held.classes c h) ∙ class_single s c

  -- the block of a lead is the number of leads below it
  pub block_as : (lead : ℕ) → 0x80 ≤ lead → lead < 256 → 256 ≤ length t.classes → lead_block s lead ≡ leads_below t.classes lead
  unfolding lead_block leads_below
  block_as lead high h long =
      below_tally s.leads held.low_word (lead - 0x80)
      ∙ listed_tally s.leads lead high
      ∙ tally_same (is_listed_lead s.leads) (λ i. is_lead (entry_at t.classes i)) lead (λ i m. sym (lead_test i (omega arith)))
      ∙ sym (leads_tally t.classes lead (omega arith))

-- no listed lead is below 80
pub listed_from_80 : (leads : Half) (byte : ℕ) → is_listed_lead leads byte ≡ true → 0x80 ≤ byte
unfolding is_listed_lead
listed_from_80 leads byte e = by_high (leb 0x80 byte) refl
  where
    by_high : (b : Bool) → leb 0x80 byte ≡ b → 0x80 ≤ byte
    by_high true q = leb-true 0x80 byte q
    by_high false q = absurd (false≢true (sym (rw q) ∙ e))

-- ---- each part, by its tests
pub single_part : (classes singles classes' singles' : List ℕ) (c : ℕ) → is_single (entry_at classes' c) ≡ is_single (entry_at classes c) → entry_at singles' c ≡ entry_at singles c → single_at classes' singles' c ≡ single_at classes singles c
unfolding single_at
single_part classes singles classes' singles' c e f = rw (e, f)

-- a lead is listed as before
pub lead_part : (classes classes' : List ℕ) (c : ℕ) → is_lead (entry_at classes' c) ≡ is_lead (entry_at classes c) → lead_at classes' c ≡ lead_at classes c
unfolding lead_at
lead_part classes classes' c e = rw e

-- so is a second byte
pub trail_part : (classes classes' : List ℕ) (c : ℕ) → is_trail (entry_at classes' c) ≡ is_trail (entry_at classes c) → trail_at classes' c ≡ trail_at classes c
unfolding trail_at
trail_part classes classes' c e = rw e

-- a pair is listed as before if both tests are, and its entry where they hold
pub pair_part : (classes pairs classes' pairs' : List ℕ) (c : ℕ) → is_lead (entry_at classes' (c / 256)) ≡ is_lead (entry_at classes (c / 256)) → is_trail (entry_at classes' (c % 256)) ≡ is_trail (entry_at classes (c % 256))
    → (is_lead (entry_at classes (c / 256)) ≡ true → entry_at pairs' (256 * leads_below classes' (c / 256) + c % 256) ≡ entry_at pairs (256 * leads_below classes (c / 256) + c % 256))
    → pair_at classes' pairs' c ≡ pair_at classes pairs c
unfolding pair_at
pair_part classes pairs classes' pairs' c e f g = by_lead (is_lead (entry_at classes (c / 256))) refl
  where
    by_lead : (b : Bool) → is_lead (entry_at classes (c / 256)) ≡ b → pair_at classes' pairs' c ≡ pair_at classes pairs c
    by_lead true q = rw (e, f, g q)
    by_lead false q = rw (e, q)

-- no byte may be second: no pair is listed
pub pair_none : (classes pairs : List ℕ) (c : ℕ) → is_trail (entry_at classes (c % 256)) ≡ false → pair_at classes pairs c ≡ NoRecord
unfolding pair_at
pair_none classes pairs c e = by_lead (is_lead (entry_at classes (c / 256))) refl
  where
    by_lead : (b : Bool) → is_lead (entry_at classes (c / 256)) ≡ b → pair_at classes pairs c ≡ NoRecord
    by_lead true q = rw (q, e)
    by_lead false q = rw q

-- a pair without a character is not listed
pub pair_empty : (classes pairs : List ℕ) (c : ℕ) → (is_lead (entry_at classes (c / 256)) ≡ true → entry_at pairs (256 * leads_below classes (c / 256) + c % 256) ≡ 0xFFFF) → pair_at classes pairs c ≡ NoRecord
unfolding pair_at
pair_empty classes pairs c e = by_lead (is_lead (entry_at classes (c / 256))) refl (is_trail (entry_at classes (c % 256))) refl
  where
    by_lead : (b : Bool) → is_lead (entry_at classes (c / 256)) ≡ b → (d : Bool) → is_trail (entry_at classes (c % 256)) ≡ d → pair_at classes pairs c ≡ NoRecord
    by_lead true q true w = rw (q, w, e q)
    by_lead true q false w = rw (q, w)
    by_lead false q d w = rw q

-- so is the code of a unit
pub code_part : (index blocks index' blocks' : List ℕ) (c : ℕ) → unit_entry index' blocks' c ≡ unit_entry index blocks c → code_at index' blocks' c ≡ code_at index blocks c
unfolding code_at
code_part index blocks index' blocks' c e = rw e
