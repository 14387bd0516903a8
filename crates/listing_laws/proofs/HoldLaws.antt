-- What the tables hold after each accepted line.
use mathlib.Core.Bool.{Bool, true, false, not, ◌&&◌, ◌||◌, false≢true, true≢false}
use mathlib.Core.List.{List}
use mathlib.Core.Path.{◌≡◌, refl, sym, ap, ◌∙◌, subst}
use Prim.Native.Nat.{ℕ, ◌+◌, ◌-◌, ◌/◌, ◌%◌, ◌^◌, ◌≤◌, ◌<◌}
use native.Mathlib.Omega.{arith}
use lib.Dec.{leb, ltb, eqb}
use lib.ListN.{length, get_or, set}
use lib.Seq.{get_or-set_same, get_or-set_other}
use borrow.Author.Tests.{leb-true, ltb-true, eqb-true, eqb-false, eq-eqb, ne_eqb, le-ltb}
use Rattle.codepage.specs.CodePage.{pick, entry_at}
use Rattle.listing.specs.declared.Progress.{Progress}
use Rattle.listing.specs.declared.Letter.{Letter}
use Rattle.listing.specs.declared.Letter.TheVariants.{S, L, T, M, W}
use Rattle.listing.specs.declared.Record.TheVariants.{Page, Defaults, Single, Lead, Trail, Pair, Code}
use Rattle.listing.specs.Sets.{in_bytes, add_to_half, empty_half}
use Rattle.listing.specs.Order.{rank, follows, is_listed_lead, accepts, is_new_high, code_block, with_lead, after_page, after_record, blocks_listed, class_of}
use Rattle.listing.specs.Tables.{Tables, change_of}
use Rattle.codepage.proofs.ShapeLaws.{and_left, and_right}
use Rattle.listing_laws.proofs.BitLaws.{half_none, bytes_none, bytes_other, lead_other, with_small}
use Rattle.listing_laws.proofs.FilledLaws.{filled_front_lem}

-- ---- what holds once `P` was read
pub record Holds (s : Progress) (t : Tables) : Type 0 where
  pub page : s.numbers.page ≡ 0 → ⊥
  pub classes : (byte : ℕ) → byte < 256 → entry_at t.classes byte ≡ class_of s byte
  pub low_word : s.leads.low < 2 ^ 64
  pub high_word : s.leads.high < 2 ^ 64
  pub index : (high : ℕ) → high < 256 → entry_at t.index high < blocks_listed s
  pub block : s.block ≤ 255
  pub before : (rank s.letter ≡ 7 → ⊥) → s.block ≡ 0
  pub during : rank s.letter ≡ 7 → (s.block ≡ 0 → 255 ≤ s.key / 256) × (s.block ≤ s.key / 256 + 1)

-- ---- classes after a byte was listed
module _ (classes : List ℕ) (long : 256 ≤ length classes) (s n : Progress) (byte : ℕ) (small : byte < 256) where
  classes_set : ((b : ℕ) → b < 256 → entry_at classes b ≡ class_of s b) → ((b : ℕ) → (b ≡ byte → ⊥) → class_of n b ≡ class_of s b)
      → (b : ℕ) → b < 256 → entry_at (set classes byte (class_of n byte)) b ≡ class_of n b
  classes_set held same b h = by_place (eqb b byte) refl
    where
      by_place : (t : Bool) → eqb b byte ≡ t → entry_at (set classes byte (class_of n byte)) b ≡ class_of n b
      by_place true q =
          let e : b ≡ byte = eqb-true b byte q in
          ap (λ (k : ℕ). get_or (set classes byte (class_of n byte)) k 0) e ∙ get_or-set_same classes byte (class_of n byte) 0 (omega arith) ∙ ap (class_of n) (sym e)
      by_place false q =
          let ne : b ≡ byte → ⊥ = eqb-false b byte q in
          get_or-set_other classes byte b (class_of n byte) 0 ne ∙ held b h ∙ sym (same b ne)

-- ---- the blocks of `W`
pub count_early : (s : Progress) → (rank s.letter ≡ 7 → ⊥) → blocks_listed s ≡ s.block + 1
unfolding blocks_listed
count_early s ne = rw (ne_eqb (rank s.letter) 7 ne)

-- while every high half has a number
pub count_late : (s : Progress) → rank s.letter ≡ 7 → (s.block ≡ 0 → ⊥) → blocks_listed s ≡ s.block + 1
unfolding blocks_listed
count_late s e ne = rw (eq-eqb (rank s.letter) 7 e, ne_eqb s.block 0 ne)

-- once the 256th took block 0
pub count_full : (s : Progress) → rank s.letter ≡ 7 → s.block ≡ 0 → blocks_listed s ≡ 256
unfolding blocks_listed
count_full s e z = rw (eq-eqb (rank s.letter) 7 e, eq-eqb s.block 0 z)

-- what a letter before `W` needs of the block
plain_count : (s n : Progress) → (rank s.letter ≡ 7 → ⊥) → (rank n.letter ≡ 7 → ⊥) → n.block ≡ s.block → blocks_listed n ≡ blocks_listed s
plain_count s n a b e = omega (arith, count_early s a, count_early n b, e)

-- a letter that follows, and the one before it
pub follows_late : (s : Progress) (letter : Letter) (key : ℕ) → follows s letter key ≡ true → 2 ≤ rank s.letter
unfolding follows
follows_late s letter key e = leb-true 2 (rank s.letter) (and_left (leb 2 (rank s.letter)) (ltb (rank s.letter) (rank letter) || eqb (rank s.letter) (rank letter) && ltb s.key key) e)

or_cases : (a b c : Bool) → (a || b && c) ≡ true → (a ≡ false) → (b ≡ true) × (c ≡ true)
or_cases true b c e f = absurd (true≢false f)
or_cases false true true e f = (refl, refl)
or_cases false true false e f = absurd (false≢true e)
or_cases false false c e f = absurd (false≢true e)

-- letters come in their order
pub follows_order : (s : Progress) (letter : Letter) (key : ℕ) → follows s letter key ≡ true → rank s.letter ≤ rank letter
unfolding follows
follows_order s letter key e = by_order (ltb (rank s.letter) (rank letter)) refl
  where
    rest : (ltb (rank s.letter) (rank letter) || eqb (rank s.letter) (rank letter) && ltb s.key key) ≡ true
    rest = and_right (leb 2 (rank s.letter)) (ltb (rank s.letter) (rank letter) || eqb (rank s.letter) (rank letter) && ltb s.key key) e

    by_order : (t : Bool) → ltb (rank s.letter) (rank letter) ≡ t → rank s.letter ≤ rank letter
    by_order true q = omega (arith, ltb-true (rank s.letter) (rank letter) q)
    by_order false q = omega (arith, eqb-true (rank s.letter) (rank letter) (or_cases (ltb (rank s.letter) (rank letter)) (eqb (rank s.letter) (rank letter)) (ltb s.key key) rest q).0)

-- keys rise within a letter
pub follows_key : (s : Progress) (letter : Letter) (key : ℕ) → follows s letter key ≡ true → rank s.letter ≡ rank letter → s.key < key
unfolding follows
follows_key s letter key e same = ltb-true s.key key (or_cases (ltb (rank s.letter) (rank letter)) (eqb (rank s.letter) (rank letter)) (ltb s.key key) rest (le-ltb (rank s.letter) (rank letter) (omega arith))).1
  where
    rest : (ltb (rank s.letter) (rank letter) || eqb (rank s.letter) (rank letter) && ltb s.key key) ≡ true
    rest = and_right (leb 2 (rank s.letter)) (ltb (rank s.letter) (rank letter) || eqb (rank s.letter) (rank letter) && ltb s.key key) e

-- an accepted lead or pair follows
pub lead_follows : (s : Progress) (byte : ℕ) → accepts s (Lead byte) ≡ true → follows s L byte ≡ true
lead_follows s byte e = and_left (follows s L byte) (leb 0x80 byte) (and_left (follows s L byte && leb 0x80 byte) (not (in_bytes s.singles byte)) e)

-- the same of a pair
pub pair_follows : (s : Progress) (code unit : ℕ) → accepts s (Pair code unit) ≡ true → follows s M code ≡ true
pair_follows s code unit e = and_left (follows s M code) (is_listed_lead s.leads (code / 256)) (and_left (follows s M code && is_listed_lead s.leads (code / 256)) (in_bytes s.trails (code % 256)) e)

-- ---- `P`
pub lead_none : (byte : ℕ) → is_listed_lead empty_half byte ≡ false
unfolding is_listed_lead
lead_none byte = ap (λ (t : Bool). leb 0x80 byte && t) (half_none (byte - 0x80)) ∙ and_false (leb 0x80 byte)
  where
    and_false : (t : Bool) → (t && false) ≡ false
    and_false true = refl
    and_false false = refl

no_class : (page byte : ℕ) → class_of (after_page page) byte ≡ 0
no_class page byte = rw (bytes_none byte, lead_none byte)

-- `P`
pub hold_page : (s : Progress) (page : ℕ) (t : Tables) → (page ≡ 0 → ⊥) → 256 ≤ length t.classes → 256 ≤ length t.index → Holds (after_page page) (change_of s (Page page) t)
unfolding blocks_listed
hold_page s page t ne long wide =
    record {
      page = ne;
      classes = λ byte h. filled_front_lem t.classes 256 0 byte h long ∙ sym (no_class page byte);
      low_word = omega arith;
      high_word = omega arith;
      index = λ high h. omega (arith, filled_front_lem t.index 256 0 high h wide);
      block = omega arith;
      before = λ x. refl;
      during = λ e. absurd (omega arith);
    }

-- ---- a letter between `P` and `W`
module _ (s n : Progress) (t u : Tables) (held : Holds s t) (early : rank s.letter ≤ 6) (next : rank n.letter ≤ 6) where
  plain : n.block ≡ s.block → u.index ≡ t.index → n.numbers.page ≡ s.numbers.page
      → ((byte : ℕ) → byte < 256 → entry_at u.classes byte ≡ class_of n byte) → n.leads.low < 2 ^ 64 → n.leads.high < 2 ^ 64 → Holds n u
  plain same_block same_index same_page classes low high =
      record {
        page = λ z. held.page (sym same_page ∙ z);
        classes = classes;
        low_word = low;
        high_word = high;
        index = λ high h. omega (arith, ap (λ (l : List ℕ). entry_at l high) same_index, held.index high h, plain_count s n (λ e. omega arith) (λ e. omega arith) same_block);
        block = omega (arith, held.block);
        before = λ ne. same_block ∙ held.before (λ e. omega arith);
        during = λ e. absurd (omega arith);
      }

module _ (s : Progress) (t : Tables) (held : Holds s t) where
  -- `D`
  pub hold_defaults : (byte unit : ℕ) → accepts s (Defaults byte unit) ≡ true → Holds (after_record s (Defaults byte unit)) (change_of s (Defaults byte unit) t)
  hold_defaults byte unit e =
      plain s (after_record s (Defaults byte unit)) t t held (omega (arith, eqb-true (rank s.letter) 1 e)) (omega arith) refl refl refl held.classes held.low_word held.high_word

  -- `S`
  pub hold_single : (byte unit : ℕ) → byte < 256 → 256 ≤ length t.classes → accepts s (Single byte unit) ≡ true → Holds (after_record s (Single byte unit)) (change_of s (Single byte unit) t)
  hold_single byte unit small long e =
      plain s (after_record s (Single byte unit)) t (change_of s (Single byte unit) t) held (omega (arith, follows_order s S byte e)) (omega arith) refl refl refl
      (classes_set t.classes long s (after_record s (Single byte unit)) byte small held.classes (λ b ne. rw (bytes_other s.singles byte b ne)))
      held.low_word held.high_word

  -- `T`
  pub hold_trail : (byte : ℕ) → byte < 256 → 256 ≤ length t.classes → accepts s (Trail byte) ≡ true → Holds (after_record s (Trail byte)) (change_of s (Trail byte) t)
  hold_trail byte small long e =
      plain s (after_record s (Trail byte)) t (change_of s (Trail byte) t) held (omega (arith, follows_order s T byte e)) (omega arith) refl refl refl
      (classes_set t.classes long s (after_record s (Trail byte)) byte small held.classes (λ b ne. rw (bytes_other s.trails byte b ne)))
      held.low_word held.high_word

  -- `M`
  pub hold_pair : (code unit : ℕ) → accepts s (Pair code unit) ≡ true → Holds (after_record s (Pair code unit)) (change_of s (Pair code unit) t)
  hold_pair code unit e =
      plain s (after_record s (Pair code unit)) t (change_of s (Pair code unit) t) held (omega (arith, follows_order s M code (pair_follows s code unit e))) (omega arith) refl refl refl held.classes held.low_word held.high_word

  lead_words : (byte : ℕ) → byte < 256 → ((with_lead s.leads byte).low < 2 ^ 64) × ((with_lead s.leads byte).high < 2 ^ 64)
  unfolding with_lead add_to_half
  lead_words byte small = by_half (ltb byte 0x80) refl (ltb (byte - 0x80) 64) refl
    where
      by_half : (a : Bool) → ltb byte 0x80 ≡ a → (b : Bool) → ltb (byte - 0x80) 64 ≡ b → ((with_lead s.leads byte).low < 2 ^ 64) × ((with_lead s.leads byte).high < 2 ^ 64)
      by_half true q b r = rw q (held.low_word, held.high_word)
      by_half false q true r = rw (q, r) (with_small s.leads.low (byte - 0x80) held.low_word (ltb-true (byte - 0x80) 64 r), held.high_word)
      by_half false q false r = rw (q, r) (held.low_word, with_small s.leads.high (byte - 0x80 - 64) held.high_word (omega arith))

  -- `L`
  pub hold_lead : (byte : ℕ) → byte < 256 → 256 ≤ length t.classes → accepts s (Lead byte) ≡ true → Holds (after_record s (Lead byte)) (change_of s (Lead byte) t)
  hold_lead byte small long e =
      plain s (after_record s (Lead byte)) t (change_of s (Lead byte) t) held (omega (arith, follows_order s L byte (lead_follows s byte e))) (omega arith) refl refl refl
      (classes_set t.classes long s (after_record s (Lead byte)) byte small held.classes (λ b ne. rw (lead_other s.leads byte b ne)))
      (lead_words byte small).0 (lead_words byte small).1

  -- ---- `W`
  module _ (unit code : ℕ) (small : unit < 65536) (wide : 256 ≤ length t.index) (next : follows s W unit ≡ true) where
    -- the first of its high half: the next block, which the index names
    new_block : is_new_high s unit ≡ true → (s.block ≤ unit / 256) → blocks_listed s ≡ s.block + 1 → Holds (after_record s (Code unit code)) (change_of s (Code unit code) t)
    unfolding code_block blocks_listed
    new_block new low count = by_last (eqb s.block 255) refl
      where
        index_set : (b n : ℕ) → b < n → blocks_listed s ≤ n → (high : ℕ) → high < 256 → entry_at (set t.index (unit / 256) b) high < n
        index_set b n h l high k = by_place (eqb high (unit / 256)) refl
          where
            by_place : (x : Bool) → eqb high (unit / 256) ≡ x → entry_at (set t.index (unit / 256) b) high < n
            by_place true q = omega (arith, ap (λ (m : ℕ). entry_at (set t.index (unit / 256) b) m) (eqb-true high (unit / 256) q), get_or-set_same t.index (unit / 256) b 0 (omega arith))
            by_place false q = omega (arith, get_or-set_other t.index (unit / 256) high b 0 (eqb-false high (unit / 256) q), held.index high k)

        by_last : (x : Bool) → eqb s.block 255 ≡ x → Holds (after_record s (Code unit code)) (change_of s (Code unit code) t)
        by_last true q =
            let e : (s.block + 1) % 256 ≡ 0 = omega (arith, eqb-true s.block 255 q) in
            rw (new, e)
            (record {
              page = held.page;
              classes = held.classes;
              low_word = held.low_word;
              high_word = held.high_word;
              index = index_set 0 256 (omega arith) (omega (arith, count, eqb-true s.block 255 q));
              block = omega arith;
              before = λ ne. absurd (ne refl);
              during = λ w. (λ z. omega (arith, eqb-true s.block 255 q), omega arith);
            })
        by_last false q =
            let e : (s.block + 1) % 256 ≡ s.block + 1 = omega (arith, held.block, eqb-false s.block 255 q) in
            let some : eqb (s.block + 1) 0 ≡ false = ne_eqb (s.block + 1) 0 (λ z. omega arith) in
            rw (new, e)
            (record {
              page = held.page;
              classes = held.classes;
              low_word = held.low_word;
              high_word = held.high_word;
              index = λ high k. rw some (index_set (s.block + 1) (s.block + 1 + 1) (omega arith) (omega (arith, count)) high k);
              block = omega (arith, held.block, eqb-false s.block 255 q);
              before = λ ne. absurd (ne refl);
              during = λ w. (λ z. absurd (omega arith), omega arith);
            })

    -- one more of the last high half: the same block
    same_block : is_new_high s unit ≡ false → rank s.letter ≡ 7 → s.key / 256 ≡ unit / 256 → Holds (after_record s (Code unit code)) (change_of s (Code unit code) t)
    unfolding code_block blocks_listed
    same_block old seven same =
        rw old
        (record {
          page = held.page;
          classes = held.classes;
          low_word = held.low_word;
          high_word = held.high_word;
          index = λ high k. subst (λ (r : ℕ). entry_at t.index high < pick (eqb r 7 && eqb s.block 0) 256 (s.block + 1)) seven (held.index high k);
          block = held.block;
          before = λ ne. absurd (ne refl);
          during = λ w. (λ z. omega (arith, (held.during seven).0 z, same), omega (arith, (held.during seven).1, same));
        })

    -- `W`
    pub hold_code : Holds (after_record s (Code unit code)) (change_of s (Code unit code) t)
    unfolding is_new_high
    hold_code = by_letter (eqb (rank s.letter) 7) refl (eqb (s.key / 256) (unit / 256)) refl
      where
        by_letter : (a : Bool) → eqb (rank s.letter) 7 ≡ a → (b : Bool) → eqb (s.key / 256) (unit / 256) ≡ b → Holds (after_record s (Code unit code)) (change_of s (Code unit code) t)
        by_letter true q true r = same_block (rw (q, r)) (eqb-true (rank s.letter) 7 q) (eqb-true (s.key / 256) (unit / 256) r)
        by_letter true q false r =
            let seven : rank s.letter ≡ 7 = eqb-true (rank s.letter) 7 q in
            let larger : s.key < unit = follows_key s W unit next seven in
            let other : s.key / 256 ≡ unit / 256 → ⊥ = eqb-false (s.key / 256) (unit / 256) r in
            let higher : s.key / 256 < unit / 256 = omega arith in
            let some : s.block ≡ 0 → ⊥ = λ z. omega (arith, (held.during seven).0 z) in
            new_block (rw (q, r)) (omega (arith, (held.during seven).1)) (count_late s seven some)
        by_letter false q b r =
            let early : rank s.letter ≡ 7 → ⊥ = eqb-false (rank s.letter) 7 q in
            new_block (rw q) (omega (arith, held.before early)) (count_early s early)
