-- Laws of looking up, and of a page's profile.
use mathlib.Core.Bool.{Bool, true, false, not, ◌||◌, true≢false}
use mathlib.Core.List.{List}
use mathlib.Core.Path.{◌≡◌, refl, sym, ap, ◌∙◌, subst}
use Prim.Native.Nat.{ℕ, ◌+◌, ◌*◌, ◌/◌, ◌%◌, ◌<◌, ◌≤◌}
use native.Mathlib.Nat.{zero-add}
use native.Mathlib.Omega.{arith}
use lib.Bits.{bit_and, bit_xor, and_le_l, and_le_r, xor_add_and}
use lib.Dec.{leb, ltb, eqb}
use borrow.Author.Tests.{le-leb, lt-leb, leb-true, leb-false, ltb-true, ltb-false, eq-eqb, ne_eqb, eqb-true}
use Rattle.codepage.specs.CodePage.{pick, entry_at, is_known, is_single, is_lead, is_trail, leads_below}
use Rattle.codepage.specs.Marks.{mark_of}
use Rattle.codepage_lookup.specs.Profile.{SettledAs, unit_entry, ClearPage, NoCodes}
use Rattle.codepage.specs.Reading.{lookup, byte_alone, byte_joins, byte_pair, is_high, is_low, is_surrogate, unit_code, unit_alone, decoder, encoder, settled}
use Rattle.codepage.specs.declared.Kind.{Kind}
use Rattle.codepage.specs.declared.Kind.TheVariants.{UndefinedSingle, UndefinedPair, Invalid}
use Rattle.codepage.specs.Reading.{Lookup}
use Rattle.std.specs.Prelude.{Ok, Err}
use Rattle.codepage.proofs.ReadingLaws.{high_alone, alone_looked_up, below_surrogates, from_surrogates}
use Rattle.codepage.proofs.MarkLaws.{all_below, all_below_lem, or_else}

-- ---- bits
-- numbers without a bit in which they differ are equal
pub xor_none : (a b : ℕ) → bit_xor a b ≡ 0 → a ≡ b
xor_none a b e = omega (arith, xor_add_and a b, and_le_l a b, and_le_r a b)

-- ---- single bytes
single_right : ℕ → Bool
single_right class = not (eqb (bit_xor (bit_and class 0xFB) 1) 0) || is_single class

single_right_lem : all_below single_right 256 ≡ true
unfolding single_right is_single
single_right_lem = refl

-- the test of a single, by bits: the class without its 4 is 1
pub single_class : (class : ℕ) → class < 256 → bit_xor (bit_and class 0xFB) 1 ≡ 0 → is_single class ≡ true
unfolding single_right
single_class class c e = or_else (not (eqb (bit_xor (bit_and class 0xFB) 1) 0)) (is_single class) (ap not (eq-eqb _ _ e)) (all_below_lem single_right 256 single_right_lem class c)

-- bit 1 of a known class tells a lead, bit 0 a single
lead_right : ℕ → Bool
lead_right class = not (is_known class) || eqb (mark_of (eqb (bit_and class 2) 2)) (mark_of (is_lead class))

lead_right_lem : all_below lead_right 256 ≡ true
unfolding lead_right is_known is_lead
lead_right_lem = refl

odd_right : ℕ → Bool
odd_right class = not (is_known class) || (not (eqb (bit_and class 1) 1) || is_single class)

odd_right_lem : all_below odd_right 256 ≡ true
unfolding odd_right is_known is_single
odd_right_lem = refl

same_mark : (s t : Bool) → mark_of s ≡ mark_of t → s ≡ t
same_mark true true e = refl
same_mark true false e = absurd (omega (arith, e))
same_mark false true e = absurd (omega (arith, e))
same_mark false false e = refl

pub known_lead_bit : (class : ℕ) → class < 256 → is_known class ≡ true → eqb (bit_and class 2) 2 ≡ is_lead class
unfolding lead_right
known_lead_bit class h k =
    same_mark _ _ (eqb-true _ _ (or_else (not (is_known class)) (eqb (mark_of (eqb (bit_and class 2) 2)) (mark_of (is_lead class))) (ap not k) (all_below_lem lead_right 256 lead_right_lem class h)))

pub known_single_bit : (class : ℕ) → class < 256 → is_known class ≡ true → bit_and class 1 ≡ 1 → is_single class ≡ true
unfolding odd_right
known_single_bit class h k e =
    let rest = or_else (not (is_known class)) (not (eqb (bit_and class 1) 1) || is_single class) (ap not k) (all_below_lem odd_right 256 odd_right_lem class h) in
    or_else (not (eqb (bit_and class 1) 1)) (is_single class) (ap not (eq-eqb _ _ e)) rest

-- a single is no lead
pub single_no_lead : (class : ℕ) → is_single class ≡ true → is_lead class ≡ false
unfolding is_single is_lead
single_no_lead class e = by_one (eqb class 1) refl
  where
    by_one : (t : Bool) → eqb class 1 ≡ t → (eqb class 2 || eqb class 6) ≡ false
    by_one true q = rw (eqb-true class 1 q)
    by_one false q = rw (eqb-true class 5 (or_else (eqb class 1) (eqb class 5) q e))

-- ---- a lead, settled by the byte after it
lead_no_single : (class : ℕ) (t : Bool) → is_single class ≡ t → is_lead class ≡ true → is_single class ≡ false
lead_no_single class true q e = absurd (true≢false (sym e ∙ single_no_lead class q))
lead_no_single class false q e = q

module _ (classes singles pairs : List ℕ) (lead byte : ℕ) where
  -- a byte that may be second
  pub settled_second : {means : Lookup} → is_trail (entry_at classes byte) ≡ true → means ≡ lookup UndefinedPair (entry_at pairs (256 * leads_below classes lead + byte))
      → SettledAs (settled (decoder classes singles pairs) lead byte) (record { means = means; more = 1 })
  unfolding settled decoder byte_joins byte_pair
  settled_second e q = record { means = q ∙ sym (rw e); more = rw e }

  -- one that may not be: of 80 or more, and below 80
  pub settled_high : is_trail (entry_at classes byte) ≡ false → 0x80 ≤ byte → SettledAs (settled (decoder classes singles pairs) lead byte) (record { means = Err Invalid; more = 1 })
  unfolding settled decoder byte_joins byte_pair
  settled_high e h = record { means = rw (e, le-leb 0x80 byte h); more = rw (e, le-leb 0x80 byte h) }

  -- below 80: the lead is invalid alone, and the byte is read afresh (CR 2)
  pub settled_low : is_lead (entry_at classes lead) ≡ true → is_trail (entry_at classes byte) ≡ false → byte < 0x80
      → SettledAs (settled (decoder classes singles pairs) lead byte) (record { means = Err Invalid; more = 0 })
  unfolding settled decoder byte_joins byte_alone
  settled_low l e h =
      let single : is_single (entry_at classes lead) ≡ false = lead_no_single (entry_at classes lead) (is_single (entry_at classes lead)) refl l in
      record { means = rw (e, lt-leb 0x80 byte h, single); more = rw (e, lt-leb 0x80 byte h) }

-- ---- a high surrogate, settled by the unit after it
module _ (index blocks : List ℕ) (high unit : ℕ) where
  -- a low surrogate after it: both are one undefined single (CR 5)
  pub settled_pair : is_low unit ≡ true → SettledAs (settled (encoder index blocks) high unit) (record { means = Err UndefinedSingle; more = 1 })
  unfolding settled encoder
  settled_pair e = record { means = rw e; more = rw e }

  -- any other unit after it: the high surrogate is invalid alone, and that unit is read afresh
  pub settled_alone : is_high high ≡ true → is_low unit ≡ false → SettledAs (settled (encoder index blocks) high unit) (record { means = Err Invalid; more = 0 })
  unfolding settled encoder
  settled_alone h e = record { means = rw e (sym (high_alone index blocks high h)); more = rw e }

-- ---- entries that are a character
pub found_entry : (kind : Kind) (value : ℕ) → (value ≡ 0xFFFF → ⊥) → lookup kind value ≡ Ok value
unfolding lookup
found_entry kind value n = rw (ne_eqb value 0xFFFF n)

-- a single below 80 whose entry is itself has itself as character
pub plain_byte : (classes singles : List ℕ) (byte : ℕ) → byte < 0x80 → is_single (entry_at classes byte) ≡ true → entry_at singles (0 + byte) ≡ byte → byte_alone classes singles byte ≡ Ok byte
unfolding byte_alone
plain_byte classes singles byte h e q =
    let at : entry_at singles byte ≡ byte = rw (zero-add byte) at q in
    rw (e, at) (found_entry _ byte (λ z. omega arith))

-- a byte that has a character alone is a single
pub found_single : (classes singles : List ℕ) (byte unit : ℕ) → byte_alone classes singles byte ≡ Ok unit → is_single (entry_at classes byte) ≡ true
unfolding byte_alone
found_single classes singles byte unit = by_class (is_single (entry_at classes byte))
  where
    by_class : (t : Bool) → pick t (lookup UndefinedSingle (entry_at singles byte)) (Err Invalid) ≡ Ok unit → t ≡ true
    by_class true e = refl
    by_class false e = let z : ◌≡◌ {A = ℕ} 0 1 = cc in absurd (omega arith)

-- a page that is clear below 80 and from there on is clear
pub clear_page : (classes singles : List ℕ) → ((byte : ℕ) → byte < 0x80 → is_single (entry_at classes byte) ≡ true)
    → ((byte : ℕ) → 0x80 ≤ byte → byte < 256 → (entry_at singles byte ≡ 0xFFFF → ⊥) → is_single (entry_at classes byte) ≡ true) → ClearPage classes singles
clear_page classes singles low high byte h n = by_half (ltb byte 0x80) refl
  where
    by_half : (t : Bool) → ltb byte 0x80 ≡ t → is_single (entry_at classes byte) ≡ true
    by_half true q = low byte (ltb-true byte 0x80 q)
    by_half false q = high byte (ltb-false byte 0x80 q) h n

-- a unit below 80 whose entry is itself has itself as code
pub plain_unit : (index blocks : List ℕ) (unit : ℕ) → unit < 0x80 → entry_at blocks (256 * entry_at index 0 + unit) ≡ unit → unit_alone index blocks unit ≡ Ok unit
unfolding unit_code
plain_unit index blocks unit h q =
    let high : unit / 256 ≡ 0 = omega arith in
    let low : unit % 256 ≡ unit = omega arith in
    alone_looked_up index blocks unit (below_surrogates unit (omega arith)) ∙ rw (high, low, q) (found_entry _ unit (λ z. omega arith))

-- a unit alone, by its entry
pub alone_invalid : (index blocks : List ℕ) (unit : ℕ) → is_surrogate unit ≡ true → unit_alone index blocks unit ≡ Err Invalid
unfolding unit_alone
alone_invalid index blocks unit e = rw e

-- a unit that is no surrogate means what its entry says
pub alone_entry : (index blocks : List ℕ) (unit value : ℕ) (found : Lookup) → is_surrogate unit ≡ false → value ≡ unit_entry index blocks unit → found ≡ lookup UndefinedSingle value
    → found ≡ unit_alone index blocks unit
unfolding unit_alone unit_code
alone_entry index blocks unit value found e q f = rw e (f ∙ ap (lookup UndefinedSingle) q)

-- a unit's entry that is a code is what it means, where no surrogate's entry is one (`NoCodes`)
pub code_found : (index blocks : List ℕ) (unit value : ℕ) → (is_surrogate unit ≡ true → unit_entry index blocks unit ≡ 0xFFFF) → value ≡ unit_entry index blocks unit → (value ≡ 0xFFFF → ⊥)
    → unit_alone index blocks unit ≡ Ok value
code_found index blocks unit value none q n =
    sym (alone_entry index blocks unit value (lookup UndefinedSingle value) (by_unit (is_surrogate unit) refl) q refl) ∙ found_entry UndefinedSingle value n
  where
    by_unit : (t : Bool) → is_surrogate unit ≡ t → t ≡ false
    by_unit true e = absurd (n (q ∙ none e))
    by_unit false e = refl

-- ---- entries that are none
pub and_none : (a b : ℕ) → a < 65536 → b < 65536 → bit_and a b ≡ 0xFFFF → (a ≡ 0xFFFF) × (b ≡ 0xFFFF)
and_none a b h k e = (omega (arith, and_le_l a b), omega (arith, and_le_r a b))

-- a surrogate's high half is D8 to DF
pub surrogate_half : (unit : ℕ) → is_surrogate unit ≡ true → (0xD8 ≤ unit / 256) × (unit / 256 ≤ 0xDF)
surrogate_half unit e = by_low (leb 0xD800 unit) refl
  where
    by_low : (t : Bool) → leb 0xD800 unit ≡ t → (0xD8 ≤ unit / 256) × (unit / 256 ≤ 0xDF)
    by_low true q =
        let from : 0xD800 ≤ unit = leb-true 0xD800 unit q in
        let to : unit ≤ 0xDFFF = leb-true unit 0xDFFF (sym (from_surrogates unit from) ∙ e) in
        (omega arith, omega arith)
    by_low false q = absurd (true≢false (sym e ∙ below_surrogates unit (leb-false 0xD800 unit q)))

-- the entries of a block are all none
abbrev pub Empty : (blocks : List ℕ) (block : ℕ) → Type 0
Empty blocks block = (k : ℕ) → k < 256 → entry_at blocks (256 * block + k) ≡ 0xFFFF

-- one high half more whose block has no code
pub empties_more : (index blocks : List ℕ) (from half : ℕ) → ((h : ℕ) → from ≤ h → h < half → Empty blocks (entry_at index h)) → Empty blocks (entry_at index half)
    → (h : ℕ) → from ≤ h → h < half + 1 → Empty blocks (entry_at index h)
empties_more index blocks from half all this h a b = by_place (ltb h half) refl
  where
    by_place : (t : Bool) → ltb h half ≡ t → Empty blocks (entry_at index h)
    by_place true q = all h a (ltb-true h half q)
    by_place false q =
        let at : h ≡ half = omega (arith, ltb-false h half q) in
        subst (λ (x : ℕ). Empty blocks (entry_at index x)) (sym at) this

-- the blocks of these halves have no code
pub halves_clear : (index blocks : List ℕ) → ((half : ℕ) → 0xD8 ≤ half → half ≤ 0xDF → Empty blocks (entry_at index half)) → (piece : List ℕ) → NoCodes index blocks piece
halves_clear index blocks clear piece k e =
    let half = surrogate_half (entry_at piece k) e in
    clear (entry_at piece k / 256) half.0 half.1 (entry_at piece k % 256) (omega arith)

-- a piece below D800 has no surrogate
pub below_clear : (index blocks piece : List ℕ) → ((k : ℕ) → entry_at piece k < 0xD800) → NoCodes index blocks piece
below_clear index blocks piece small k e = absurd (true≢false (sym e ∙ below_surrogates (entry_at piece k) (small k)))
