-- The codes of units, line by line: blocks are numbered as they come, and a `W` record changes the code of its unit alone.
use mathlib.Core.Bool.{Bool, true, false, ◌&&◌, false≢true}
use mathlib.Core.Path.{◌≡◌, refl, sym, ap, ◌∙◌, subst}
use Prim.Native.Nat.{ℕ, ◌+◌, ◌*◌, ◌/◌, ◌%◌, ◌≤◌, ◌<◌}
use native.Mathlib.Omega.{arith}
use lib.Dec.{eqb}
use lib.ListN.{length}
use borrow.Author.Tests.{eqb-true, eqb-false, eq-eqb, ne_eqb}
use Rattle.codepage.specs.CodePage.{pick}
use Rattle.codepage_lookup.specs.Profile.{unit_entry}
use Rattle.listing.specs.declared.Progress.{Progress}
use Rattle.listing.specs.declared.Letter.TheVariants.{S, L, T, M, W}
use Rattle.listing.specs.declared.Record.{Record}
use Rattle.listing.specs.declared.Record.TheVariants.{Page, Defaults, Single, Lead, Trail, Pair, Code, NoRecord}
use Rattle.listing.specs.Order.{rank, follows, accepts, is_new_high, code_block, after_record}
use Rattle.listing.specs.Tables.{Tables, filled, opened_block, change_of}
use Rattle.listing_laws.proofs.FilledLaws.{filled_front_lem}
use Rattle.listing_laws.proofs.NumberLaws.{Numbered, numbered_on, numbered_none, OneChanged, same_half, same_changed, block_small, new_half, new_changed, last_half, last_changed}
use Rattle.listing_laws.proofs.HoldLaws.{follows_late, follows_order, follows_key, lead_follows, pair_follows}

-- index and blocks as what has been read numbers them
abbrev pub NumberedBy : Progress → Tables → Type 0
NumberedBy s t = Numbered (eqb (rank s.letter) 7) (s.key / 256) s.block t.index t.blocks

-- the code of one unit is changed, and no other
abbrev pub OneCode : (t u : Tables) → (unit code : ℕ) → Type 0
OneCode t u unit code = (v : ℕ) → v < 65536 → unit_entry u.index u.blocks v ≡ pick (eqb v unit) code (unit_entry t.index t.blocks v)

-- halves that are equal are those of one unit
by_halves : (t u : Tables) (unit code : ℕ) → unit < 65536 → OneChanged t.index t.blocks u.index u.blocks (unit / 256) (unit % 256) code → OneCode t u unit code
by_halves t u unit code small one v h = one (v / 256) (v % 256) (omega arith) (omega arith) ∙ ap (λ (x : Bool). pick x code (unit_entry t.index t.blocks v)) same
  where
    same : (eqb (v / 256) (unit / 256) && eqb (v % 256) (unit % 256)) ≡ eqb v unit
    same = by_place (eqb v unit) refl (eqb (v / 256) (unit / 256)) refl (eqb (v % 256) (unit % 256)) refl
      where
        by_place : (x : Bool) → eqb v unit ≡ x → (y : Bool) → eqb (v / 256) (unit / 256) ≡ y → (z : Bool) → eqb (v % 256) (unit % 256) ≡ z → (eqb (v / 256) (unit / 256) && eqb (v % 256) (unit % 256)) ≡ eqb v unit
        by_place true q y w z o =
            let e : v ≡ unit = eqb-true v unit q in
            rw (eq-eqb (v / 256) (unit / 256) (ap (λ (x : ℕ). x / 256) e), eq-eqb (v % 256) (unit % 256) (ap (λ (x : ℕ). x % 256) e), q)
        by_place false q true w true o = absurd (eqb-false v unit q (omega (arith, eqb-true (v / 256) (unit / 256) w, eqb-true (v % 256) (unit % 256) o)))
        by_place false q true w false o = rw (w, o, q)
        by_place false q false w z o = rw (w, q)

-- ---- a `W` record
pub record CodePut (s : Progress) (t : Tables) (unit code : ℕ) : Type 0 where
  pub numbers : NumberedBy (after_record s (Code unit code)) (change_of s (Code unit code) t)
  pub one : OneCode t (change_of s (Code unit code) t) unit code

module _ (s : Progress) (t : Tables) (n : NumberedBy s t) (unit code : ℕ) (small : unit < 65536) (next : follows s W unit ≡ true) (wide : 256 ≤ length t.index) (room : 256 * code_block s unit + 256 ≤ length t.blocks) where
  high : unit / 256 < 256
  high = omega arith

  low : unit % 256 < 256
  low = omega arith

  -- the first of its high half
  new_put : is_new_high s unit ≡ true → (eqb (rank s.letter) 7 ≡ true → s.key / 256 < unit / 256) → CodePut s t unit code
  unfolding code_block opened_block
  new_put new fresh = by_last (eqb s.block 255) refl
    where
      most : s.block ≤ unit / 256
      most = block_small (eqb (rank s.letter) 7) (s.key / 256) s.block t.index t.blocks n (unit / 256) high fresh (unit % 256) code low wide

      by_last : (x : Bool) → eqb s.block 255 ≡ x → CodePut s t unit code
      by_last true q =
          let all : s.block ≡ 255 = eqb-true s.block 255 q in
          let e : (s.block + 1) % 256 ≡ 0 = omega arith in
          let block : code_block s unit ≡ 0 = rw (new, e) in
          let long : 256 ≤ length t.blocks = omega (arith, room, block) in
          record {
            numbers = rw (new, e) (last_half (eqb (rank s.letter) 7) (s.key / 256) s.block t.index t.blocks n (unit / 256) high fresh (unit % 256) code low wide all long);
            one = by_halves t (change_of s (Code unit code) t) unit code small (rw (new, e) (last_changed (eqb (rank s.letter) 7) (s.key / 256) s.block t.index t.blocks n (unit / 256) high fresh (unit % 256) code low wide all long));
          }
      by_last false q =
          let e : (s.block + 1) % 256 ≡ s.block + 1 = omega (arith, most, eqb-false s.block 255 q) in
          let block : code_block s unit ≡ s.block + 1 = rw (new, e) in
          let some : eqb (s.block + 1) 0 ≡ false = ne_eqb (s.block + 1) 0 (λ z. omega arith) in
          let long : 256 * (s.block + 1) + 256 ≤ length t.blocks = omega (arith, room, block) in
          record {
            numbers = rw (new, e, some) (new_half (eqb (rank s.letter) 7) (s.key / 256) s.block t.index t.blocks n (unit / 256) high fresh (unit % 256) code low wide (s.block + 1) refl long);
            one = by_halves t (change_of s (Code unit code) t) unit code small (rw (new, e, some) (new_changed (eqb (rank s.letter) 7) (s.key / 256) s.block t.index t.blocks n (unit / 256) high fresh (unit % 256) code low wide (s.block + 1) refl long));
          }

  -- one more of the last high half
  same_put : is_new_high s unit ≡ false → eqb (rank s.letter) 7 ≡ true → s.key / 256 ≡ unit / 256 → CodePut s t unit code
  unfolding code_block
  same_put old late same =
      let block : code_block s unit ≡ s.block = rw old in
      let long : 256 * s.block + 256 ≤ length t.blocks = omega (arith, room, block) in
      record {
        numbers = rw old (same_half (unit / 256) s.block t.index t.blocks here high (unit % 256) code low long);
        one = by_halves t (change_of s (Code unit code) t) unit code small (rw old (same_changed (unit / 256) s.block t.index t.blocks here high (unit % 256) code low long));
      }
    where
      here : Numbered true (unit / 256) s.block t.index t.blocks
      here = subst (λ (x : ℕ). Numbered true x s.block t.index t.blocks) same (subst (λ (x : Bool). Numbered x (s.key / 256) s.block t.index t.blocks) late n)

  -- a `W` record, the first of its high half or not
  pub code_put : CodePut s t unit code
  unfolding is_new_high
  code_put = by_letter (eqb (rank s.letter) 7) refl (eqb (s.key / 256) (unit / 256)) refl
    where
      by_letter : (a : Bool) → eqb (rank s.letter) 7 ≡ a → (b : Bool) → eqb (s.key / 256) (unit / 256) ≡ b → CodePut s t unit code
      by_letter true q true r = same_put (rw (q, r)) q (eqb-true (s.key / 256) (unit / 256) r)
      by_letter true q false r =
          let larger : s.key < unit = follows_key s W unit next (eqb-true (rank s.letter) 7 q) in
          let other : s.key / 256 ≡ unit / 256 → ⊥ = eqb-false (s.key / 256) (unit / 256) r in
          new_put (rw (q, r)) (λ x. omega arith)
      by_letter false q b r = new_put (rw q) (λ x. absurd (false≢true (sym q ∙ x)))

-- ---- every record
module _ (s : Progress) (t : Tables) where
  -- a letter before `W`, behind one before `W`
  early : (key : ℕ) → rank s.letter ≤ 6 → NumberedBy s t → Numbered false key s.block t.index t.blocks
  early key h n = numbered_on (s.key / 256) key s.block t.index t.blocks (subst (λ (x : Bool). Numbered x (s.key / 256) s.block t.index t.blocks) (ne_eqb (rank s.letter) 7 (λ e. omega arith)) n)

  -- every record keeps the numbers
  pub number_record : (r : Record) → accepts s r ≡ true → ((1 ≤ rank s.letter) → NumberedBy s t) → 256 ≤ length t.index → 256 ≤ length t.blocks
      → ((unit code : ℕ) → r ≡ Code unit code → (unit < 65536) × (256 * code_block s unit + 256 ≤ length t.blocks)) → NumberedBy (after_record s r) (change_of s r t)
  number_record (Page page) e n wide long room = numbered_none 0 (filled t.index 0 256 0) (filled t.blocks 0 256 0xFFFF) (λ i h. filled_front_lem t.index 256 0 i h wide) (λ i h. filled_front_lem t.blocks 256 0xFFFF i h long)
  number_record (Defaults byte unit) e n wide long room = let one : rank s.letter ≡ 1 = eqb-true (rank s.letter) 1 e in early 0 (omega arith) (n (omega arith))
  number_record (Single byte unit) e n wide long room = early (byte / 256) (omega (arith, follows_order s S byte e)) (n (omega (arith, follows_late s S byte e)))
  number_record (Lead byte) e n wide long room = early (byte / 256) (omega (arith, follows_order s L byte (lead_follows s byte e))) (n (omega (arith, follows_late s L byte (lead_follows s byte e))))
  number_record (Trail byte) e n wide long room = early (byte / 256) (omega (arith, follows_order s T byte e)) (n (omega (arith, follows_late s T byte e)))
  number_record (Pair code unit) e n wide long room = early (code / 256) (omega (arith, follows_order s M code (pair_follows s code unit e))) (n (omega (arith, follows_late s M code (pair_follows s code unit e))))
  number_record (Code unit code) e n wide long room = (code_put s t (n (omega (arith, follows_late s W unit e))) unit code (room unit code refl).0 e wide (room unit code refl).1).numbers
  number_record NoRecord e n wide long room = absurd (false≢true e)
