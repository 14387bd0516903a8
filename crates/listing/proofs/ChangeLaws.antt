-- Laws of the changes to the tables, record by record.
use mathlib.Core.Bool.{Bool, true, false, not, ◌&&◌}
use mathlib.Core.List.{List}
use mathlib.Core.Path.{◌≡◌, refl, sym, ap, ap₂, ◌∙◌}
use Prim.Native.Nat.{ℕ, ◌+◌, ◌-◌, ◌*◌, ◌/◌, ◌%◌, ◌≤◌}
use native.Mathlib.Omega.{arith}
use lib.Dec.{leb, eqb}
use lib.ListN.{length, set}
use borrow.Author.Tests.{leb-true, le-leb, le-ltb, eqb-true}
use Rattle.codepage.specs.CodePage.{pick}
use Rattle.listing.specs.declared.Progress.{Progress}
use Rattle.codepage.specs.declared.Sizes.{Sizes}
use Rattle.listing.specs.declared.Record.{Record}
use Rattle.listing.specs.declared.Record.TheVariants.{Page, Single, Lead, Trail, Pair, Code}
use Rattle.listing.specs.declared.Letter.TheVariants.{L, M}
use Rattle.listing.specs.Sets.{in_bytes, count_half}
use Rattle.listing.specs.Order.{rank, follows, is_listed_lead, with_lead, accepts, after_record, code_block, blocks_listed, sizes_listed, class_of}
use Rattle.listing.specs.declared.Refusal.TheVariants.{BadLine, TooSmall}
use Rattle.std.specs.declared.result.Result.TheVariants.{Ok, Err}
use Rattle.listing.specs.Form.{record_of}
use Rattle.listing.specs.Steps.{Fits, RecordReady}
use Rattle.listing.specs.Tables.{Tables, tables, filled, lead_block, change_of, tables_fit, reading_as, read_record, line_reading}
use Rattle.listing.proofs.SetLaws.{half_with}
use Rattle.codepage.proofs.ShapeLaws.{and_left, and_right}

-- ---- sizes
pub some_block : (s : Progress) → 1 ≤ blocks_listed s
unfolding blocks_listed
some_block s = by_case (eqb (rank s.letter) 7 && eqb s.block 0)
  where
    by_case : (t : Bool) → 1 ≤ pick t 256 (s.block + 1)
    by_case true = omega arith
    by_case false = omega arith

-- what the test of the sizes says of each table
pub fit_known : (n : Sizes) (classes singles pairs index blocks : List ℕ) → tables_fit n (tables classes singles pairs index blocks) ≡ true → Fits n classes singles pairs index blocks
unfolding tables_fit
fit_known n classes singles pairs index blocks e =
    let a : Bool = leb n.classes (length classes) in
    let b : Bool = leb n.singles (length singles) in
    let c : Bool = leb n.pairs (length pairs) in
    let d : Bool = leb n.index (length index) in
    let e₁ : (a && b && c && d) ≡ true = and_left (a && b && c && d) (leb n.blocks (length blocks)) e in
    let e₂ : (a && b && c) ≡ true = and_left (a && b && c) d e₁ in
    let e₃ : (a && b) ≡ true = and_left (a && b) c e₂ in
    record {
      classes_fit = leb-true n.classes (length classes) (and_left a b e₃);
      singles_fit = leb-true n.singles (length singles) (and_right a b e₃);
      pairs_fit = leb-true n.pairs (length pairs) (and_right (a && b) c e₂);
      index_fit = leb-true n.index (length index) (and_right (a && b && c) d e₁);
      blocks_fit = leb-true n.blocks (length blocks) (and_right (a && b && c && d) (leb n.blocks (length blocks)) e);
    }

-- ---- what a record needs and changes; `n` is what has been read after it
module _ {s n : Progress} {r : Record} {classes singles pairs index blocks : List ℕ} (ready : RecordReady s n r classes singles pairs index blocks) where
  -- the classes are whole
  pub classes_room : 256 ≤ length classes
  unfolding sizes_listed
  classes_room = ready.fits.classes_fit

  -- the singles are whole
  pub singles_room : 256 ≤ length singles
  unfolding sizes_listed
  singles_room = ready.fits.singles_fit

  -- the index is whole
  pub index_room : 256 ≤ length index
  unfolding sizes_listed
  index_room = ready.fits.index_fit

  -- there are pairs for each lead listed
  pub pairs_room : (sizes_listed n).pairs ≤ length pairs
  pairs_room = rw (ap (λ (m : Progress). (sizes_listed m).pairs) ready.next) ready.fits.pairs_fit

  -- there is the empty block
  pub blocks_room : 256 ≤ length blocks
  unfolding sizes_listed
  blocks_room = omega (arith, ready.fits.blocks_fit, some_block (after_record s r))

  -- what a `P` changes
  pub page_change : (page : ℕ) (classes' singles' index' blocks' : List ℕ) → r ≡ Page page → classes' ≡ filled classes 0 256 0 → singles' ≡ filled singles 0 256 0xFFFF → index' ≡ filled index 0 256 0 → blocks' ≡ filled blocks 0 256 0xFFFF → tables classes' singles' pairs index' blocks' ≡ change_of s r (tables classes singles pairs index blocks)
  page_change page classes' singles' index' blocks' e f g h k = rw (e, f, g, h, k)

  -- what an `S` changes
  pub single_change : (byte unit : ℕ) (classes' singles' : List ℕ) → r ≡ Single byte unit → classes' ≡ set classes byte (class_of n byte) → singles' ≡ set singles byte unit → tables classes' singles' pairs index blocks ≡ change_of s r (tables classes singles pairs index blocks)
  single_change byte unit classes' singles' e f g =
      ap₂ (λ (x y : List ℕ). tables x y pairs index blocks) (f ∙ ap (λ (m : Progress). set classes byte (class_of m byte)) (ready.next ∙ ap (after_record s) e)) g
      ∙ ap (λ (q : Record). change_of s q (tables classes singles pairs index blocks)) (sym e)

  -- what an `L` changes
  pub lead_change : (byte : ℕ) (classes' pairs' : List ℕ) → r ≡ Lead byte → classes' ≡ set classes byte (class_of n byte) → pairs' ≡ filled pairs (256 * lead_block n byte) 256 0xFFFF → tables classes' singles pairs' index blocks ≡ change_of s r (tables classes singles pairs index blocks)
  lead_change byte classes' pairs' e f g =
      ap₂ (λ (x y : List ℕ). tables x singles y index blocks) (f ∙ ap (λ (m : Progress). set classes byte (class_of m byte)) (ready.next ∙ ap (after_record s) e)) (g ∙ ap (λ (m : Progress). filled pairs (256 * lead_block m byte) 256 0xFFFF) (ready.next ∙ ap (after_record s) e))
      ∙ ap (λ (q : Record). change_of s q (tables classes singles pairs index blocks)) (sym e)

  -- what a `T` changes
  pub trail_change : (byte : ℕ) (classes' : List ℕ) → r ≡ Trail byte → classes' ≡ set classes byte (class_of n byte) → tables classes' singles pairs index blocks ≡ change_of s r (tables classes singles pairs index blocks)
  trail_change byte classes' e f =
      ap (λ (x : List ℕ). tables x singles pairs index blocks) (f ∙ ap (λ (m : Progress). set classes byte (class_of m byte)) (ready.next ∙ ap (after_record s) e))
      ∙ ap (λ (q : Record). change_of s q (tables classes singles pairs index blocks)) (sym e)

  -- an accepted lead is listed
  pub lead_listed : (byte : ℕ) → r ≡ Lead byte → is_listed_lead n.leads byte ≡ true
  unfolding is_listed_lead with_lead
  lead_listed byte e =
      let accepted : (follows s L byte && leb 0x80 byte && not (in_bytes s.singles byte)) ≡ true = ap (accepts s) (sym e) ∙ ready.accepted in
      let high : 0x80 ≤ byte = leb-true 0x80 byte (and_right (follows s L byte) (leb 0x80 byte) (and_left (follows s L byte && leb 0x80 byte) (not (in_bytes s.singles byte)) accepted)) in
      ap (λ (m : Progress). is_listed_lead m.leads byte) (ready.next ∙ ap (after_record s) e)
      ∙ rw (le-ltb byte 0x80 high, le-leb 0x80 byte high) (half_with s.leads (byte - 0x80))

  -- a pair's lead is listed
  pub pair_listed : (code unit : ℕ) → r ≡ Pair code unit → is_listed_lead s.leads (code / 256) ≡ true
  pair_listed code unit e =
      let accepted : (follows s M code && is_listed_lead s.leads (code / 256) && in_bytes s.trails (code % 256)) ≡ true = ap (accepts s) (sym e) ∙ ready.accepted in
      and_right (follows s M code) (is_listed_lead s.leads (code / 256)) (and_left (follows s M code && is_listed_lead s.leads (code / 256)) (in_bytes s.trails (code % 256)) accepted)

  -- a pair's lead has its pairs
  pub pair_room : (code unit : ℕ) → r ≡ Pair code unit → (sizes_listed s).pairs ≤ length pairs
  unfolding sizes_listed
  pair_room code unit e = omega (arith, ap (λ (q : Record). 256 * count_half (after_record s q).leads) e, ready.fits.pairs_fit)

  -- the block of a `W` is there
  pub code_room : (unit code : ℕ) → r ≡ Code unit code → 256 * code_block s unit + 256 ≤ length blocks
  unfolding sizes_listed blocks_listed
  code_room unit code e = omega (arith, ap (λ (q : Record). 256 * blocks_listed (after_record s q)) e, ready.fits.blocks_fit, by_case (eqb (code_block s unit) 0) refl)
    where
      by_case : (t : Bool) → eqb (code_block s unit) 0 ≡ t → code_block s unit + 1 ≤ pick (eqb (code_block s unit) 0) 256 (code_block s unit + 1)
      by_case true q = rw q (omega (arith, eqb-true (code_block s unit) 0 q))
      by_case false q = rw q (omega arith)

-- ---- the answers of a call
module _ (s : Progress) (r : Record) (line : List ℕ) (t : Tables) (a : Bool) (record_is : r ≡ record_of line) (accepted_is : a ≡ accepts s r) where
  as_record : line_reading s line t ≡ read_record s r t
  unfolding line_reading
  as_record = ap (λ (q : Record). read_record s q t) (sym record_is)

  -- 22
  pub refused_line : a ≡ false → reading_as (Err BadLine) t ≡ line_reading s line t
  unfolding read_record
  refused_line e = sym (as_record ∙ rw (sym accepted_is ∙ e, read_record))

  module _ (n : Progress) (size : Sizes) (room : Bool) (agreed : a ≡ true) (next_is : n ≡ after_record s r) (size_is : size ≡ sizes_listed n) (room_is : room ≡ tables_fit size t) where
    room_all : tables_fit (sizes_listed (after_record s r)) t ≡ room
    room_all = sym (room_is ∙ ap (λ (z : Sizes). tables_fit z t) (size_is ∙ ap sizes_listed next_is))

    -- 23
    pub refused_room : room ≡ false → reading_as (Err TooSmall) t ≡ line_reading s line t
    unfolding read_record
    refused_room e = sym (as_record ∙ rw (sym accepted_is ∙ agreed, room_all ∙ e, read_record))

    -- an accepted line
    pub accepted_line : (after_call : Tables) → room ≡ true → after_call ≡ change_of s r t → reading_as (Ok n) after_call ≡ line_reading s line t
    unfolding read_record
    accepted_line after_call e f =
        ap₂ (λ (m : Progress) (u : Tables). reading_as (Ok m) u) next_is f
        ∙ sym (as_record ∙ rw (sym accepted_is ∙ agreed, room_all ∙ e, read_record))

-- what the change of the tables may rely on
pub ready_of : (s : Progress) (r : Record) (a : Bool) (n : Progress) (size : Sizes) (room : Bool) (classes singles pairs index blocks : List ℕ) → a ≡ accepts s r → a ≡ true → n ≡ after_record s r → size ≡ sizes_listed n → room ≡ tables_fit size (tables classes singles pairs index blocks) → room ≡ true → RecordReady s n r classes singles pairs index blocks
ready_of s r a n size room classes singles pairs index blocks accepted_is agreed next_is size_is room_is fits_all =
    record {
      accepted = sym accepted_is ∙ agreed;
      next = next_is;
      fits = fit_known (sizes_listed (after_record s r)) classes singles pairs index blocks (ap (λ (z : Sizes). tables_fit z (tables classes singles pairs index blocks)) (sym (size_is ∙ ap sizes_listed next_is)) ∙ sym room_is ∙ fits_all);
    }
