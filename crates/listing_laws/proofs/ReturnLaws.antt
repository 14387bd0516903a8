-- READ AFTER WRITE: the whole listing of a good table set, read into tables that have the sizes needed, is accepted, and gives a table set of
-- good shape with the same page, defaults, classes, characters and codes.
use mathlib.Core.Bool.{Bool, true, false}
use mathlib.Core.Path.{◌≡◌, refl, sym, ap, ◌∙◌, subst}
use Prim.Native.Nat.{ℕ, ◌+◌, ◌*◌, ◌/◌, ◌%◌, ◌<◌}
use native.Mathlib.Omega.{arith}
use lib.ListN.{length, replicate, length-replicate}
use lib.Seq.{length-take-le, get_or-take}
use borrow.Author.Tests.{le-leb, lt-ltb}
use Rattle.codepage.specs.CodePage.{CodePage, GoodShape, pick, entry_at, is_single, is_lead, is_trail, leads_below}
use Rattle.codepage.specs.Reading.{byte_pair, unit_code, lookup}
use Rattle.codepage.specs.declared.Kind.TheVariants.{UndefinedSingle, UndefinedPair}
use Rattle.codepage_lookup.specs.Profile.{unit_entry}
use Rattle.listing.specs.declared.Progress.{Progress}
use Rattle.std.specs.declared.result.Result.TheVariants.{Ok}
use Rattle.listing.specs.Order.{nothing_read, rank, sizes_listed}
use Rattle.listing.specs.Tables.{Tables, tables, tables_fit, reading_as, listing_end}
use Rattle.listing.specs.Whole.{read_all}
use Rattle.lister.proofs.PlaceLaws.{pairs_inside}
use Rattle.listing_laws.specs.Cut.{cut_set}
use Rattle.listing_laws.specs.Round.{lines_from, whole_listing, progress_after, needed_sizes}
use Rattle.listing_laws.specs.Claims.{InWidths, LargeEnough, Returned}
use Rattle.listing_laws.proofs.BitLaws.{tally_same}
use Rattle.listing_laws.proofs.WholeLaws.{Kept, leads_tally, good_shape}
use Rattle.listing_laws.proofs.RoundLaws.{Keeps, Arrived, large_fits, by_size, by_acceptance, listing_accepted, same_classes}
use Rattle.listing_laws.proofs.RoomLaws.{accepted_too, progress_as}
use Rattle.listing_laws.proofs.SingleLaws.{Singles, singles_keep, same_singles}
use Rattle.listing_laws.proofs.PairLaws.{Pairs, pair_place, pairs_keep}
use Rattle.listing_laws.proofs.UnitLaws.{Codes, code_in, codes_keep}

-- two things that are kept are kept together
both_keep : (p : CodePage) (Q R : ℕ → Tables → Type 0) → Keeps p Q → Keeps p R → Keeps p (λ k t. Q k t × R k t)
both_keep p Q R x y =
    record {
      starts = λ s page t fits. (x.starts s page t fits, y.starts s page t fits);
      record_kept = λ k s t l h b sound fits held q. (x.record_kept k s t l h b sound fits held.0 q, y.record_kept k s t l h b sound fits held.1 q);
      none_kept = λ k t l h held q. (x.none_kept k t l h held.0 q, y.none_kept k t l h held.1 q);
    }

-- what is kept of all three
abbrev AllKept : CodePage → ℕ → Tables → Type 0
AllKept p k t = (Singles p k t × Pairs p k t) × Codes p k t

module _ (p : CodePage) (good : GoodShape p) {t : Tables} (a : Arrived p (AllKept p) nothing_read (whole_listing p) t) where
  kept : Kept a.state a.lent
  kept = a.sound (omega (arith, a.before.late))

  abbrev back : CodePage
  back = cut_set a.state.numbers (sizes_listed a.state) a.lent

  back_good : GoodShape back
  back_good = good_shape a.state a.lent kept

  whole_end : listing_end a.state ≡ Ok (a.state.numbers, sizes_listed a.state)
  unfolding listing_end
  whole_end = rw (le-leb 2 (rank a.state.letter) a.before.late)

  class_back : (byte : ℕ) → byte < 256 → entry_at back.classes byte ≡ entry_at p.classes byte
  unfolding cut_set sizes_listed
  class_back byte h = get_or-take 256 a.lent.classes byte 0 h ∙ same_classes p good a byte h

  single_back : (byte : ℕ) → byte < 256 → is_single (entry_at p.classes byte) ≡ true → entry_at back.singles byte ≡ entry_at p.singles byte
  unfolding cut_set sizes_listed
  single_back byte h on = get_or-take 256 a.lent.singles byte 0 h ∙ a.kept.0.0 byte h (omega arith) on

  below_back : (lead : ℕ) → lead < 256 → leads_below back.classes lead ≡ leads_below p.classes lead
  unfolding leads_below
  below_back lead h =
      leads_tally back.classes lead (omega (arith, back_good.classes))
      ∙ tally_same (λ i. is_lead (entry_at back.classes i)) (λ i. is_lead (entry_at p.classes i)) lead (λ i k. ap is_lead (class_back i (omega arith)))
      ∙ sym (leads_tally p.classes lead (omega (arith, good.classes)))

  -- an entry of a table that is cut behind it
  pair_entry : (i : ℕ) → i < length back.pairs → entry_at back.pairs i ≡ entry_at a.lent.pairs i
  unfolding cut_set sizes_listed
  pair_entry i h = get_or-take (sizes_listed a.state).pairs a.lent.pairs i 0 (omega (arith, length-take-le (sizes_listed a.state).pairs a.lent.pairs kept.fits.pairs_fit))

  block_entry : (i : ℕ) → i < length back.blocks → entry_at back.blocks i ≡ entry_at a.lent.blocks i
  unfolding cut_set sizes_listed
  block_entry i h = get_or-take (sizes_listed a.state).blocks a.lent.blocks i 0 (omega (arith, length-take-le (sizes_listed a.state).blocks a.lent.blocks kept.fits.blocks_fit))

  index_entry : (i : ℕ) → i < 256 → entry_at back.index i ≡ entry_at a.lent.index i
  unfolding cut_set sizes_listed
  index_entry i h = get_or-take 256 a.lent.index i 0 h

  pair_back : (lead byte : ℕ) → lead < 256 → byte < 256 → is_lead (entry_at p.classes lead) ≡ true → byte_pair back.classes back.pairs lead byte ≡ byte_pair p.classes p.pairs lead byte
  unfolding byte_pair
  pair_back lead byte h k on = by_class (is_trail (entry_at p.classes byte)) refl
    where
      inside : pair_place p lead byte < length back.pairs
      inside = omega (arith, pairs_inside back back_good lead h (ap is_lead (class_back lead h) ∙ on), below_back lead h)

      by_class : (x : Bool) → is_trail (entry_at p.classes byte) ≡ x → byte_pair back.classes back.pairs lead byte ≡ byte_pair p.classes p.pairs lead byte
      by_class true q =
          let value : entry_at back.pairs (pair_place p lead byte) ≡ entry_at p.pairs (pair_place p lead byte) =
          pair_entry (pair_place p lead byte) inside
          ∙ a.kept.0.1 lead byte h k on q (omega arith)
          ∙ ap (λ (x : Bool). pick x (entry_at p.pairs (pair_place p lead byte)) 0xFFFF) (lt-ltb (770 + (256 * lead + byte)) 131842 (omega arith)) in
          rw (class_back byte k, q, below_back lead h) (ap (lookup UndefinedPair) value)
      by_class false q = rw (class_back byte k, q)

  code_back : (unit : ℕ) → unit < 65536 → unit_code back.index back.blocks unit ≡ unit_code p.index p.blocks unit
  unfolding unit_code
  code_back unit h = ap (lookup UndefinedSingle) (ap (λ (x : ℕ). entry_at back.blocks (256 * x + unit % 256)) same ∙ block_entry (256 * entry_at a.lent.index (unit / 256) + unit % 256) inside ∙ value)
    where
      same : entry_at back.index (unit / 256) ≡ entry_at a.lent.index (unit / 256)
      same = index_entry (unit / 256) (omega arith)

      inside : 256 * entry_at a.lent.index (unit / 256) + unit % 256 < length back.blocks
      inside = omega (arith, same, back_good.number (unit / 256) (omega arith))

      value : unit_entry a.lent.index a.lent.blocks unit ≡ code_in p unit
      value = a.kept.1 unit h ∙ ap (λ (x : Bool). pick x (code_in p unit) 0xFFFF) (lt-ltb (66306 + unit) 131842 (omega arith))

  arrived : Returned p t
  unfolding cut_set
  arrived =
      record {
        progress = a.state;
        lent = a.lent;
        numbers = a.state.numbers;
        sizes = sizes_listed a.state;
        accepted = a.accepted;
        end = whole_end;
        shape = back_good;
        same =
            record {
              page = a.before.page;
              byte = a.before.byte;
              unit = a.before.unit;
              classes = class_back;
              singles = same_singles p back.classes back.singles class_back single_back;
              pairs = pair_back;
              codes = code_back;
            };
      }

-- ---- any tables with the sizes that the listing needs
-- nothing asked of the tables
nothing_keeps : (p : CodePage) → Keeps p (λ k t. Unit {0})
nothing_keeps p = record { starts = λ s page t fits. tt; record_kept = λ k s t l h b sound fits held q. tt; none_kept = λ k t l h held q. tt }

same_size : (n : ℕ) → n ≡ 65536 → LargeEnough (tables (replicate n 0) (replicate n 0) (replicate n 0) (replicate n 0) (replicate n 0))
same_size n e =
    let long : length {A = ℕ} (replicate n 0) ≡ n = length-replicate {A = ℕ} n 0 in
    record { classes = omega (arith, long); singles = omega (arith, long); pairs = omega (arith, long); index = omega (arith, long); blocks = omega (arith, long) }

most : (n : ℕ) × (n ≡ 65536)
most = (65536, refl)

all_lines : (p : CodePage) (t : Tables) (s' : Progress) (t' : Tables) → read_all nothing_read (whole_listing p) t ≡ reading_as (Ok s') t' → (n : ℕ) → n ≡ 131842 → read_all nothing_read (lines_from p n 0) t ≡ reading_as (Ok s') t'
unfolding whole_listing
all_lines p t s' t' e n same = ap (λ (c : ℕ). read_all nothing_read (lines_from p c 0) t) same ∙ e

module _ (p : CodePage) (good : GoodShape p) (m : InWidths p) where
  -- read into tables large enough for every listing
  in_large : (t : Tables) → LargeEnough t → Arrived p (λ k u. Unit {0}) nothing_read (whole_listing p) t
  in_large t large = listing_accepted p good m (λ k u. Unit {0}) (nothing_keeps p) (λ count k n u. LargeEnough u) (by_size p) nothing_read t refl (λ n e. large)

  once : Arrived p (λ k u. Unit {0}) nothing_read (whole_listing p) (tables (replicate most.0 0) (replicate most.0 0) (replicate most.0 0) (replicate most.0 0) (replicate most.0 0))
  once = in_large (tables (replicate most.0 0) (replicate most.0 0) (replicate most.0 0) (replicate most.0 0) (replicate most.0 0)) (same_size most.0 most.1)

  -- what its end reports is what it needs
  once_needs : once.state ≡ progress_after nothing_read (whole_listing p)
  once_needs = progress_as (whole_listing p) nothing_read (tables (replicate most.0 0) (replicate most.0 0) (replicate most.0 0) (replicate most.0 0) (replicate most.0 0)) once.state once.lent once.accepted

  keeps_all : Keeps p (AllKept p)
  keeps_all = both_keep p (λ k u. Singles p k u × Pairs p k u) (Codes p) (both_keep p (Singles p) (Pairs p) (singles_keep p) (pairs_keep p good m)) (codes_keep p good m)

  pub listing_returns : (t : Tables) → tables_fit (needed_sizes (whole_listing p)) t ≡ true → Returned p t
  listing_returns t room = arrived p good (listing_accepted p good m (AllKept p) keeps_all (λ count k n u. read_all n (lines_from p count k) u ≡ reading_as (Ok once.state) too.0) (by_acceptance p once.state too.0) nothing_read t refl (all_lines p t once.state too.0 too.1))
    where
      too : (u : Tables) × (read_all nothing_read (whole_listing p) t ≡ reading_as (Ok once.state) u)
      too =
          accepted_too (whole_listing p) nothing_read (tables (replicate most.0 0) (replicate most.0 0) (replicate most.0 0) (replicate most.0 0) (replicate most.0 0)) t (λ h. absurd (omega arith)) once.state once.lent once.accepted
          (subst (λ (n : Progress). tables_fit (sizes_listed n) t ≡ true) (sym once_needs) room)

  -- tables of the largest sizes have room for every listing
  pub large_enough : (t : Tables) → LargeEnough t → tables_fit (needed_sizes (whole_listing p)) t ≡ true
  large_enough t large =
      let a : Arrived p (λ k u. Unit {0}) nothing_read (whole_listing p) t = in_large t large in
      subst (λ (n : Progress). tables_fit (sizes_listed n) t ≡ true) (progress_as (whole_listing p) nothing_read t a.state a.lent a.accepted)
      (large_fits a.state a.lent t (a.sound (omega (arith, a.before.late))).holds large)
