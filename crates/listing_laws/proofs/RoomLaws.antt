-- The sizes needed never fall, so tables that have the sizes of a listing's end have room for each of its lines.
use mathlib.Core.Bool.{Bool, true, false, not, ◌&&◌, false≢true, true≢false}
use mathlib.Core.List.{List, [], ◌∷◌}
use mathlib.Core.Path.{◌≡◌, refl, sym, ap, ◌∙◌, subst}
use Prim.Native.Nat.{ℕ, zero, suc, ◌+◌, ◌*◌, ◌/◌, ◌%◌, ◌≤◌, ◌<◌}
use native.Mathlib.Omega.{arith}
use lib.Dec.{leb, eqb}
use lib.ListN.{length}
use borrow.Author.Tests.{le-leb, leb-true, eqb-true, eqb-false}
use Rattle.codepage.specs.CodePage.{pick}
use Rattle.codepage.proofs.ShapeLaws.{and_left, and_right}
use Rattle.listing.specs.declared.Progress.{Progress}
use Rattle.codepage.specs.declared.Sizes.{Sizes}
use Rattle.listing.specs.declared.Letter.TheVariants.{S, L, T, M, W}
use Rattle.std.specs.declared.result.Result.{Result}
use Rattle.std.specs.declared.result.Result.TheVariants.{Ok, Err}
use Rattle.listing.specs.declared.Refusal.{Refusal}
use Rattle.listing.specs.declared.Record.{Record}
use Rattle.listing.specs.declared.Record.TheVariants.{Page, Defaults, Single, Lead, Trail, Pair, Code, NoRecord}
use Rattle.listing.specs.Sets.{count_half, in_bytes}
use Rattle.listing.specs.Form.{record_of}
use Rattle.listing.specs.Order.{rank, follows, is_listed_lead, with_lead, accepts, is_new_high, code_block, after_record, blocks_listed, sizes_listed}
use Rattle.listing.specs.Steps.{Fits}
use Rattle.listing.specs.Tables.{Tables, Reading, reading_as, change_of, tables_fit, line_reading}
use Rattle.listing.specs.Whole.{read_all, then_read}
use Rattle.listing.proofs.ChangeLaws.{fit_known}
use Rattle.listing_laws.specs.Round.{progress_after}
use Rattle.listing_laws.proofs.BitLaws.{tally, lead_tally, lead_other}
use Rattle.listing_laws.proofs.BoundLaws.{Bounded, bounded}
use Rattle.listing_laws.proofs.HoldLaws.{Holds, follows_order, follows_key, lead_follows, pair_follows, count_early, count_late, count_full}
use Rattle.listing_laws.proofs.WholeLaws.{Sound, SameSizes, same_sizes, hold_record, step, accepted_same, reading_same, refused_not}
use Rattle.listing_laws.proofs.RoundLaws.{lead_with}
use Rattle.listing_laws.proofs.AnswerLaws.{read_passes, read_accepted_exact}

-- no size is smaller
record Rise (n m : Progress) : Type 0 where
  leads : count_half n.leads ≤ count_half m.leads
  blocks : blocks_listed n ≤ blocks_listed m

tally_more : (f g : ℕ → Bool) (n : ℕ) → ((i : ℕ) → i < n → f i ≡ true → g i ≡ true) → tally f n ≤ tally g n
unfolding tally
tally_more f g zero e = omega arith
tally_more f g (suc n) e = by_test (f n) refl (g n) refl (tally_more f g n (λ i h. e i (omega arith)))
  where
    by_test : (a : Bool) → f n ≡ a → (b : Bool) → g n ≡ b → tally f n ≤ tally g n → pick (f n) (suc (tally f n)) (tally f n) ≤ pick (g n) (suc (tally g n)) (tally g n)
    by_test true q true w h = rw (q, w) (omega arith)
    by_test true q false w h = absurd (true≢false (sym (e n (omega arith) q) ∙ w))
    by_test false q true w h = rw (q, w) (omega arith)
    by_test false q false w h = rw (q, w) h

whole_classes : (n : Progress) (t : Tables) → Fits (sizes_listed n) t.classes t.singles t.pairs t.index t.blocks → 256 ≤ length t.classes
unfolding sizes_listed
whole_classes n t f = f.classes_fit

whole_index : (n : Progress) (t : Tables) → Fits (sizes_listed n) t.classes t.singles t.pairs t.index t.blocks → 256 ≤ length t.index
unfolding sizes_listed
whole_index n t f = f.index_fit

accepted_high : (s : Progress) (byte : ℕ) → accepts s (Lead byte) ≡ true → 0x80 ≤ byte
accepted_high s byte e = leb-true 0x80 byte (and_right (follows s L byte) (leb 0x80 byte) (and_left (follows s L byte && leb 0x80 byte) (not (in_bytes s.singles byte)) e))

module _ (s : Progress) (t : Tables) (held : Holds s t) where
  -- one more lead
  more_leads : (byte : ℕ) → 0x80 ≤ byte → (u : Tables) → Holds (after_record s (Lead byte)) u → count_half s.leads ≤ count_half (with_lead s.leads byte)
  more_leads byte high u held' =
      omega (arith, lead_tally s.leads held.low_word held.high_word, lead_tally (with_lead s.leads byte) held'.low_word held'.high_word, tally_more (is_listed_lead s.leads) (is_listed_lead (with_lead s.leads byte)) 256 (λ i h on. by_byte i on (eqb i byte) refl))
    where
      by_byte : (i : ℕ) → is_listed_lead s.leads i ≡ true → (b : Bool) → eqb i byte ≡ b → is_listed_lead (with_lead s.leads byte) i ≡ true
      by_byte i on true q = ap (is_listed_lead (with_lead s.leads byte)) (eqb-true i byte q) ∙ lead_with s.leads byte high
      by_byte i on false q = lead_other s.leads byte i (eqb-false i byte q) ∙ on

  -- one more `W` record
  module _ (unit code : ℕ) (small : unit < 65536) (next : follows s W unit ≡ true) where
    new_more : is_new_high s unit ≡ true → blocks_listed s ≡ s.block + 1 → blocks_listed s ≤ blocks_listed (after_record s (Code unit code))
    unfolding code_block
    new_more new count = by_last (eqb s.block 255) refl
      where
        by_last : (b : Bool) → eqb s.block 255 ≡ b → blocks_listed s ≤ blocks_listed (after_record s (Code unit code))
        by_last true q =
            let e : (s.block + 1) % 256 ≡ 0 = omega (arith, eqb-true s.block 255 q) in
            omega (arith, count, held.block, count_full (after_record s (Code unit code)) refl (rw (new, e)))
        by_last false q =
            let e : (s.block + 1) % 256 ≡ s.block + 1 = omega (arith, held.block, eqb-false s.block 255 q) in
            let is : (after_record s (Code unit code)).block ≡ s.block + 1 = rw (new, e) in
            omega (arith, count, count_late (after_record s (Code unit code)) refl (λ z. omega (arith, is)), is)

    same_more : is_new_high s unit ≡ false → rank s.letter ≡ 7 → blocks_listed s ≤ blocks_listed (after_record s (Code unit code))
    unfolding code_block blocks_listed
    same_more old seven = rw (old, seven) (omega arith)

    code_more : blocks_listed s ≤ blocks_listed (after_record s (Code unit code))
    unfolding is_new_high
    code_more = by_letter (eqb (rank s.letter) 7) refl (eqb (s.key / 256) (unit / 256)) refl
      where
        by_letter : (a : Bool) → eqb (rank s.letter) 7 ≡ a → (b : Bool) → eqb (s.key / 256) (unit / 256) ≡ b → blocks_listed s ≤ blocks_listed (after_record s (Code unit code))
        by_letter true q true r = same_more (rw (q, r)) (eqb-true (rank s.letter) 7 q)
        by_letter true q false r =
            let seven : rank s.letter ≡ 7 = eqb-true (rank s.letter) 7 q in
            let larger : s.key < unit = follows_key s W unit next seven in
            let other : s.key / 256 ≡ unit / 256 → ⊥ = eqb-false (s.key / 256) (unit / 256) r in
            let higher : s.key / 256 < unit / 256 = omega arith in
            new_more (rw (q, r)) (count_late s seven (λ z. omega (arith, (held.during seven).0 z)))
        by_letter false q b r = new_more (rw q) (count_early s (eqb-false (rank s.letter) 7 q))

  -- letters before `W` need no block
  plain_more : (n : Progress) → rank s.letter ≤ 6 → rank n.letter ≤ 6 → n.block ≡ s.block → blocks_listed s ≤ blocks_listed n
  plain_more n h k e = omega (arith, count_early s (λ x. omega arith), count_early n (λ x. omega arith), e)

  rise_record : (r : Record) → Bounded r → accepts s r ≡ true → 1 ≤ rank s.letter → Holds (after_record s r) (change_of s r t) → Rise s (after_record s r)
  rise_record (Page page) b e late held' = absurd (omega (arith, eqb-true (rank s.letter) 0 e))
  rise_record (Defaults byte unit) b e late held' = record { leads = omega arith; blocks = plain_more (after_record s (Defaults byte unit)) (omega (arith, eqb-true (rank s.letter) 1 e)) (omega arith) refl }
  rise_record (Single byte unit) b e late held' = record { leads = omega arith; blocks = plain_more (after_record s (Single byte unit)) (omega (arith, follows_order s S byte e)) (omega arith) refl }
  rise_record (Lead byte) b e late held' =
      record {
        leads = more_leads byte (accepted_high s byte e) (change_of s (Lead byte) t) held';
        blocks = plain_more (after_record s (Lead byte)) (omega (arith, follows_order s L byte (lead_follows s byte e))) (omega arith) refl;
      }
  rise_record (Trail byte) b e late held' = record { leads = omega arith; blocks = plain_more (after_record s (Trail byte)) (omega (arith, follows_order s T byte e)) (omega arith) refl }
  rise_record (Pair code unit) b e late held' = record { leads = omega arith; blocks = plain_more (after_record s (Pair code unit)) (omega (arith, follows_order s M code (pair_follows s code unit e))) (omega arith) refl }
  rise_record (Code unit code) b e late held' = record { leads = omega arith; blocks = code_more unit code b e }
  rise_record NoRecord b e late held' = absurd (false≢true e)

rank_after : (s : Progress) (r : Record) → accepts s r ≡ true → 1 ≤ rank (after_record s r).letter
rank_after s (Page page) e = omega arith
rank_after s (Defaults byte unit) e = omega arith
rank_after s (Single byte unit) e = omega arith
rank_after s (Lead byte) e = omega arith
rank_after s (Trail byte) e = omega arith
rank_after s (Pair code unit) e = omega arith
rank_after s (Code unit code) e = omega arith
rank_after s NoRecord e = absurd (false≢true e)

-- ---- an accepted line, taken apart
record Taken (s : Progress) (line : List ℕ) (t : Tables) (u : Progress) : Type 0 where
  accepted : accepts s (record_of line) ≡ true
  fits : tables_fit (sizes_listed (after_record s (record_of line))) t ≡ true
  next : u ≡ after_record s (record_of line)

taken : (s : Progress) (line : List ℕ) (t : Tables) (u : Progress) → (line_reading s line t).answer ≡ Ok u → Taken s line t u
taken s line t u e = let got = (read_accepted_exact s line t u).0 e in record { accepted = got.0.0; fits = got.0.1; next = got.1 }

-- ---- along a reading
rise_on : (a b c : Progress) → Rise a b → Rise b c → Rise a c
rise_on a b c x y = record { leads = omega (arith, x.leads, y.leads); blocks = omega (arith, x.blocks, y.blocks) }

rise_all : (lines : List (List ℕ)) (s : Progress) (t : Tables) → Sound s t → 1 ≤ rank s.letter → (s' : Progress) (t' : Tables) → read_all s lines t ≡ reading_as (Ok s') t' → Rise s s'
unfolding read_all
rise_all [] s t sound late s' t' e = subst (λ (n : Progress). Rise s n) (accepted_same (reading_same e).0) (record { leads = omega arith; blocks = omega arith })
rise_all (line ∷ lines) s t sound late s' t' e =
    by_answer (λ u q x. rise_all lines u (line_reading s line t).lent (step s t sound line u q) x s' t') (line_reading s line t).answer refl e
  where
    by_answer : ((u : Progress) → (line_reading s line t).answer ≡ Ok u → 1 ≤ rank u.letter → read_all u lines (line_reading s line t).lent ≡ reading_as (Ok s') t' → Rise u s')
        → (x : Result Progress Refusal) → (line_reading s line t).answer ≡ x → then_read x (line_reading s line t).lent (λ n v. read_all n lines v) ≡ reading_as (Ok s') t' → Rise s s'
    by_answer go (Ok u) q k =
        let got : Taken s line t u = taken s line t u q in
        let first : Rise s (after_record s (record_of line)) = rise_record s t (sound late).holds (record_of line) (bounded line) got.accepted late (hold_line line got) in
        rise_on s u s' (subst (λ (n : Progress). Rise s n) (sym got.next) first) (go u q (subst (λ (n : Progress). 1 ≤ rank n.letter) (sym got.next) (rank_after s (record_of line) got.accepted)) k)
      where
        hold_line : (l : List ℕ) → Taken s l t u → Holds (after_record s (record_of l)) (change_of s (record_of l) t)
        hold_line l got =
            let roomy : Fits (sizes_listed (after_record s (record_of l))) t.classes t.singles t.pairs t.index t.blocks = fit_known (sizes_listed (after_record s (record_of l))) t.classes t.singles t.pairs t.index t.blocks got.fits in
            hold_record s t sound (record_of l) (bounded l) got.accepted (whole_classes (after_record s (record_of l)) t roomy) (whole_index (after_record s (record_of l)) t roomy)
    by_answer go (Err why) q k = absurd (refused_not (reading_same k).0)

-- ---- room
fit_less : (n m : Progress) (t : Tables) → Rise n m → tables_fit (sizes_listed m) t ≡ true → tables_fit (sizes_listed n) t ≡ true
unfolding tables_fit sizes_listed
fit_less n m t rise e =
    let f : Fits (sizes_listed m) t.classes t.singles t.pairs t.index t.blocks = fit_known (sizes_listed m) t.classes t.singles t.pairs t.index t.blocks e in
    rw (
      le-leb 256 (length t.classes) f.classes_fit,
      le-leb 256 (length t.singles) f.singles_fit,
      le-leb (256 * count_half n.leads) (length t.pairs) (omega (arith, f.pairs_fit, rise.leads)),
      le-leb 256 (length t.index) f.index_fit,
      le-leb (256 * blocks_listed n) (length t.blocks) (omega (arith, f.blocks_fit, rise.blocks)),
    )

fit_same : (z : Sizes) (t u : Tables) → SameSizes t u → tables_fit z t ≡ true → tables_fit z u ≡ true
unfolding tables_fit
fit_same z t u same e = rw (same.classes, same.singles, same.pairs, same.index, same.blocks) e

-- A listing that is accepted into some tables is accepted into any others that have the sizes of its end.
pub accepted_too : (lines : List (List ℕ)) (s : Progress) (t u : Tables) → Sound s t → (s' : Progress) (t' : Tables) → read_all s lines t ≡ reading_as (Ok s') t' → tables_fit (sizes_listed s') u ≡ true → (u' : Tables) × (read_all s lines u ≡ reading_as (Ok s') u')
unfolding read_all
accepted_too [] s t u sound s' t' e room = (u, ap (λ (n : Progress). reading_as (Ok n) u) (accepted_same (reading_same e).0))
accepted_too (line ∷ lines) s t u sound s' t' e room =
    by_answer (λ n q v k. accepted_too lines n (line_reading s line t).lent v (step s t sound line n q) s' t' k) (line_reading s line t).answer refl e
  where
    by_answer : ((n : Progress) → (line_reading s line t).answer ≡ Ok n → (v : Tables) → read_all n lines (line_reading s line t).lent ≡ reading_as (Ok s') t' → tables_fit (sizes_listed s') v ≡ true → (u' : Tables) × (read_all n lines v ≡ reading_as (Ok s') u'))
        → (x : Result Progress Refusal) → (line_reading s line t).answer ≡ x → then_read x (line_reading s line t).lent (λ n v. read_all n lines v) ≡ reading_as (Ok s') t'
        → (u' : Tables) × (then_read (line_reading s line u).answer (line_reading s line u).lent (λ n v. read_all n lines v) ≡ reading_as (Ok s') u')
    by_answer go (Ok n) q k =
        let got : Taken s line t n = taken s line t n q in
        let late : 1 ≤ rank n.letter = subst (λ (x : Progress). 1 ≤ rank x.letter) (sym got.next) (rank_after s (record_of line) got.accepted) in
        let rise : Rise n s' = rise_all lines n (line_reading s line t).lent (step s t sound line n q) late s' t' k in
        let roomy : tables_fit (sizes_listed (after_record s (record_of line))) u ≡ true = subst (λ (x : Progress). tables_fit (sizes_listed x) u ≡ true) got.next (fit_less n s' u rise room) in
        let reads : line_reading s line u ≡ reading_as (Ok (after_record s (record_of line))) (change_of s (record_of line) u) = read_passes s line u (got.accepted, roomy) in
        let rest = go n q (change_of s (record_of line) u) k (fit_same (sizes_listed s') u (change_of s (record_of line) u) (same_sizes s (record_of line) u) room) in
        (rest.0, ap (λ (x : Reading). then_read x.answer x.lent (λ m v. read_all m lines v)) reads ∙ ap (λ (m : Progress). read_all m lines (change_of s (record_of line) u)) (sym got.next) ∙ rest.1)
    by_answer go (Err why) q k = absurd (refused_not (reading_same k).0)

-- what has been read does not depend on the tables
pub progress_as : (lines : List (List ℕ)) (s : Progress) (t : Tables) (s' : Progress) (t' : Tables) → read_all s lines t ≡ reading_as (Ok s') t' → s' ≡ progress_after s lines
unfolding read_all progress_after
progress_as [] s t s' t' e = sym (accepted_same (reading_same e).0)
progress_as (line ∷ lines) s t s' t' e = by_answer (λ u. progress_as lines u (line_reading s line t).lent s' t') (line_reading s line t).answer refl e
  where
    by_answer : ((u : Progress) → read_all u lines (line_reading s line t).lent ≡ reading_as (Ok s') t' → s' ≡ progress_after u lines)
        → (x : Result Progress Refusal) → (line_reading s line t).answer ≡ x → then_read x (line_reading s line t).lent (λ n v. read_all n lines v) ≡ reading_as (Ok s') t' → s' ≡ progress_after (after_record s (record_of line)) lines
    by_answer go (Ok u) q k = go u k ∙ ap (λ (n : Progress). progress_after n lines) (taken s line t u q).next
    by_answer go (Err why) q k = absurd (refused_not (reading_same k).0)
