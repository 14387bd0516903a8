-- WRITE AFTER READ: a whole listing that is accepted, written again, is the same lines.
use mathlib.Core.Bool.{Bool, true, false, false≢true, true≢false}
use mathlib.Core.List.{List, [], ◌∷◌, ◌++◌, append_assoc, append-nil}
use mathlib.Core.Path.{◌≡◌, refl, sym, ap, ap₂, ◌∙◌, subst}
use Prim.Native.Nat.{ℕ, zero, suc, ◌+◌, ◌-◌, ◌*◌, ◌/◌, ◌%◌, ◌≤◌, ◌<◌}
use native.Mathlib.Omega.{arith}
use lib.Dec.{ltb, eqb}
use lib.ListN.{length}
use lib.Seq.{length-take-le, get_or-take}
use borrow.Author.Tests.{ltb-true, ltb-false, eqb-true, ne_eqb}
use Rattle.codepage.specs.CodePage.{CodePage, GoodShape, pick, entry_at, is_single, is_lead, is_trail, leads_below}
use Rattle.codepage.specs.declared.Numbers.{Numbers}
use Rattle.codepage_lookup.specs.Profile.{unit_entry}
use Rattle.listing.specs.declared.Progress.{Progress}
use Rattle.codepage.specs.declared.Sizes.{Sizes}
use Rattle.listing.specs.declared.Letter.{Letter}
use Rattle.listing.specs.declared.Letter.TheVariants.{Start, P, D, S, L, T, M, W}
use Rattle.std.specs.declared.result.Result.{Result}
use Rattle.std.specs.declared.result.Result.TheVariants.{Ok, Err}
use Rattle.listing.specs.declared.Refusal.{Refusal}
use Rattle.listing.specs.declared.Record.{Record}
use Rattle.listing.specs.declared.Record.TheVariants.{Page, Defaults, Single, Lead, Trail, Pair, Code, NoRecord}
use Rattle.listing.specs.Sets.{count_half}
use Rattle.listing.specs.Form.{record_of}
use Rattle.listing.specs.Order.{nothing_read, rank, accepts, after_page, after_record, sizes_listed, blocks_listed}
use Rattle.listing.specs.Steps.{Fits, RecordReady}
use Rattle.listing.specs.Tables.{Tables, Reading, reading_as, filled, lead_block, change_of, tables_fit, line_reading, listing_end}
use Rattle.listing.specs.Whole.{read_all, then_read}
use Rattle.listing.proofs.ChangeLaws.{fit_known, code_room}
use Rattle.lister.specs.Lines.{record_line}
use Rattle.lister.specs.Lister.{single_at, lead_at, trail_at, pair_at, code_at, record_at, is_record}
use Rattle.lister.proofs.PlaceLaws.{pairs_inside}
use Rattle.listing_laws.specs.Cut.{cut_set}
use Rattle.listing_laws.specs.Round.{lines_from, whole_listing}
use Rattle.listing_laws.proofs.FilledLaws.{filled_front_lem}
use Rattle.listing_laws.proofs.BoundLaws.{Bounded, bounded}
use Rattle.listing_laws.proofs.HoldLaws.{Holds, lead_none, follows_late, follows_order, lead_follows, pair_follows}
use Rattle.listing_laws.proofs.CodeLaws.{CodePut, code_put}
use Rattle.listing_laws.proofs.WholeLaws.{Kept, Sound, hold_record, step, accepted_same, reading_same, refused_not, every_line, good_shape, end_whole}
use Rattle.listing_laws.proofs.RoundLaws.{place_by}
use Rattle.listing_laws.proofs.BackLaws.{line_back, RightSome, right_some}
use Rattle.listing_laws.proofs.AnswerLaws.{read_passes, read_accepted_exact}
use Rattle.listing_laws.proofs.PutLaws.{set_of, last_place, place_of, KeyIn, PartsBut, by_parts, single_part, lead_part, trail_part, pair_part, code_part}
use Rattle.listing_laws.proofs.RecordLaws.{Standing, Put, below_same, put_single, put_lead, empty_lead, put_trail, put_pair, put_code}

-- ---- the lines of places
-- the lines from a place on, by its record and the lines behind it
abbrev with_record : Record → List (List ℕ) → List (List ℕ)
with_record r lines = pick (is_record r) (record_line r ∷ lines) lines

with_append : (r : Record) (l m : List (List ℕ)) → with_record r (l ++ m) ≡ (with_record r l ++ m)
with_append r l m = by_record (is_record r)
  where
    by_record : (b : Bool) → pick b (record_line r ∷ (l ++ m)) (l ++ m) ≡ (pick b (record_line r ∷ l) l ++ m)
    by_record true = refl
    by_record false = refl

lines_split : (p : CodePage) (m n total k next : ℕ) → total ≡ m + n → next ≡ k + m → lines_from p total k ≡ (lines_from p m k ++ lines_from p n next)
unfolding lines_from
lines_split p zero n total k next e f =
    let x : total ≡ n = omega arith in
    let y : k ≡ next = omega arith in
    ap₂ (lines_from p) x y
lines_split p (suc m) n total k next e f =
    let x : total ≡ suc (m + n) = omega arith in
    ap (λ (c : ℕ). lines_from p c k) x
    ∙ ap (with_record (record_at p k)) (lines_split p m n (m + n) (suc k) next refl (omega arith))
    ∙ with_append (record_at p k) (lines_from p m (suc k)) (lines_from p n next)

lines_same : (p q : CodePage) (n k : ℕ) → ((i : ℕ) → k ≤ i → i < k + n → record_at q i ≡ record_at p i) → lines_from q n k ≡ lines_from p n k
unfolding lines_from
lines_same p q zero k e = refl
lines_same p q (suc n) k e = ap₂ with_record (e k (omega arith) (omega arith)) (lines_same p q n (suc k) (λ i h m. e i (omega arith) (omega arith)))

lines_none : (p : CodePage) (n k : ℕ) → ((i : ℕ) → k ≤ i → i < k + n → record_at p i ≡ NoRecord) → lines_from p n k ≡ []
unfolding lines_from
lines_none p zero k e = refl
lines_none p (suc n) k e = ap₂ with_record (e k (omega arith) (omega arith)) (lines_none p n (suc k) (λ i h m. e i (omega arith) (omega arith)))

lines_one : (p : CodePage) (k : ℕ) (r : Record) → record_at p k ≡ r → is_record r ≡ true → lines_from p 1 k ≡ record_line r ∷ []
unfolding lines_from
lines_one p k r e q = ap (λ (x : Record). with_record x []) e ∙ rw q

-- ---- what the lines read so far are: those of the table set as it stands
record Told (s : Progress) (t : Tables) (lines : List (List ℕ)) : Type 0 where
  standing : Standing s t
  are : lines_from (set_of s t) (last_place s + 1) 0 ≡ lines

-- from `D` on the last place is 1 at least
late_place : (l : Letter) (key : ℕ) → 2 ≤ rank l → 1 ≤ place_by l key
late_place Start key h = absurd (omega arith)
late_place P key h = absurd (omega arith)
late_place D key h = omega arith
late_place S key h = omega arith
late_place L key h = omega arith
late_place T key h = omega arith
late_place M key h = omega arith
late_place W key h = omega arith

-- page and defaults stand at the first two places
first_two : (p q : CodePage) → q.page ≡ p.page → q.default_byte ≡ p.default_byte → q.default_unit ≡ p.default_unit → (i : ℕ) → i < 2 → record_at q i ≡ record_at p i
unfolding record_at
first_two p q e f g zero h = ap Page e
first_two p q e f g (suc zero) h = ap₂ Defaults f g
first_two p q e f g (suc (suc i)) h = absurd (omega arith)

module _ (s : Progress) (t : Tables) (lines : List (List ℕ)) (told : Told s t lines) (r : Record) (put : Put s t r) (is : is_record r ≡ true) (small : place_of r < 131842) (same : (after_record s r).numbers ≡ s.numbers) where
  abbrev p₀ : CodePage
  p₀ = set_of s t

  abbrev p₁ : CodePage
  p₁ = set_of (after_record s r) (change_of s r t)

  -- the lines before its place are as they were
  told_before : (last : ℕ) → last ≡ place_of r → lines_from p₁ last 0 ≡ lines
  told_before last at =
      lines_same p₀ p₁ last 0 (λ i h m. by_two i m (ltb i 2) refl)
      ∙ lines_split p₀ (last_place s + 1) (last - (last_place s + 1)) last 0 (last_place s + 1) (omega (arith, put.order)) (omega arith)
      ∙ ap₂ (λ (l m : List (List ℕ)). l ++ m) told.are (lines_none p₀ (last - (last_place s + 1)) (last_place s + 1) (λ i h m. told.standing.behind i (omega arith) (two_up i h) (omega arith)))
      ∙ append-nil lines
    where
      two_up : (i : ℕ) → last_place s + 1 ≤ i → 2 ≤ i
      two_up i h = omega (arith, late_place s.letter s.key told.standing.late)

      by_two : (i : ℕ) → i < 0 + last → (b : Bool) → ltb i 2 ≡ b → record_at p₁ i ≡ record_at p₀ i
      by_two i m true q = first_two p₀ p₁ (ap (λ (n : Numbers). n.page) same) (ap (λ (n : Numbers). n.default_byte) same) (ap (λ (n : Numbers). n.default_unit) same) i (ltb-true i 2 q)
      by_two i m false q = put.others i (ltb-false i 2 q) (omega arith) (λ e. omega arith)

  told_lines : (last : ℕ) → last ≡ place_of r → lines_from p₁ (last + 1) 0 ≡ (lines ++ (record_line r ∷ []))
  told_lines last at =
      lines_split p₁ last 1 (last + 1) 0 last refl (omega arith)
      ∙ ap₂ (λ (l m : List (List ℕ)). l ++ m) (told_before last at) (lines_one p₁ last r (ap (record_at p₁) at ∙ put.here) is)

  behind_still : (last : ℕ) → last ≡ place_of r → (k : ℕ) → last < k → 2 ≤ k → k < 131842 → record_at p₁ k ≡ NoRecord
  behind_still last at k h l m = put.others k l m (λ e. omega arith) ∙ told.standing.behind k (omega (arith, put.order)) l m

-- ---- one more record
module _ (s : Progress) (t : Tables) (lines : List (List ℕ)) (told : Told s t lines) (kept : Kept s t) where
  long : 256 ≤ length t.classes
  unfolding sizes_listed
  long = kept.fits.classes_fit

  wide_singles : 256 ≤ length t.singles
  unfolding sizes_listed
  wide_singles = kept.fits.singles_fit

  wide_index : 256 ≤ length t.index
  unfolding sizes_listed
  wide_index = kept.fits.index_fit

  held_after : (r : Record) → Bounded r → accepts s r ≡ true → Holds (after_record s r) (change_of s r t)
  held_after r bound e = hold_record s t (λ h. kept) r bound e long wide_index

  pairs_room : Fits (sizes_listed s) t.classes t.singles t.pairs t.index t.blocks → 256 * count_half s.leads ≤ length t.pairs
  unfolding sizes_listed
  pairs_room f = f.pairs_fit

  lead_room : (byte : ℕ) → Fits (sizes_listed (after_record s (Lead byte))) t.classes t.singles t.pairs t.index t.blocks → 256 * count_half (after_record s (Lead byte)).leads ≤ length t.pairs
  unfolding sizes_listed
  lead_room byte f = f.pairs_fit

  st : Standing s t
  st = told.standing

  told_record : (r : Record) → Bounded r → RightSome r → accepts s r ≡ true → Fits (sizes_listed (after_record s r)) t.classes t.singles t.pairs t.index t.blocks → Told (after_record s r) (change_of s r t) (lines ++ (record_line r ∷ []))
  unfolding lead_block
  told_record (Page page) bound right e roomy = absurd (omega (arith, st.late, eqb-true (rank s.letter) 0 e))
  told_record (Defaults byte unit) bound right e roomy = absurd (omega (arith, st.late, eqb-true (rank s.letter) 1 e))
  told_record (Single byte unit) bound right e roomy =
      let r : Record = Single byte unit in
      let put : Put s t (Single byte unit) = put_single s t kept.holds st long byte unit bound e (held_after (Single byte unit) bound e) wide_singles in
      record {
        standing =
            record {
              late = omega arith;
              key = bound;
              behind = behind_still s t lines told (Single byte unit) put refl (omega arith) refl (2 + byte) refl;
              empty = λ h. st.empty (omega (arith, follows_order s S byte e));
            };
        are = told_lines s t lines told (Single byte unit) put refl (omega arith) refl (2 + byte) refl;
      }
  told_record (Lead byte) bound right e roomy =
      let put : Put s t (Lead byte) = put_lead s t kept.holds st long byte bound e (held_after (Lead byte) bound e) in
      record {
        standing =
            record {
              late = omega arith;
              key = bound;
              behind = behind_still s t lines told (Lead byte) put refl (omega arith) refl (258 + byte) refl;
              empty = λ h. empty_lead s t kept.holds st long byte bound e (held_after (Lead byte) bound e) (lead_room byte roomy);
            };
        are = told_lines s t lines told (Lead byte) put refl (omega arith) refl (258 + byte) refl;
      }
  told_record (Trail byte) bound right e roomy =
      let put : Put s t (Trail byte) = put_trail s t kept.holds st long byte bound e (held_after (Trail byte) bound e) in
      record {
        standing =
            record {
              late = omega arith;
              key = bound;
              behind = behind_still s t lines told (Trail byte) put refl (omega arith) refl (514 + byte) refl;
              empty = λ h. st.empty (follows_order s T byte e);
            };
        are = told_lines s t lines told (Trail byte) put refl (omega arith) refl (514 + byte) refl;
      }
  told_record (Pair code unit) bound right e roomy =
      let put : Put s t (Pair code unit) = put_pair s t kept.holds st long code unit right.0 right.1 e (pairs_room kept.fits) in
      record {
        standing =
            record {
              late = omega arith;
              key = right.0;
              behind = behind_still s t lines told (Pair code unit) put refl (omega (arith, right.0)) refl (770 + code) refl;
              empty = λ h. absurd (omega arith);
            };
        are = told_lines s t lines told (Pair code unit) put refl (omega (arith, right.0)) refl (770 + code) refl;
      }
  told_record (Code unit code) bound right e roomy =
      let ready : RecordReady s (after_record s (Code unit code)) (Code unit code) t.classes t.singles t.pairs t.index t.blocks = record { accepted = e; next = refl; fits = roomy } in
      let changed : CodePut s t unit code = code_put s t kept.numbers unit code bound e wide_index (code_room ready unit code refl) in
      let put : Put s t (Code unit code) = put_code s t kept.holds st long unit code bound right e changed.one in
      record {
        standing =
            record {
              late = omega arith;
              key = bound;
              behind = behind_still s t lines told (Code unit code) put refl (omega arith) refl (66306 + unit) refl;
              empty = λ h. absurd (omega arith);
            };
        are = told_lines s t lines told (Code unit code) put refl (omega arith) refl (66306 + unit) refl;
      }
  told_record NoRecord bound right e roomy = absurd (false≢true e)

-- ---- the first two records
-- tables that `P` emptied
record Emptied (t : Tables) : Type 0 where
  classes : (c : ℕ) → c < 256 → entry_at t.classes c ≡ 0
  codes : (u : ℕ) → u < 65536 → unit_entry t.index t.blocks u ≡ 0xFFFF

page_empties : (s : Progress) (page : ℕ) (t : Tables) → 256 ≤ length t.classes → 256 ≤ length t.index → 256 ≤ length t.blocks → Emptied (change_of s (Page page) t)
page_empties s page t long wide deep =
    record {
      classes = λ c h. filled_front_lem t.classes 256 0 c h long;
      codes = λ u h.
          let zero_there : entry_at (filled t.index 0 256 0) (u / 256) ≡ 0 = filled_front_lem t.index 256 0 (u / 256) (omega arith) wide in
          let place : 256 * entry_at (filled t.index 0 256 0) (u / 256) + u % 256 ≡ u % 256 = omega (arith, zero_there) in
          ap (entry_at (filled t.blocks 0 256 0xFFFF)) place ∙ filled_front_lem t.blocks 256 0xFFFF (u % 256) (omega arith) deep;
    }

-- no record stands in them behind the first two places
emptied_none : (s : Progress) (t : Tables) → Emptied t → (k : ℕ) → 2 ≤ k → k < 131842 → record_at (set_of s t) k ≡ NoRecord
unfolding record_at single_at lead_at trail_at pair_at code_at is_single is_lead is_trail
emptied_none s t e k l h = by_size (ltb k 258) refl (ltb k 514) refl (ltb k 770) refl (ltb k 66306) refl
  where
    zero_not : eqb k 0 ≡ false
    zero_not = ne_eqb k 0 (λ x. omega arith)

    one_not : eqb k 1 ≡ false
    one_not = ne_eqb k 1 (λ x. omega arith)

    by_size : (a : Bool) → ltb k 258 ≡ a → (b : Bool) → ltb k 514 ≡ b → (c : Bool) → ltb k 770 ≡ c → (d : Bool) → ltb k 66306 ≡ d → record_at (set_of s t) k ≡ NoRecord
    by_size true x b y c z d w = rw (zero_not, one_not, x, e.classes (k - 2) (omega (arith, ltb-true k 258 x)))
    by_size false x true y c z d w = rw (zero_not, one_not, x, y, e.classes (k - 258) (omega (arith, ltb-true k 514 y)))
    by_size false x false y true z d w = rw (zero_not, one_not, x, y, z, e.classes (k - 514) (omega (arith, ltb-true k 770 z)))
    by_size false x false y false z true w = rw (zero_not, one_not, x, y, z, w, e.classes ((k - 770) / 256) (omega (arith, ltb-true k 66306 w)))
    by_size false x false y false z false w = rw (zero_not, one_not, x, y, z, w, e.codes (k - 66306) (omega (arith, ltb-false k 66306 w)))

-- behind `P`
record AfterPage (s : Progress) (t : Tables) (lines : List (List ℕ)) : Type 0 where
  page : ℕ
  is : s ≡ after_page page
  emptied : Emptied t
  line : lines ≡ record_line (Page page) ∷ []

told_defaults : (page byte unit : ℕ) (t : Tables) → Emptied t → Told (after_record (after_page page) (Defaults byte unit)) t (record_line (Page page) ∷ record_line (Defaults byte unit) ∷ [])
unfolding lines_from record_at
told_defaults page byte unit t e =
    record {
      standing =
          record {
            late = omega arith;
            key = tt;
            behind = λ k h l m. emptied_none (after_record (after_page page) (Defaults byte unit)) t e k l m;
            empty = λ h l c x y listed. absurd (true≢false (sym listed ∙ lead_none l));
          };
      are = refl;
    }

-- what is known at each letter
record Again (s : Progress) (t : Tables) (lines : List (List ℕ)) : Type 0 where
  none : rank s.letter ≡ 0 → lines ≡ []
  first : rank s.letter ≡ 1 → AfterPage s t lines
  told : 2 ≤ rank s.letter → Told s t lines

from_told : (s : Progress) (t : Tables) (lines : List (List ℕ)) → Told s t lines → Again s t lines
from_told s t lines x = record { none = λ e. absurd (omega (arith, x.standing.late)); first = λ e. absurd (omega (arith, x.standing.late)); told = λ h. x }

module _ (s : Progress) (t : Tables) (lines : List (List ℕ)) (a : Again s t lines) (sound : Sound s t) where
  abbrev Fitting : Record → Type 0
  Fitting r = Fits (sizes_listed (after_record s r)) t.classes t.singles t.pairs t.index t.blocks

  again_late : (r : Record) → Bounded r → RightSome r → accepts s r ≡ true → Fitting r → 2 ≤ rank s.letter → Again (after_record s r) (change_of s r t) (lines ++ (record_line r ∷ []))
  again_late r bound right e roomy late = from_told (after_record s r) (change_of s r t) (lines ++ (record_line r ∷ [])) (told_record s t lines (a.told late) (sound (omega arith)) r bound right e roomy)

  one_block : (page : ℕ) → Fitting (Page page) → (256 ≤ length t.classes) × (256 ≤ length t.index) × (256 ≤ length t.blocks)
  unfolding sizes_listed blocks_listed
  one_block page f = (f.classes_fit, f.index_fit, f.blocks_fit)

  again_defaults : (byte unit : ℕ) → AfterPage s t lines → Again (after_record s (Defaults byte unit)) t (lines ++ (record_line (Defaults byte unit) ∷ []))
  again_defaults byte unit x =
      subst (λ (n : Progress). Again (after_record n (Defaults byte unit)) t (lines ++ (record_line (Defaults byte unit) ∷ []))) (sym x.is)
      (subst (λ (l : List (List ℕ)). Again (after_record (after_page x.page) (Defaults byte unit)) t (l ++ (record_line (Defaults byte unit) ∷ []))) (sym x.line)
      (from_told (after_record (after_page x.page) (Defaults byte unit)) t (record_line (Page x.page) ∷ record_line (Defaults byte unit) ∷ []) (told_defaults x.page byte unit t x.emptied)))

  again_page : (page : ℕ) → rank s.letter ≡ 0 → Fitting (Page page) → Again (after_page page) (change_of s (Page page) t) (lines ++ (record_line (Page page) ∷ []))
  again_page page zero_rank roomy =
      record {
        none = λ e. absurd (omega arith);
        first = λ e.
            record {
              page = page;
              is = refl;
              emptied = page_empties s page t (one_block page roomy).0 (one_block page roomy).1 (one_block page roomy).2;
              line = ap (λ (l : List (List ℕ)). l ++ (record_line (Page page) ∷ [])) (a.none zero_rank);
            };
        told = λ h. absurd (omega arith);
      }

  again_record : (r : Record) → Bounded r → RightSome r → accepts s r ≡ true → Fitting r → Again (after_record s r) (change_of s r t) (lines ++ (record_line r ∷ []))
  again_record (Page page) bound right e roomy = again_page page (eqb-true (rank s.letter) 0 e) roomy
  again_record (Defaults byte unit) bound right e roomy = again_defaults byte unit (a.first (eqb-true (rank s.letter) 1 e))
  again_record (Single byte unit) bound right e roomy = again_late (Single byte unit) bound right e roomy (follows_late s S byte e)
  again_record (Lead byte) bound right e roomy = again_late (Lead byte) bound right e roomy (follows_late s L byte (lead_follows s byte e))
  again_record (Trail byte) bound right e roomy = again_late (Trail byte) bound right e roomy (follows_late s T byte e)
  again_record (Pair code unit) bound right e roomy = again_late (Pair code unit) bound right e roomy (follows_late s M code (pair_follows s code unit e))
  again_record (Code unit code) bound right e roomy = again_late (Code unit code) bound right e roomy (follows_late s W unit e)
  again_record NoRecord bound right e roomy = absurd (false≢true e)

  accepted_is : (r : Record) → accepts s r ≡ true → is_record r ≡ true
  accepted_is (Page page) e = refl
  accepted_is (Defaults byte unit) e = refl
  accepted_is (Single byte unit) e = refl
  accepted_is (Lead byte) e = refl
  accepted_is (Trail byte) e = refl
  accepted_is (Pair code unit) e = refl
  accepted_is (Code unit code) e = refl
  accepted_is NoRecord e = absurd (false≢true e)

  -- a line that is accepted
  again_line : (line : List ℕ) (u : Progress) → (line_reading s line t).answer ≡ Ok u → Again u (line_reading s line t).lent (lines ++ (line ∷ []))
  again_line line u e =
      subst (λ (v : Tables). Again u v (lines ++ (line ∷ []))) (sym (ap (λ (r : Reading). r.lent) (read_passes s line t passes)))
      (subst (λ (n : Progress). Again n (change_of s r t) (lines ++ (line ∷ []))) (sym is)
      (subst (λ (l : List ℕ). Again (after_record s r) (change_of s r t) (lines ++ (l ∷ []))) (line_back line (accepted_is r passes.0))
      (again_record r (bounded line) (right_some line) passes.0 (fit_known (sizes_listed (after_record s r)) t.classes t.singles t.pairs t.index t.blocks passes.1))))
    where
      r : Record
      r = record_of line

      passes : (accepts s (record_of line) ≡ true) × (tables_fit (sizes_listed (after_record s (record_of line))) t ≡ true)
      passes = ((read_accepted_exact s line t u).0 e).0

      is : u ≡ after_record s (record_of line)
      is = ((read_accepted_exact s line t u).0 e).1

-- ---- all lines
again_all : (more : List (List ℕ)) (s : Progress) (t : Tables) (lines : List (List ℕ)) → Again s t lines → Sound s t → (s' : Progress) (t' : Tables) → read_all s more t ≡ reading_as (Ok s') t' → Again s' t' (lines ++ more)
unfolding read_all
again_all [] s t lines a sound s' t' e =
    subst (λ (l : List (List ℕ)). Again s' t' l) (sym (append-nil lines))
    (subst (λ (v : Tables). Again s' v lines) (reading_same e).1 (subst (λ (n : Progress). Again n t lines) (accepted_same (reading_same e).0) a))
again_all (line ∷ more) s t lines a sound s' t' e =
    subst (λ (l : List (List ℕ)). Again s' t' l) (append_assoc lines (line ∷ []) more)
    (by_answer (λ u k. again_all more u (line_reading s line t).lent (lines ++ (line ∷ [])) (again_line s t lines a sound line u k) (step s t sound line u k) s' t') (line_reading s line t).answer refl e)
  where
    by_answer : ((u : Progress) → (line_reading s line t).answer ≡ Ok u → read_all u more (line_reading s line t).lent ≡ reading_as (Ok s') t' → Again s' t' ((lines ++ (line ∷ [])) ++ more))
        → (x : Result Progress Refusal) → (line_reading s line t).answer ≡ x → then_read x (line_reading s line t).lent (λ n v. read_all n more v) ≡ reading_as (Ok s') t' → Again s' t' ((lines ++ (line ∷ [])) ++ more)
    by_answer go (Ok u) q k = go u q k
    by_answer go (Err why) q k = absurd (refused_not (reading_same k).0)

-- ---- the table set, each table cut to the size needed, has the same records
module _ (s : Progress) (t : Tables) (kept : Kept s t) where
  abbrev cut : CodePage
  cut = cut_set s.numbers (sizes_listed s) t

  cut_good : GoodShape cut
  cut_good = good_shape s t kept

  cut_class : (c : ℕ) → c < 256 → entry_at cut.classes c ≡ entry_at t.classes c
  unfolding cut_set sizes_listed
  cut_class c h = get_or-take 256 t.classes c 0 h

  cut_single : (c : ℕ) → c < 256 → entry_at cut.singles c ≡ entry_at t.singles c
  unfolding cut_set sizes_listed
  cut_single c h = get_or-take 256 t.singles c 0 h

  cut_index : (c : ℕ) → c < 256 → entry_at cut.index c ≡ entry_at t.index c
  unfolding cut_set sizes_listed
  cut_index c h = get_or-take 256 t.index c 0 h

  cut_pair : (i : ℕ) → i < length cut.pairs → entry_at cut.pairs i ≡ entry_at t.pairs i
  unfolding cut_set sizes_listed
  cut_pair i h = get_or-take (sizes_listed s).pairs t.pairs i 0 (omega (arith, length-take-le (sizes_listed s).pairs t.pairs kept.fits.pairs_fit))

  cut_block : (i : ℕ) → i < length cut.blocks → entry_at cut.blocks i ≡ entry_at t.blocks i
  unfolding cut_set sizes_listed
  cut_block i h = get_or-take (sizes_listed s).blocks t.blocks i 0 (omega (arith, length-take-le (sizes_listed s).blocks t.blocks kept.fits.blocks_fit))

  long_classes : 256 ≤ length t.classes
  unfolding sizes_listed
  long_classes = kept.fits.classes_fit

  cut_below : (l : ℕ) → l < 256 → leads_below cut.classes l ≡ leads_below t.classes l
  cut_below = below_same t.classes cut.classes long_classes (omega (arith, cut_good.classes)) (λ i h. ap is_lead (cut_class i h))

  cut_code : (c : ℕ) → c < 65536 → unit_entry cut.index cut.blocks c ≡ unit_entry t.index t.blocks c
  cut_code c h =
      let same : entry_at cut.index (c / 256) ≡ entry_at t.index (c / 256) = cut_index (c / 256) (omega arith) in
      ap (λ (n : ℕ). entry_at cut.blocks (256 * n + c % 256)) same
      ∙ cut_block (256 * entry_at t.index (c / 256) + c % 256) (omega (arith, same, cut_good.number (c / 256) (omega arith)))

  cut_parts : PartsBut (set_of s t) cut 131842
  cut_parts =
      record {
        singles = λ c h ne. single_part t.classes t.singles cut.classes cut.singles c (ap is_single (cut_class c h)) (cut_single c h);
        leads = λ c h ne. lead_part t.classes cut.classes c (ap is_lead (cut_class c h));
        trails = λ c h ne. trail_part t.classes cut.classes c (ap is_trail (cut_class c h));
        pairs = λ c h ne.
            pair_part t.classes t.pairs cut.classes cut.pairs c (ap is_lead (cut_class (c / 256) (omega arith))) (ap is_trail (cut_class (c % 256) (omega arith)))
            (λ on.
            let below : leads_below cut.classes (c / 256) ≡ leads_below t.classes (c / 256) = cut_below (c / 256) (omega arith) in
            ap (λ (n : ℕ). entry_at cut.pairs (256 * n + c % 256)) below
            ∙ cut_pair (256 * leads_below t.classes (c / 256) + c % 256) (omega (arith, below, pairs_inside cut cut_good (c / 256) (omega arith) (ap is_lead (cut_class (c / 256) (omega arith)) ∙ on))));
        codes = λ c h ne. code_part t.index t.blocks cut.index cut.blocks c (cut_code c h);
      }

  cut_two : (i : ℕ) → i < 2 → record_at cut i ≡ record_at (set_of s t) i
  unfolding cut_set
  cut_two i h = first_two (set_of s t) cut refl refl refl i h

  cut_record : (i : ℕ) → i < 131842 → record_at cut i ≡ record_at (set_of s t) i
  cut_record i h = by_two (ltb i 2) refl
    where
      by_two : (b : Bool) → ltb i 2 ≡ b → record_at cut i ≡ record_at (set_of s t) i
      by_two true q = cut_two i (ltb-true i 2 q)
      by_two false q = by_parts (set_of s t) cut 131842 cut_parts i (ltb-false i 2 q) h (λ e. omega arith)

  all_places : (lines : List (List ℕ)) → Told s t lines → last_place s < 131842 → (n : ℕ) → n ≡ 131842 → lines_from cut n 0 ≡ lines
  all_places lines told small n e =
      lines_same (set_of s t) cut n 0 (λ i h m. cut_record i (omega arith))
      ∙ lines_split (set_of s t) (last_place s + 1) (n - (last_place s + 1)) n 0 (last_place s + 1) (omega arith) (omega arith)
      ∙ ap₂ (λ (l m : List (List ℕ)). l ++ m) told.are (lines_none (set_of s t) (n - (last_place s + 1)) (last_place s + 1) (λ i h m. told.standing.behind i (omega arith) (omega (arith, late_place s.letter s.key told.standing.late)) (omega arith)))
      ∙ append-nil lines

last_small : (l : Letter) (key : ℕ) → KeyIn l key → place_by l key < 131842
last_small Start key h = omega arith
last_small P key h = omega arith
last_small D key h = omega arith
last_small S key h = omega arith
last_small L key h = omega arith
last_small T key h = omega arith
last_small M key h = omega arith
last_small W key h = omega arith

all_count : (n : ℕ) × (n ≡ 131842)
all_count = (131842, refl)

-- A whole listing that is accepted from its first line to its end, written again, is the same lines.
pub listing_again : (lines : List (List ℕ)) (t : Tables) (s' : Progress) (t' : Tables) (numbers : Numbers) (sizes : Sizes)
    → read_all nothing_read lines t ≡ reading_as (Ok s') t' → listing_end s' ≡ Ok (numbers, sizes) → whole_listing (cut_set numbers sizes t') ≡ lines
unfolding whole_listing
listing_again lines t s' t' numbers sizes e f =
    sym (ap (λ (n : ℕ). lines_from (cut_set numbers sizes t') n 0) all_count.1)
    ∙ subst (λ (n : Numbers). lines_from (cut_set n sizes t') all_count.0 0 ≡ lines) same.0
    (subst (λ (z : Sizes). lines_from (cut_set s'.numbers z t') all_count.0 0 ≡ lines) same.1
    (all_places s' t' kept lines told (last_small s'.letter s'.key told.standing.key) all_count.0 all_count.1))
  where
    again : Again s' t' lines
    again = again_all lines nothing_read t [] (record { none = λ x. refl; first = λ x. absurd (omega arith); told = λ x. absurd (omega arith) }) (λ h. absurd (omega arith)) s' t' e

    ended_as : (2 ≤ rank s'.letter) × ((s'.numbers ≡ numbers) × (sizes_listed s' ≡ sizes))
    ended_as = end_whole s' numbers sizes f

    same : (s'.numbers ≡ numbers) × (sizes_listed s' ≡ sizes)
    same = ended_as.1

    told : Told s' t' lines
    told = again.told ended_as.0

    kept : Kept s' t'
    kept = every_line lines nothing_read t (λ h. absurd (omega arith)) s' t' e (omega (arith, ended_as.0))
