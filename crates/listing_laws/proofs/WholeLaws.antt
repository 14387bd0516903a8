-- THE SHAPE: an accepted whole listing, each table cut to the size needed, has a good shape.
use mathlib.Core.Bool.{Bool, true, false, ◌&&◌, false≢true}
use mathlib.Core.List.{List, [], ◌∷◌}
use mathlib.Core.Path.{◌≡◌, refl, sym, ap, ◌∙◌, subst}
use Prim.Native.Nat.{ℕ, zero, suc, ◌+◌, ◌*◌, ◌/◌, ◌≤◌, ◌<◌}
use native.Mathlib.Numerals.{add-one}
use native.Mathlib.Omega.{arith}
use lib.Dec.{leb, eqb}
use lib.ListN.{length, take, set, length-set}
use lib.Seq.{length-take-le, get_or-take}
use borrow.Author.Tests.{leb-true, eqb-true, lt-leb}
use Rattle.codepage.specs.CodePage.{pick, entry_at, is_known, is_lead, leads, GoodShape}
use Rattle.codepage.proofs.ShapeLaws.{count_lead, count_other}
use Rattle.listing.specs.declared.Progress.{Progress}
use Rattle.listing.specs.declared.Letter.TheVariants.{Start, S, L, T, M, W}
use Rattle.listing.specs.declared.Record.{Record}
use Rattle.listing.specs.declared.Record.TheVariants.{Page, Defaults, Single, Lead, Trail, Pair, Code, NoRecord}
use Rattle.std.specs.declared.result.Result.{Result}
use Rattle.std.specs.declared.result.Result.TheVariants.{Ok, Err}
use Rattle.listing.specs.Sets.{count_half, in_bytes}
use Rattle.listing.specs.Order.{rank, is_listed_lead, accepts, after_record, is_new_high, code_block, blocks_listed, sizes_listed, class_of}
use Rattle.listing.specs.Form.{record_of}
use Rattle.listing.specs.Steps.{Fits, RecordReady}
use Rattle.listing.specs.Tables.{Tables, filled, opened_block, change_of, tables_fit, Reading, reading_as, read_record, line_reading, listing_end}
use Rattle.codepage.specs.declared.Numbers.{Numbers}
use Rattle.codepage.specs.declared.Sizes.{Sizes}
use Rattle.listing.specs.declared.Refusal.{Refusal}
use Rattle.listing.specs.declared.Refusal.TheVariants.{BadLine, TooSmall}
use Rattle.listing.specs.Whole.{read_all, then_read}
use Rattle.listing.proofs.TableLaws.{filled_length}
use Rattle.listing.proofs.ChangeLaws.{fit_known, some_block, blocks_room, code_room}
use Rattle.listing_laws.specs.Cut.{cut_set}
use Rattle.listing_laws.proofs.BitLaws.{tally, tally_same, lead_tally}
use Rattle.listing_laws.proofs.BoundLaws.{Bounded, bounded}
use Rattle.listing_laws.proofs.HoldLaws.{Holds, hold_page, hold_defaults, hold_single, hold_lead, hold_trail, hold_pair, hold_code, follows_late, lead_follows, pair_follows}
use Rattle.listing_laws.proofs.CodeLaws.{NumberedBy, number_record}

-- ---- leads by the classes and by the bits
pub class_lead : (s : Progress) (byte : ℕ) → is_lead (class_of s byte) ≡ is_listed_lead s.leads byte
unfolding is_lead
class_lead s byte = by_case (in_bytes s.trails byte) (is_listed_lead s.leads byte) (in_bytes s.singles byte)
  where
    by_case : (a b c : Bool) → is_lead (pick a (4 + pick b 2 (pick c 1 0)) (pick b 2 (pick c 1 0))) ≡ b
    by_case true true c = refl
    by_case true false true = refl
    by_case true false false = refl
    by_case false true c = refl
    by_case false false true = refl
    by_case false false false = refl

class_known : (s : Progress) (byte : ℕ) → is_known (class_of s byte) ≡ true
unfolding is_known
class_known s byte = by_case (in_bytes s.trails byte) (is_listed_lead s.leads byte) (in_bytes s.singles byte)
  where
    by_case : (a b c : Bool) → is_known (pick a (4 + pick b 2 (pick c 1 0)) (pick b 2 (pick c 1 0))) ≡ true
    by_case true true c = refl
    by_case true false true = refl
    by_case true false false = refl
    by_case false true c = refl
    by_case false false true = refl
    by_case false false false = refl

-- leads counted by their classes
pub leads_tally : (classes : List ℕ) (n : ℕ) → n ≤ length classes → leads (take n classes) ≡ tally (λ i. is_lead (entry_at classes i)) n
unfolding leads tally
leads_tally classes zero h = refl
leads_tally classes (suc n) h = by_class (is_lead (entry_at classes n)) refl (leads_tally classes n (omega arith))
  where
    by_class : (t : Bool) → is_lead (entry_at classes n) ≡ t → leads (take n classes) ≡ tally (λ i. is_lead (entry_at classes i)) n
        → leads (take (suc n) classes) ≡ pick (is_lead (entry_at classes n)) (suc (tally (λ i. is_lead (entry_at classes i)) n)) (tally (λ i. is_lead (entry_at classes i)) n)
    by_class true q less = rw q (omega (arith, count_lead classes n (leads (take n classes)) refl q (omega arith), ap (λ (k : ℕ). leads (take k classes)) (add-one n), less))
    by_class false q less = rw q (omega (arith, count_other classes n (leads (take n classes)) refl q (omega arith), ap (λ (k : ℕ). leads (take k classes)) (add-one n), less))

-- ---- every accepted line
-- what holds once `P` was read: the tables have the sizes needed, and blocks are numbered as they came
pub record Kept (s : Progress) (t : Tables) : Type 0 where
  pub holds : Holds s t
  pub numbers : NumberedBy s t
  pub fits : Fits (sizes_listed s) t.classes t.singles t.pairs t.index t.blocks

-- what is kept once `P` was read
abbrev pub Sound : Progress → Tables → Type 0
Sound s t = 1 ≤ rank s.letter → Kept s t

-- an accepted record in tables that fit
module _ (s : Progress) (t : Tables) (sound : Sound s t) where
  -- what holds is kept by every accepted record
  pub hold_record : (r : Record) → Bounded r → accepts s r ≡ true → 256 ≤ length t.classes → 256 ≤ length t.index → Holds (after_record s r) (change_of s r t)
  hold_record (Page page) b e long wide = hold_page s page t b long wide
  hold_record (Defaults byte unit) b e long wide = hold_defaults s t (sound (omega (arith, eqb-true (rank s.letter) 1 e))).holds byte unit e
  hold_record (Single byte unit) b e long wide = hold_single s t (sound (omega (arith, follows_late s S byte e))).holds byte unit b long e
  hold_record (Lead byte) b e long wide = hold_lead s t (sound (omega (arith, follows_late s L byte (lead_follows s byte e)))).holds byte b long e
  hold_record (Trail byte) b e long wide = hold_trail s t (sound (omega (arith, follows_late s T byte e))).holds byte b long e
  hold_record (Pair code unit) b e long wide = hold_pair s t (sound (omega (arith, follows_late s M code (pair_follows s code unit e)))).holds code unit e
  hold_record (Code unit code) b e long wide = hold_code s t (sound (omega (arith, follows_late s W unit e))).holds unit code b wide e
  hold_record NoRecord b e long wide = absurd (false≢true e)

-- ---- no table changes its size
pick_length : (t : Bool) (a b : List ℕ) (n : ℕ) → length a ≡ n → length b ≡ n → length (pick t a b) ≡ n
pick_length true a b n x y = x
pick_length false a b n x y = y

opened_length : (blocks : List ℕ) (block : ℕ) → length (opened_block blocks block) ≡ length blocks
unfolding opened_block
opened_length blocks block = pick_length (eqb block 0) blocks (filled blocks (256 * block) 256 0xFFFF) (length blocks) refl (filled_length blocks (256 * block) 256 0xFFFF)

-- two table sets of the same sizes
pub record SameSizes (t u : Tables) : Type 0 where
  pub classes : length u.classes ≡ length t.classes
  pub singles : length u.singles ≡ length t.singles
  pub pairs : length u.pairs ≡ length t.pairs
  pub index : length u.index ≡ length t.index
  pub blocks : length u.blocks ≡ length t.blocks

-- no table changes its size
pub same_sizes : (s : Progress) (r : Record) (t : Tables) → SameSizes t (change_of s r t)
same_sizes s (Page page) t = record { classes = filled_length _ _ _ _; singles = filled_length _ _ _ _; pairs = refl; index = filled_length _ _ _ _; blocks = filled_length _ _ _ _ }
same_sizes s (Defaults byte unit) t = record { classes = refl; singles = refl; pairs = refl; index = refl; blocks = refl }
same_sizes s (Single byte unit) t = record { classes = simp length-set; singles = simp length-set; pairs = refl; index = refl; blocks = refl }
same_sizes s (Lead byte) t = record { classes = simp length-set; singles = refl; pairs = filled_length _ _ _ _; index = refl; blocks = refl }
same_sizes s (Trail byte) t = record { classes = simp length-set; singles = refl; pairs = refl; index = refl; blocks = refl }
same_sizes s (Pair code unit) t = record { classes = refl; singles = refl; pairs = simp length-set; index = refl; blocks = refl }
same_sizes s (Code unit code) t =
    record {
      classes = refl;
      singles = refl;
      pairs = refl;
      index = pick_length (is_new_high s unit) (set t.index (unit / 256) (code_block s unit)) t.index (length t.index) (length-set t.index (unit / 256) (code_block s unit)) refl;
      blocks = simp length-set (pick_length (is_new_high s unit) (opened_block t.blocks (code_block s unit)) t.blocks (length t.blocks) (opened_length t.blocks (code_block s unit)) refl);
    }
same_sizes s NoRecord t = record { classes = refl; singles = refl; pairs = refl; index = refl; blocks = refl }

-- ---- a line, and all lines
pub accepted_same : {s u : Progress} → ◌≡◌ {A = Result Progress Refusal} (Ok s) (Ok u) → s ≡ u
accepted_same e = cc

module _ (s : Progress) (t : Tables) (sound : Sound s t) where
  kept : (r : Record) → Bounded r → Fits (sizes_listed (after_record s r)) t.classes t.singles t.pairs t.index t.blocks → accepts s r ≡ true → Kept (after_record s r) (change_of s r t)
  unfolding sizes_listed
  kept r bound roomy q =
      record {
        holds = hold_record s t sound r bound q roomy.classes_fit roomy.index_fit;
        numbers = number_record s t r q (λ h. (sound h).numbers) roomy.index_fit (blocks_room ready) (λ unit code e. (subst Bounded e bound, code_room ready unit code e));
        fits =
            record {
              classes_fit = omega (arith, roomy.classes_fit, (same_sizes s r t).classes);
              singles_fit = omega (arith, roomy.singles_fit, (same_sizes s r t).singles);
              pairs_fit = omega (arith, roomy.pairs_fit, (same_sizes s r t).pairs);
              index_fit = omega (arith, roomy.index_fit, (same_sizes s r t).index);
              blocks_fit = omega (arith, roomy.blocks_fit, (same_sizes s r t).blocks);
            };
      }
    where
      ready : RecordReady s (after_record s r) r t.classes t.singles t.pairs t.index t.blocks
      ready = record { accepted = q; next = refl; fits = roomy }

  step_record : (r : Record) → Bounded r → (u : Progress) → (read_record s r t).answer ≡ Ok u → Sound u (read_record s r t).lent
  unfolding read_record
  step_record r bound u e = by_case (accepts s r) refl (tables_fit (sizes_listed (after_record s r)) t) refl
    where
      by_case : (a : Bool) → accepts s r ≡ a → (b : Bool) → tables_fit (sizes_listed (after_record s r)) t ≡ b → Sound u (read_record s r t).lent
      by_case false q b w = let z : ◌≡◌ {A = ℕ} 0 1 = refused (sym (rw (q, read_record)) ∙ e) in absurd (omega arith)
        where
          refused : ◌≡◌ {A = Result Progress Refusal} (Err BadLine) (Ok u) → ◌≡◌ {A = ℕ} 0 1
          refused x = cc
      by_case true q false w = let z : ◌≡◌ {A = ℕ} 0 1 = refused (sym (rw (q, w, read_record)) ∙ e) in absurd (omega arith)
        where
          refused : ◌≡◌ {A = Result Progress Refusal} (Err TooSmall) (Ok u) → ◌≡◌ {A = ℕ} 0 1
          refused x = cc
      by_case true q true w =
          let same : after_record s r ≡ u = accepted_same (sym (rw (q, w, read_record)) ∙ e) in
          let roomy : Fits (sizes_listed (after_record s r)) t.classes t.singles t.pairs t.index t.blocks = fit_known (sizes_listed (after_record s r)) t.classes t.singles t.pairs t.index t.blocks w in
          λ late. rw (q, w, read_record) (subst (λ (n : Progress). Kept n (change_of s r t)) same (kept r bound roomy q))

  -- and by every accepted line
  pub step : (line : List ℕ) (u : Progress) → (line_reading s line t).answer ≡ Ok u → Sound u (line_reading s line t).lent
  unfolding line_reading
  step line u e = step_record (record_of line) (bounded line) u e

-- equal readings have equal parts
pub reading_same : {a b : Result Progress Refusal} {t u : Tables} → reading_as a t ≡ reading_as b u → (a ≡ b) × (t ≡ u)
reading_same e = (ap (λ (r : Reading). r.answer) e, ap (λ (r : Reading). r.lent) e)

-- a refusal is no acceptance
pub refused_not : {why : Refusal} {u : Progress} → ◌≡◌ {A = Result Progress Refusal} (Err why) (Ok u) → ⊥
refused_not {why} {u} e = let z : ◌≡◌ {A = ℕ} 0 1 = cc in omega arith

-- and by every accepted listing
pub every_line : (lines : List (List ℕ)) (s : Progress) (t : Tables) → Sound s t → (s' : Progress) (t' : Tables) → read_all s lines t ≡ reading_as (Ok s') t' → Sound s' t'
unfolding read_all
every_line [] s t sound s' t' e =
    subst (λ (u : Tables). Sound s' u) (reading_same e).1 (subst (λ (n : Progress). Sound n t) (accepted_same (reading_same e).0) sound)
every_line (line ∷ lines) s t sound s' t' e =
    by_answer (λ u k. every_line lines u (line_reading s line t).lent (step s t sound line u k) s' t') (line_reading s line t).answer refl e
  where
    by_answer : ((u : Progress) → (line_reading s line t).answer ≡ Ok u → read_all u lines (line_reading s line t).lent ≡ reading_as (Ok s') t' → Sound s' t')
        → (a : Result Progress Refusal) → (line_reading s line t).answer ≡ a → then_read a (line_reading s line t).lent (λ n v. read_all n lines v) ≡ reading_as (Ok s') t' → Sound s' t'
    by_answer more (Ok u) q k = more u q k
    by_answer more (Err why) q k = absurd (refused_not (reading_same k).0)

-- ---- the shape
module _ (s : Progress) (t : Tables) (kept : Kept s t) where
  small_count : blocks_listed s ≤ 256
  unfolding blocks_listed
  small_count = by_case (eqb (rank s.letter) 7 && eqb s.block 0)
    where
      by_case : (b : Bool) → pick b 256 (s.block + 1) ≤ 256
      by_case true = omega arith
      by_case false = omega (arith, kept.holds.block)

  same_class : (byte : ℕ) → byte < 256 → entry_at (take 256 t.classes) byte ≡ class_of s byte
  same_class byte h = get_or-take 256 t.classes byte 0 h ∙ kept.holds.classes byte h

  long : 256 ≤ length t.classes
  unfolding sizes_listed
  long = kept.fits.classes_fit

  lead_count : leads (take 256 t.classes) ≡ count_half s.leads
  lead_count =
      leads_tally t.classes 256 long
      ∙ tally_same (λ i. is_lead (entry_at t.classes i)) (is_listed_lead s.leads) 256 (λ i h. ap is_lead (kept.holds.classes i h) ∙ class_lead s i)
      ∙ sym (lead_tally s.leads kept.holds.low_word kept.holds.high_word)

  low_lead : (byte : ℕ) → byte < 0x80 → is_listed_lead s.leads byte ≡ false
  unfolding is_listed_lead
  low_lead byte h = rw (lt-leb 0x80 byte h)

  -- what holds is a good shape
  pub good_shape : GoodShape (cut_set s.numbers (sizes_listed s) t)
  unfolding cut_set sizes_listed
  good_shape =
      let blocks_long : length (take (256 * blocks_listed s) t.blocks) ≡ 256 * blocks_listed s = length-take-le (256 * blocks_listed s) t.blocks kept.fits.blocks_fit in
      record {
        page = kept.holds.page;
        classes = length-take-le 256 t.classes kept.fits.classes_fit;
        singles = length-take-le 256 t.singles kept.fits.singles_fit;
        pairs = length-take-le (256 * count_half s.leads) t.pairs kept.fits.pairs_fit ∙ ap (λ (n : ℕ). 256 * n) (sym lead_count);
        index = length-take-le 256 t.index kept.fits.index_fit;
        blocks = (blocks_listed s, some_block s, small_count, blocks_long);
        class = λ byte h. ap is_known (same_class byte h) ∙ class_known s byte;
        low = λ byte h. ap is_lead (same_class byte (omega arith)) ∙ class_lead s byte ∙ low_lead byte h;
        number = λ high h. omega (arith, blocks_long, get_or-take 256 t.index high 0 h, kept.holds.index high h);
      }

-- an end that is whole: `D` was read, and these are the numbers and sizes
pub end_whole : (s : Progress) (numbers : Numbers) (sizes : Sizes) → listing_end s ≡ Ok (numbers, sizes) → (2 ≤ rank s.letter) × ((s.numbers ≡ numbers) × (sizes_listed s ≡ sizes))
unfolding listing_end
end_whole s numbers sizes f = by_letter (leb 2 (rank s.letter)) refl
  where
    whole_same : ◌≡◌ {A = Result (Numbers × Sizes) Refusal} (Ok (s.numbers, sizes_listed s)) (Ok (numbers, sizes)) → (s.numbers ≡ numbers) × (sizes_listed s ≡ sizes)
    whole_same k =
        let e : ◌≡◌ {A = Numbers × Sizes} (s.numbers, sizes_listed s) (numbers, sizes) = cc in
        (ap (λ (x : Numbers × Sizes). x.0) e, ap (λ (x : Numbers × Sizes). x.1) e)

    unfinished : ◌≡◌ {A = Result (Numbers × Sizes) Refusal} (Err BadLine) (Ok (numbers, sizes)) → ⊥
    unfinished k = let z : ◌≡◌ {A = ℕ} 0 1 = cc in omega arith

    by_letter : (b : Bool) → leb 2 (rank s.letter) ≡ b → (2 ≤ rank s.letter) × ((s.numbers ≡ numbers) × (sizes_listed s ≡ sizes))
    by_letter true q = (leb-true 2 (rank s.letter) q, whole_same (sym (rw q) ∙ f))
    by_letter false q = absurd (unfinished (sym (rw q) ∙ f))

-- THE SHAPE: a whole listing that is accepted from its first line to its end gives, each table cut to the size needed, a good
-- shape.
pub listing_shape : (lines : List (List ℕ)) (s : Progress) (t : Tables) (s' : Progress) (t' : Tables) (numbers : Numbers) (sizes : Sizes)
    → s.letter ≡ Start → read_all s lines t ≡ reading_as (Ok s') t' → listing_end s' ≡ Ok (numbers, sizes) → GoodShape (cut_set numbers sizes t')
listing_shape lines s t s' t' numbers sizes start e f =
    let (late, same) = end_whole s' numbers sizes f in
    subst (λ (n : Numbers). GoodShape (cut_set n sizes t')) same.0
    (subst (λ (z : Sizes). GoodShape (cut_set s'.numbers z t')) same.1
    (good_shape s' t' (every_line lines s t (λ h. absurd (omega (arith, ap rank start))) s' t' e (omega arith))))
