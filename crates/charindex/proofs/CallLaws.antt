-- Laws of the two calls: what each gives in each of its cases.
use mathlib.Core.Bool.{Bool, true, false}
use mathlib.Core.List.{List}
use mathlib.Core.Option.{none, some}
use mathlib.Core.Path.{◌≡◌, refl, sym, ap, ◌∙◌, subst}
use Rattle.std.proofs.Common.{Result, Ok, Err}
use Prim.Native.Nat.{ℕ, zero, suc, ◌-◌, ◌*◌, ◌≤◌, ◌<◌}
use native.Mathlib.Omega.{arith}
use lib.Dec.{leb}
use lib.ListN.{length}
use borrow.Author.Tests.{le-leb, lt-leb, leb-true}
use Rattle.codepage.specs.CodePage.{CodePage, pick, entry_at, first_fault, is_good}
use Rattle.codepage.specs.Reading.{Reader}
use Rattle.codepage.proofs.ShapeLaws.{shape_exact}
use Rattle.convert.specs.Runs.{piece_limit}
use Rattle.codepage_walk.specs.Checks.{refuse_unless, bytes_reader}
use Rattle.charindex.specs.declared.Start.{Start}
use Rattle.charindex.specs.declared.Refusal.{Refusal}
use Rattle.charindex.specs.declared.Refusal.TheVariants.{BadShape, TooLong, FormerTooLong, BadIndex}
use Rattle.charindex.specs.Index.{count_of, blocks_of, start_at, start_after, append_of, find_of}
use Rattle.charindex.specs.Calls.{counts_within, append_refusal, Appending, append_unless, appending_of, AppendedAs, found_or29, find_refusal, finding_of}
use Rattle.charindex.specs.Steps.{written_entries, checked_start, going_on}

-- tables of a good shape have 256 classes
pub classes_size : (p : CodePage) → is_good (first_fault p) ≡ true → length p.classes ≡ 256
classes_size p e = ((shape_exact p).0 e).classes

-- ---- finding
module _ (p : CodePage) (journal entries : List ℕ) (n : ℕ) where
  -- 10
  pub find_bad : is_good (first_fault p) ≡ false → finding_of p journal entries n ≡ Err BadShape
  unfolding finding_of find_refusal
  find_bad e = rw e

  module _ (e : is_good (first_fault p) ≡ true) where
    -- 11
    pub find_long : piece_limit < length journal → finding_of p journal entries n ≡ Err TooLong
    unfolding finding_of find_refusal
    find_long h = rw (e, lt-leb (length journal) piece_limit h)

    -- 28: the index is too short
    pub find_short : length journal ≤ piece_limit → length entries < blocks_of (length journal) → finding_of p journal entries n ≡ Err BadIndex
    unfolding finding_of find_refusal
    find_short h s = rw (e, le-leb (length journal) piece_limit h, lt-leb (blocks_of (length journal)) (length entries) s)

    -- else what the index finds
    pub find_given : length journal ≤ piece_limit → blocks_of (length journal) ≤ length entries → finding_of p journal entries n ≡ found_or29 (find_of (bytes_reader p) journal entries n)
    unfolding finding_of find_refusal
    find_given h s = rw (e, le-leb (length journal) piece_limit h, le-leb (blocks_of (length journal)) (length entries) s)

-- ---- appending
module _ (p : CodePage) (journal : List ℕ) (former : ℕ) (entries : List ℕ) where
  -- 10
  pub append_bad : is_good (first_fault p) ≡ false → append_refusal p journal former entries ≡ some BadShape
  unfolding append_refusal
  append_bad e = rw e

  module _ (e : is_good (first_fault p) ≡ true) where
    -- 11
    pub append_long : piece_limit < length journal → append_refusal p journal former entries ≡ some TooLong
    unfolding append_refusal
    append_long h = rw (e, lt-leb (length journal) piece_limit h)

    module _ (h : length journal ≤ piece_limit) where
      -- 33
      pub append_former : length journal < former → append_refusal p journal former entries ≡ some FormerTooLong
      unfolding append_refusal
      append_former f = rw (e, le-leb (length journal) piece_limit h, lt-leb former (length journal) f)

      module _ (f : former ≤ length journal) where
        -- 28: the index is too short
        pub append_short : length entries < blocks_of (length journal) → append_refusal p journal former entries ≡ some BadIndex
        unfolding append_refusal
        append_short s = rw (e, le-leb (length journal) piece_limit h, le-leb former (length journal) f, lt-leb (blocks_of (length journal)) (length entries) s)

        -- all but the former last entry's count is checked
        pub append_rest : blocks_of (length journal) ≤ length entries → append_refusal p journal former entries ≡ refuse_unless BadIndex (counts_within entries (blocks_of former)) none
        unfolding append_refusal
        append_rest s = rw (e, le-leb (length journal) piece_limit h, le-leb former (length journal) f, le-leb (blocks_of (length journal)) (length entries) s)

        -- then the call is what it is on an index that is long enough
        pub appended_on : blocks_of (length journal) ≤ length entries → (answer : Result ℕ Refusal) (after : List ℕ)
            → AppendedAs (going_on (bytes_reader p) journal former entries) answer after → AppendedAs (appending_of p journal former entries) answer after
        unfolding appending_of going_on
        appended_on s answer after a = rw (append_rest s) a

  -- what the call returns
  pub appended_refused : (why : Refusal) → append_refusal p journal former entries ≡ some why → AppendedAs (appending_of p journal former entries) (Err why) entries
  unfolding appending_of
  appended_refused why e = rw e (record { answer = refl; lent = refl })

-- ---- appending to an index that is long enough, by its former blocks
abbrev on_from : Reader → (journal : List ℕ) → (first : ℕ) → (entries : List ℕ) → Appending
on_from r journal first entries =
    append_unless (refuse_unless BadIndex (counts_within entries first) none) (blocks_of (length journal)) entries (written_entries r journal (start_after entries first) first entries)

on_from_lem : (r : Reader) (journal : List ℕ) (former : ℕ) (entries : List ℕ) → going_on r journal former entries ≡ on_from r journal (blocks_of former) entries
unfolding going_on append_of written_entries
on_from_lem r journal former entries = refl

module _ (r : Reader) (journal : List ℕ) (former : ℕ) (entries : List ℕ) (all : ℕ) (a : all ≡ blocks_of (length journal)) where
  as_from : (first k : ℕ) → first ≡ blocks_of former → first ≡ k → (answer : Result ℕ Refusal) (after : List ℕ)
      → AppendedAs (on_from r journal k entries) answer after → AppendedAs (going_on r journal former entries) answer after
  as_from first k e q answer after w =
      subst (λ (c : Appending). AppendedAs c answer after) (sym (on_from_lem r journal former entries ∙ ap (λ (b : ℕ). on_from r journal b entries) (sym e ∙ q))) w

  module _ (first : ℕ) (e : first ≡ blocks_of former) where
    -- the former last entry counts more codes than bytes before its block
    pub on_wrong : (why : Refusal) → Err why ≡ checked_start entries first → AppendedAs (going_on r journal former entries) (Err why) entries
    unfolding checked_start
    on_wrong why w = as_from first first e refl (Err why) entries (by (counts_within entries first) refl w)
      where
        by : (t : Bool) → counts_within entries first ≡ t → Err why ≡ pick t (Ok (start_after entries first)) (Err BadIndex) → AppendedAs (on_from r journal first entries) (Err why) entries
        by true q w = let z : ◌≡◌ {A = ℕ} 0 1 = cc in absurd (omega arith)
        by false q w = let same : why ≡ BadIndex = cc in rw q (record { answer = ap (λ (x : Refusal). Err x) same; lent = refl })

    -- else it is gone on from
    pub on_start : (s : Start) (after : List ℕ) → Ok s ≡ checked_start entries first → after ≡ written_entries r journal s first entries → AppendedAs (going_on r journal former entries) (Ok all) after
    unfolding checked_start
    on_start s after w v = as_from first first e refl (Ok all) after (by (counts_within entries first) refl w)
      where
        by : (t : Bool) → counts_within entries first ≡ t → Ok s ≡ pick t (Ok (start_after entries first)) (Err BadIndex) → AppendedAs (on_from r journal first entries) (Ok all) after
        by false q w = let z : ◌≡◌ {A = ℕ} 0 1 = cc in absurd (omega arith)
        by true q w =
            let same : s ≡ start_after entries first = cc in
            rw q (record { answer = ap (λ (n : ℕ). Ok n) a; lent = v ∙ ap (λ (t : Start). written_entries r journal t first entries) same })

-- ---- where reading goes on behind the first blocks
module _ (entries : List ℕ) (blocks : ℕ) where
  pub start_front : blocks ≡ 0 → Ok (record { place = 0; count = 0 }) ≡ checked_start entries blocks
  unfolding checked_start counts_within start_after
  start_front z = sym (ap (checked_start entries) z)

  module _ (some_block : 0 < blocks) (s : Start) (q : s ≡ start_at (blocks - 1) (entry_at entries (blocks - 1))) where
    same : blocks ≡ suc (blocks - 1)
    same = omega arith

    pub start_wrong : 512 * (blocks - 1) < s.count → Err BadIndex ≡ checked_start entries blocks
    unfolding checked_start counts_within
    start_wrong h =
        let over : 512 * (blocks - 1) < count_of (entry_at entries (blocks - 1)) = subst (λ (t : Start). 512 * (blocks - 1) < t.count) q h in
        sym (ap (checked_start entries) same ∙ rw (lt-leb (count_of (entry_at entries (blocks - 1))) (512 * (blocks - 1)) over))

    pub start_last : s.count ≤ 512 * (blocks - 1) → Ok s ≡ checked_start entries blocks
    unfolding checked_start counts_within start_after
    start_last h =
        let within : count_of (entry_at entries (blocks - 1)) ≤ 512 * (blocks - 1) = subst (λ (t : Start). t.count ≤ 512 * (blocks - 1)) q h in
        ap {B = Result Start Refusal} (λ (t : Start). Ok t) q ∙ sym (ap (checked_start entries) same ∙ rw (le-leb (count_of (entry_at entries (blocks - 1))) (512 * (blocks - 1)) within))

-- a start behind the first blocks of a journal lies in it, and is not behind the next block's first byte
pub record StartWithin (size blocks : ℕ) (s : Start) : Type 0 where
  pub place : s.place ≤ size
  pub count : s.count ≤ s.place
  pub behind : s.place ≤ 512 * blocks

pub start_found : (size former : ℕ) (entries : List ℕ) (blocks : ℕ) (s : Start) → former ≤ size → blocks ≡ blocks_of former → Ok s ≡ checked_start entries blocks → StartWithin size blocks s
unfolding checked_start counts_within start_after
start_found size former entries zero s f e w =
    let same : s ≡ record { place = 0; count = 0 } = cc in
    subst (StartWithin size 0) (sym same) (record { place = omega arith; count = omega arith; behind = omega arith })
start_found size former entries (suc block) s f e w = by (leb (count_of (entry_at entries block)) (512 * block)) refl w
  where
    by : (t : Bool) → leb (count_of (entry_at entries block)) (512 * block) ≡ t → Ok s ≡ pick t (Ok (start_at block (entry_at entries block))) (Err BadIndex) → StartWithin size (suc block) s
    by false q w = let z : ◌≡◌ {A = ℕ} 0 1 = cc in absurd (omega arith)
    by true q w =
        let same : s ≡ start_at block (entry_at entries block) = cc in
        let within = leb-true (count_of (entry_at entries block)) (512 * block) q in
        subst (StartWithin size (suc block)) (sym same) (record { place = omega arith; count = omega arith; behind = omega arith })
