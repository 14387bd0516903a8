-- THE THEOREMS of the index: appended to, a right index is the one made anew; and by a right index code n of the whole reading is found.
use mathlib.Core.Bool.{Bool, true, false, ◌&&◌, ◌||◌}
use mathlib.Core.List.{List, [], ◌∷◌, ◌++◌, append_assoc, append-nil}
use mathlib.Core.Logic.{◌↔◌}
use mathlib.Core.Option.{Option, none, some}
use mathlib.Core.Path.{◌≡◌, refl, sym, ap, ◌∙◌, subst}
use Prim.Native.Nat.{ℕ, zero, suc, ◌+◌, ◌-◌, ◌*◌, ◌≤◌, ◌<◌}
use native.Mathlib.Omega.{arith}
use lib.Dec.{leb, ltb, eqb}
use lib.ListN.{length, take, drop, take-append-drop}
use lib.Seq.{length-take-le, take-append_seam, get_or-take}
use borrow.Author.Tests.{leb-true, leb-false, ltb-true, ltb-false}
use Rattle.codepage.specs.CodePage.{pick, entry_at}
use Rattle.codepage.specs.Reading.{Reader, Code, size_of, call_codes, left_pending, as_units, codes}
use Rattle.codepage.proofs.ReadingLaws.{sizes_of, sizes_cover}
use Rattle.codepage_walk.specs.Walk.{Placed, placed_from, placed}
use Rattle.codepage_walk.proofs.WalkLaws.{code_there, codes_cut}
use Rattle.charindex.specs.declared.Start.{Start}
use Rattle.charindex.specs.Index.{entry_of, count_of, second_mark, blocks_of, starts_before, is_second, block_entry, entries_from, index_of, codes_from, start_at, start_after, new_entries, append_of, last_block, code_number, code_after, code_in_block, find_of}
use Rattle.charindex.specs.Claims.{Right}
use Rattle.charindex.proofs.EntryLaws.{starts_none, second_none, entry_none, Reading, reading_start, reading_turn, reading_end}
use Rattle.charindex.proofs.FindLaws.{last_of, last_this, last_before, number_end}

-- ---- the entry of a place is told by the codes that cover the text up to it: what follows them does not matter
starts_front : (b place : ℕ) (ks ls : List Code) → b ≤ place + sizes_of ks → starts_before b (placed_from place (ks ++ ls)) ≡ starts_before b (placed_from place ks)
unfolding starts_before placed_from
starts_front b place [] ls h = starts_none b place ls (omega arith)
starts_front b place (k ∷ ks) ls h = ap (λ (n : ℕ). pick (ltb place b) 1 0 + n) (starts_front b (place + size_of k) ks ls (omega arith))

second_front : (b place : ℕ) (ks ls : List Code) → b ≤ place + sizes_of ks → is_second b (placed_from place (ks ++ ls)) ≡ is_second b (placed_from place ks)
unfolding is_second placed_from
second_front b place [] ls h = second_none b place ls (omega arith)
second_front b place (k ∷ ks) ls h = ap (λ (t : Bool). (eqb (place + 1) b && eqb (size_of k) 2) || t) (second_front b (place + size_of k) ks ls (omega arith))

entry_front : (count b place : ℕ) (ks ls : List Code) → b ≤ place + sizes_of ks → block_entry count (placed_from place (ks ++ ls)) b ≡ block_entry count (placed_from place ks) b
unfolding block_entry
entry_front count b place ks ls h = rw (starts_front b place ks ls h, second_front b place ks ls h)

-- BYTES THAT ARE APPENDED CHANGE NO ENTRY of a block begun before them, though the code at the former end may grow.
pub entries_stay : (r : Reader) (text more : List ℕ) (b : ℕ) → b < length text → block_entry 0 (placed r text) b ≡ block_entry 0 (placed r (text ++ more)) b
unfolding placed codes
entries_stay r text more b h =
    let front = call_codes r false none text in
    let whole : call_codes r true none (text ++ more) ≡ front ++ call_codes r true (left_pending r false none text) more = codes_cut r true none text more in
    let alone_read : call_codes r true none text ≡ front ++ call_codes r true (left_pending r false none text) [] =
    ap (call_codes r true none) (sym (append-nil text)) ∙ codes_cut r true none text [] in
    let covers : b ≤ 0 + sizes_of front = by (sizes_of (call_codes r false none text)) (left_pending r false none text) (sizes_cover r false none text) in
    ap (λ (ks : List Code). block_entry 0 (placed_from 0 ks) b) alone_read
    ∙ entry_front 0 b 0 front _ covers
    ∙ sym (entry_front 0 b 0 front _ covers)
    ∙ ap (λ (ks : List Code). block_entry 0 (placed_from 0 ks) b) (sym whole)
  where
    by : (n : ℕ) (o : Option ℕ) → n + length (as_units o) ≡ 0 + length text → b ≤ 0 + n
    by n none e = omega arith
    by n (some c) e = omega arith

-- ---- entries of blocks
entries_same : (count : ℕ) (ps : List Placed) (other : ℕ) (qs : List Placed) (block blocks : ℕ)
    → ((j : ℕ) → block ≤ j → j < block + blocks → block_entry count ps (512 * j) ≡ block_entry other qs (512 * j)) → entries_from count ps block blocks ≡ entries_from other qs block blocks
unfolding entries_from
entries_same count ps other qs block zero h = refl
entries_same count ps other qs block (suc blocks) h =
    ap (λ (e : ℕ). e ∷ entries_from count ps (block + 1) blocks) (h block (omega arith) (omega arith))
    ∙ ap (λ (l : List ℕ). block_entry other qs (512 * block) ∷ l) (entries_same count ps other qs (block + 1) blocks (λ j a b. h j (omega arith) (omega arith)))

entries_parts : (count : ℕ) (ps : List Placed) (block n m : ℕ) → entries_from count ps block (n + m) ≡ entries_from count ps block n ++ entries_from count ps (block + n) m
unfolding entries_from
entries_parts count ps block zero m =
    let same : block ≡ block + 0 = omega arith in
    let none_first : 0 + m ≡ m = omega arith in
    ap (entries_from count ps block) none_first ∙ ap (λ (b : ℕ). entries_from count ps b m) same
entries_parts count ps block (suc n) m =
    let same : block + 1 + n ≡ block + suc n = omega arith in
    let more : suc n + m ≡ suc (n + m) = omega arith in
    ap (entries_from count ps block) more
    ∙ ap (λ (l : List ℕ). block_entry count ps (512 * block) ∷ l) (entries_parts count ps (block + 1) n m ∙ ap (λ (b : ℕ). entries_from count ps (block + 1) n ++ entries_from count ps b m) same)

entries_size : (count : ℕ) (ps : List Placed) (block blocks : ℕ) → length (entries_from count ps block blocks) ≡ blocks
unfolding entries_from
entries_size count ps block zero = refl
entries_size count ps block (suc blocks) = ap suc (entries_size count ps (block + 1) blocks)

entries_at : (count : ℕ) (ps : List Placed) (block blocks i : ℕ) → i < blocks → entry_at (entries_from count ps block blocks) i ≡ block_entry count ps (512 * (block + i))
unfolding entries_from
entries_at count ps block zero i h = absurd (omega arith)
entries_at count ps block (suc blocks) zero h = let same : block ≡ block + 0 = omega arith in ap (λ (b : ℕ). block_entry count ps (512 * b)) same
entries_at count ps block (suc blocks) (suc i) h =
    let same : block + 1 + i ≡ block + suc i = omega arith in
    entries_at count ps (block + 1) blocks i (omega arith) ∙ ap (λ (b : ℕ). block_entry count ps (512 * b)) same

-- ---- a place is reached from the front
pub record Arrived (r : Reader) (text : List ℕ) (to : ℕ) : Type 0 where
  pub place : ℕ
  pub count : ℕ
  pub reading : Reading r text 0 0 to place count
  pub reached : to ≤ place

arrive : (r : Reader) (text : List ℕ) (to : ℕ) → to ≤ length text → (left place count : ℕ) → to ≤ place + left → Reading r text 0 0 to place count → Arrived r text to
arrive r text to inside zero place count h s = record { place = place; count = count; reading = s; reached = omega arith }
arrive r text to inside (suc left) place count h s = by (ltb place to) refl (arrive r text to inside left)
  where
    by : (t : Bool) → ltb place to ≡ t → ((place count : ℕ) → to ≤ place + left → Reading r text 0 0 to place count → Arrived r text to) → Arrived r text to
    by true q later =
        let before = ltb-true place to q in
        let t = code_there r text place (omega arith) in
        later (place + size_of t.code) (count + 1) (omega arith)
        (reading_turn r text 0 0 to place count s (size_of t.code) (omega arith) before (record { code = t.code; at = t.at; sized = refl }))
    by false q later = record { place = place; count = count; reading = s; reached = ltb-false place to q }

less_none : (n : ℕ) → n - 0 ≡ n
less_none n = omega arith

-- BY A RIGHT ENTRY reading goes on as from the front: the entries behind it, and the codes of each number.
pub record GoesOn (r : Reader) (text : List ℕ) (block : ℕ) (s : Start) : Type 0 where
  pub later : (b : ℕ) → 512 * block < b → block_entry s.count (codes_from r text s.place) b ≡ block_entry 0 (placed r text) b
  pub numbers : (n : ℕ) → s.count ≤ n → code_number (n - s.count) (codes_from r text s.place) ≡ code_number n (placed r text)

-- an entry that is the block's gives the place and the count that reading from the front has there
pub goes_on : (r : Reader) (text : List ℕ) (block e : ℕ) → 512 * block ≤ length text → e ≡ block_entry 0 (placed r text) (512 * block) → GoesOn r text block (start_at block e)
unfolding placed
goes_on r text block e h q =
    let a = arrive r text (512 * block) h (512 * block) 0 0 (omega arith) (reading_start r text 0 0 (512 * block) (omega arith)) in
    let m = reading_end r text 0 0 (512 * block) a.place a.count a.reading a.reached in
    let value : e ≡ 2 * a.count + (a.place - 512 * block) = q ∙ m.here in
    let within = m.within in
    let from_on = m.from_on in
    let count_is : a.count ≡ count_of e = omega arith in
    let place_is : a.place ≡ 512 * block + second_mark e = omega arith in
    subst (λ (c : ℕ). GoesOn r text block (record { place = 512 * block + second_mark e; count = c })) count_is
    (subst (λ (p : ℕ). GoesOn r text block (record { place = p; count = a.count })) place_is
    (record { later = λ b l. sym (a.reading.later b l); numbers = λ n l. sym (a.reading.numbers n l) ∙ ap (λ (i : ℕ). code_number i (codes_from r text 0)) (less_none n) }))

-- nothing starts before the front
first_none : (r : Reader) (text : List ℕ) → block_entry 0 (placed r text) (512 * 0) ≡ 0
unfolding placed
first_none r text = entry_none 0 (512 * 0) 0 (codes r text) (omega arith)

-- where the first entry counts nothing, some block counts at most n
first_counts : (entries : List ℕ) (n blocks : ℕ) → 0 < blocks → entry_at entries 0 ≡ 0 → last_block entries n blocks ≡ none → ⊥
first_counts entries n zero h z e = omega arith
first_counts entries n (suc zero) h z e =
    let found_first : ◌≡◌ {A = Option ℕ} (some 0) none = sym (last_this entries n 0 (omega arith)) ∙ e in
    let wrong : ◌≡◌ {A = ℕ} 0 1 = cc in
    omega arith
first_counts entries n (suc (suc b)) h z e = by (leb (count_of (entry_at entries (suc b))) n) refl (first_counts entries n (suc b))
  where
    by : (t : Bool) → leb (count_of (entry_at entries (suc b))) n ≡ t → (0 < suc b → entry_at entries 0 ≡ 0 → last_block entries n (suc b) ≡ none → ⊥) → ⊥
    by true q later =
        let found_last : ◌≡◌ {A = Option ℕ} (some (suc b)) none = sym (last_this entries n (suc b) (leb-true _ _ q)) ∙ e in
        let wrong : ◌≡◌ {A = ℕ} 0 1 = cc in
        omega arith
    by false q later = later (omega arith) z (sym (last_before entries n (suc b) (leb-false _ _ q)) ∙ e)

-- ---- a right index
module _ (r : Reader) (text entries : List ℕ) (right : Right r text entries) where
  -- each of its entries is the block's
  pub right_entry : (block : ℕ) → block < blocks_of (length text) → entry_at entries block ≡ block_entry 0 (placed r text) (512 * block)
  unfolding index_of
  right_entry block h =
      let same : 0 + block ≡ block = omega arith in
      sym (get_or-take (blocks_of (length text)) entries block 0 h) ∙ ap (λ (l : List ℕ). entry_at l block) right
      ∙ entries_at 0 (placed r text) 0 (blocks_of (length text)) block h ∙ ap (λ (b : ℕ). block_entry 0 (placed r text) (512 * b)) same

  right_goes : (block : ℕ) → block < blocks_of (length text) → GoesOn r text block (start_at block (entry_at entries block))
  right_goes block h = goes_on r text block (entry_at entries block) (omega arith) (right_entry block h)

  -- THE CODE FOUND BY A RIGHT INDEX IS CODE n OF THE WHOLE READING, and none is found exactly if there is none.
  pub find_right : (n : ℕ) → find_of r text entries n ≡ code_number n (placed r text)
  unfolding find_of code_in_block code_after placed
  find_right n = by (last_block entries n (blocks_of (length text))) refl
    where
      by : (o : Option ℕ) → last_block entries n (blocks_of (length text)) ≡ o → find_of r text entries n ≡ code_number n (placed r text)
      by none e = ap (code_in_block r text entries n) e ∙ sym (none_there (ltb 0 (length text)) refl)
        where
          none_there : (t : Bool) → ltb 0 (length text) ≡ t → code_number n (placed r text) ≡ none
          none_there true q = absurd (first_counts entries n (blocks_of (length text)) (omega (arith, ltb-true 0 (length text) q)) (omega (arith, right_entry 0 (omega (arith, ltb-true 0 (length text) q)), first_none r text)) e)
          none_there false q = number_end r text 0 n (ltb-false 0 (length text) q)
      by (some block) e =
          let (h, counts) = last_of entries n (blocks_of (length text)) block e in
          ap (code_in_block r text entries n) e ∙ (right_goes block h).numbers n counts

-- ---- appending
module _ (r : Reader) (journal : List ℕ) (former : ℕ) (entries : List ℕ) (inside : former ≤ length journal) (right : Right r (take former journal) entries) where
  before_size : length (take former journal) ≡ former
  before_size = length-take-le former journal inside

  -- the former entries are those of the whole journal
  former_entry : (block : ℕ) → block < blocks_of former → block_entry 0 (placed r (take former journal)) (512 * block) ≡ block_entry 0 (placed r journal) (512 * block)
  former_entry block h =
      entries_stay r (take former journal) (drop former journal) (512 * block) (omega (arith, before_size))
      ∙ ap (λ (l : List ℕ). block_entry 0 (placed r l) (512 * block)) (take-append-drop former journal)

  former_front : take (blocks_of former) entries ≡ entries_from 0 (placed r journal) 0 (blocks_of former)
  unfolding index_of
  former_front =
      ap (λ (n : ℕ). take (blocks_of n) entries) (sym before_size) ∙ right
      ∙ ap (λ (n : ℕ). entries_from 0 (placed r (take former journal)) 0 (blocks_of n)) before_size
      ∙ entries_same 0 (placed r (take former journal)) 0 (placed r journal) 0 (blocks_of former) (λ j a b. former_entry j (omega arith))

  new_entries_lem : (first : ℕ) → first ≡ blocks_of former
      → new_entries r journal (start_after entries first) first ≡ entries_from 0 (placed r journal) first (blocks_of (length journal) - first)
  unfolding new_entries start_after placed
  new_entries_lem zero e = refl
  new_entries_lem (suc block) e =
      let last : entry_at entries block ≡ block_entry 0 (placed r journal) (512 * block) =
      right_entry r (take former journal) entries right block (omega (arith, before_size)) ∙ former_entry block (omega arith) in
      let g = goes_on r journal block (entry_at entries block) (omega arith) last in
      entries_same _ _ 0 (placed r journal) (suc block) (blocks_of (length journal) - suc block) (λ j a b. g.later (512 * j) (omega arith))

  -- A RIGHT INDEX THAT IS APPENDED TO IS THE ONE MADE ANEW: any former length, any split.
  pub append_right : blocks_of (length journal) ≤ length entries → Right r journal (append_of r journal former entries)
  unfolding append_of index_of
  append_right long =
      let first = blocks_of former in
      let all = blocks_of (length journal) in
      let ps = placed r journal in
      let whole : first + (all - first) ≡ all = omega arith in
      let front = entries_from 0 ps 0 all in
      let parts : take first entries ++ new_entries r journal (start_after entries first) first ≡ front =
      ap (λ (l : List ℕ). l ++ new_entries r journal (start_after entries first) first) former_front
      ∙ ap (λ (l : List ℕ). entries_from 0 ps 0 first ++ l) (new_entries_lem first refl)
      ∙ ap (λ (b : ℕ). entries_from 0 ps 0 first ++ entries_from 0 ps b (all - first)) none_before
      ∙ sym (entries_parts 0 ps 0 first (all - first)) ∙ ap (entries_from 0 ps 0) whole in
      ap (take all) (sym (append_assoc (take first entries) (new_entries r journal (start_after entries first) first) (drop all entries))
      ∙ ap (λ (l : List ℕ). l ++ drop all entries) parts)
      ∙ ap (λ (n : ℕ). take n (front ++ drop all entries)) (sym (entries_size 0 ps 0 all))
      ∙ take-append_seam front (drop all entries)
    where
      none_before : blocks_of former ≡ 0 + blocks_of former
      none_before = omega arith

-- ---- a right entry counts no more codes than bytes before its block
starts_within : (b place : ℕ) (ks : List Code) → place ≤ b → place + starts_before b (placed_from place ks) ≤ b
unfolding starts_before placed_from
starts_within b place [] h = omega arith
starts_within b place (k ∷ ks) h = by (ltb place b) refl (leb (place + size_of k) b) refl (starts_within b (place + size_of k) ks)
  where
    by : (t : Bool) → ltb place b ≡ t → (u : Bool) → leb (place + size_of k) b ≡ u → (place + size_of k ≤ b → place + size_of k + starts_before b (placed_from (place + size_of k) ks) ≤ b)
        → place + (pick (ltb place b) 1 0 + starts_before b (placed_from (place + size_of k) ks)) ≤ b
    by true q true l later = rw q (omega (arith, later (leb-true _ _ l)))
    by true q false l later = rw q (omega (arith, ltb-true place b q, starts_none b (place + size_of k) ks (omega (arith, leb-false (place + size_of k) b l))))
    by false q u l later = rw q (omega (arith, starts_none b (place + size_of k) ks (omega (arith, ltb-false place b q))))

entry_within : (ps : List Placed) (b : ℕ) → starts_before b ps ≤ b → count_of (block_entry 0 ps b) ≤ b
unfolding block_entry entry_of
entry_within ps b h = by (is_second b ps)
  where
    by : (t : Bool) → count_of (2 * (0 + starts_before b ps) + pick t 1 0) ≤ b
    by true = omega arith
    by false = omega arith

-- A RIGHT INDEX IS NOT REFUSED FOR ITS COUNTS: none of its entries counts more codes than bytes before its block.
pub right_within : (r : Reader) (text entries : List ℕ) → Right r text entries → (block : ℕ) → block < blocks_of (length text) → count_of (entry_at entries block) ≤ 512 * block
unfolding placed
right_within r text entries right block h =
    subst (λ (e : ℕ). count_of e ≤ 512 * block) (sym (right_entry r text entries right block h))
    (entry_within (placed r text) (512 * block) (omega (arith, starts_within (512 * block) 0 (codes r text) (omega arith))))

-- Code n of some codes: there is none exactly if they are at most n.
pub number_none : (n : ℕ) (ps : List Placed) → (code_number n ps ≡ none) ↔ (length ps ≤ n)
unfolding code_number
number_none n [] = (λ e. omega arith, λ h. refl)
number_none zero (p ∷ ps) = (λ e. absurd (let z : ◌≡◌ {A = ℕ} 0 1 = cc in omega arith), λ h. absurd (omega arith))
number_none (suc n) (p ∷ ps) = (λ e. omega (arith, (number_none n ps).0 e), λ h. (number_none n ps).1 (omega arith))
