-- Laws of writing entries: one block more, and the end.
use mathlib.Core.List.{List, [], ◌∷◌, ◌++◌, append_assoc, append-nil}
use mathlib.Core.Path.{◌≡◌, refl, sym, ap, ◌∙◌}
use Prim.Native.Nat.{ℕ, zero, suc, ◌+◌, ◌-◌, ◌*◌, ◌≤◌, ◌<◌}
use native.Mathlib.Numerals.{add-one}
use native.Mathlib.Omega.{arith}
use lib.ListN.{length, take, drop, set, take-append-drop}
use lib.Seq.{take-suc-set, drop-set-lt, drop-drop}
use Rattle.codepage.specs.Reading.{Reader}
use Rattle.codepage_walk.specs.Walk.{Placed}
use Rattle.charindex.specs.declared.Start.{Start}
use Rattle.charindex.specs.Index.{blocks_of, block_entry, entries_from, codes_from, new_entries}
use Rattle.charindex.specs.Steps.{Reached, written_entries}

-- the entries of one block more
pub entries_more : (count : ℕ) (ps : List Placed) (block blocks : ℕ) → entries_from count ps block (suc blocks) ≡ entries_from count ps block blocks ++ (block_entry count ps (512 * (block + blocks)) ∷ [])
unfolding entries_from
entries_more count ps block zero = let same : block ≡ block + 0 = omega arith in ap (λ (b : ℕ). block_entry count ps (512 * b) ∷ []) same
entries_more count ps block (suc blocks) =
    let same : block + 1 + blocks ≡ block + suc blocks = omega arith in
    ap (λ (l : List ℕ). block_entry count ps (512 * block) ∷ l)
    (entries_more count ps (block + 1) blocks ∙ ap (λ (b : ℕ). entries_from count ps (block + 1) blocks ++ (block_entry count ps (512 * b) ∷ [])) same)

-- what is written up to a block, and where reading is
pub record Writing (r : Reader) (journal : List ℕ) (from counted first : ℕ) (before : List ℕ) (place count block : ℕ) (entries : List ℕ) : Type 0 where
  pub done : take block entries ≡ take first before ++ entries_from counted (codes_from r journal from) first (block - first)
  pub later : (b : ℕ) → 512 * block ≤ b → block_entry counted (codes_from r journal from) b ≡ block_entry count (codes_from r journal place) b

-- before the first block
pub writing_start : (r : Reader) (journal : List ℕ) (from counted first : ℕ) (before : List ℕ) → Writing r journal from counted first before from counted first before
unfolding entries_from
writing_start r journal from counted first before =
    let none : 0 ≡ first - first = omega arith in
    record {
      done = sym (append-nil (take first before)) ∙ ap (λ (n : ℕ). take first before ++ entries_from counted (codes_from r journal from) first n) none;
      later = λ b h. refl;
    }

module _ (r : Reader) (journal : List ℕ) (from counted first : ℕ) (before : List ℕ) (place count block : ℕ) (entries : List ℕ)
    (w : Writing r journal from counted first before place count block entries) where
  -- one block more
  pub writing_turn : (s : Start) → first ≤ block → block < length entries → Reached r journal (record { place = place; count = count }) (512 * block) s
      → Writing r journal from counted first before s.place s.count (block + 1) (set entries block (2 * s.count + (s.place - 512 * block)))
  writing_turn s f h g =
      let value = 2 * s.count + (s.place - 512 * block) in
      let new : value ≡ block_entry counted (codes_from r journal from) (512 * block) = sym (w.later (512 * block) (omega arith) ∙ g.here) in
      let here : block ≡ first + (block - first) = omega arith in
      let more : suc (block - first) ≡ block + 1 - first = omega arith in
      let ps = codes_from r journal from in
      record {
        done =
            ap (λ (n : ℕ). take n (set entries block value)) (add-one block) ∙ take-suc-set entries block value h
            ∙ ap (λ (l : List ℕ). l ++ (value ∷ [])) w.done
            ∙ append_assoc (take first before) (entries_from counted ps first (block - first)) (value ∷ [])
            ∙ ap (λ (e : ℕ). take first before ++ (entries_from counted ps first (block - first) ++ (e ∷ []))) new
            ∙ ap (λ (b : ℕ). take first before ++ (entries_from counted ps first (block - first) ++ (block_entry counted ps (512 * b) ∷ []))) here
            ∙ ap (λ (l : List ℕ). take first before ++ l) (sym (entries_more counted ps first (block - first)))
            ∙ ap (λ (n : ℕ). take first before ++ entries_from counted ps first n) more;
        later = λ b l. w.later b (omega arith) ∙ g.later b (omega arith);
      }

  -- behind the last block
  pub writing_end : block ≡ blocks_of (length journal) → drop block entries ≡ drop block before → entries ≡ written_entries r journal (record { place = from; count = counted }) first before
  unfolding written_entries new_entries
  writing_end e same =
      sym (take-append-drop block entries) ∙ ap (λ (l : List ℕ). l ++ drop block entries) w.done
      ∙ ap (λ (l : List ℕ). (take first before ++ entries_from counted (codes_from r journal from) first (block - first)) ++ l) same
      ∙ append_assoc (take first before) (entries_from counted (codes_from r journal from) first (block - first)) (drop block before)
      ∙ ap (λ (n : ℕ). take first before ++ (entries_from counted (codes_from r journal from) first (n - first) ++ drop n before)) e

-- the index behind what is written is as before
pub writing_left : (entries before : List ℕ) (i value : ℕ) → drop i entries ≡ drop i before → drop (i + 1) (set entries i value) ≡ drop (i + 1) before
writing_left entries before i value same =
    drop-set-lt (i + 1) entries i value (omega arith) ∙ sym (drop-drop 1 i entries) ∙ ap (drop 1) same ∙ drop-drop 1 i before
