-- Laws of finding: the last block, and the codes read on from it.
use mathlib.Core.Bool.{Bool, true, false}
use mathlib.Core.List.{List}
use mathlib.Core.Logic.{◌⊎◌, inl, inr}
use mathlib.Core.Option.{Option, none, some}
use mathlib.Core.Path.{◌≡◌, refl, sym, ap, ◌∙◌, subst}
use Rattle.std.proofs.Common.{Some, None, ok_or}
use Prim.Native.Nat.{ℕ, zero, suc, ◌+◌, ◌-◌, ◌*◌, ◌≤◌, ◌<◌}
use native.Mathlib.Omega.{arith}
use lib.Dec.{leb}
use lib.ListN.{length, drop}
use borrow.Author.Tests.{le-leb, lt-leb, leb-true, leb-false}
use Rattle.codepage.specs.CodePage.{entry_at}
use Rattle.codepage.specs.Reading.{Reader, Code, size_of, codes}
use Rattle.codepage_walk.specs.Walk.{Placed, placed_from, SizedAs}
use Rattle.codepage_walk.proofs.WalkLaws.{codes_end, codes_next, sized_small}
use Rattle.charindex.specs.declared.Start.{Start}
use Rattle.std.proofs.Common.{Option as Maybe}
use Rattle.charindex.specs.declared.Found.{Found}
use Rattle.charindex.specs.declared.Refusal.TheVariants.{NoSuchCode}
use Rattle.charindex.specs.Index.{count_of, blocks_of, codes_from, start_at, last_block, code_number, code_after, code_in_block, find_of}
use Rattle.charindex.specs.Calls.{found_or29}
use Rattle.charindex.specs.Steps.{block_found, code_found}

-- ---- the last block
module _ (entries : List ℕ) (n block : ℕ) where
  -- a block that counts at most n
  pub last_this : count_of (entry_at entries block) ≤ n → last_block entries n (suc block) ≡ some block
  unfolding last_block
  last_this h = rw (le-leb (count_of (entry_at entries block)) n h, last_block)

  -- one that counts more: the last of those before it
  pub last_before : n < count_of (entry_at entries block) → last_block entries n (suc block) ≡ last_block entries n block
  unfolding last_block
  last_before h = rw (lt-leb (count_of (entry_at entries block)) n h, last_block)

-- ---- code n from a place on
-- what is found: a place and a length
abbrev pub found_at : (place size : ℕ) → Found
found_at place size = record { place = place; length = size }

module _ (r : Reader) (text : List ℕ) (place : ℕ) where
  -- none from the text's end on
  pub number_end : (n : ℕ) → length text ≤ place → code_number n (codes_from r text place) ≡ none
  unfolding code_number placed_from
  number_end n h = ap (λ (ks : List Code). code_number n (placed_from place ks)) (codes_end r text place h)

  module _ (size : ℕ) (s : SizedAs r text place size) where
    -- code 0 is the code at the place
    pub number_here : code_found (code_number 0 (codes_from r text place)) ≡ Some (record { place = place; length = size })
    unfolding code_number placed_from
    number_here = ap (λ (ks : List Code). code_found (code_number 0 (placed_from place ks))) s.at.here ∙ ap (λ (m : ℕ). Some (found_at place m)) (sym s.sized)

    -- a later code is one of those behind it
    pub number_next : (n m : ℕ) → n ≡ suc m → code_number n (codes_from r text place) ≡ code_number m (codes_from r text (place + size))
    unfolding code_number placed_from
    number_next n m e =
        ap (λ (i : ℕ). code_number i (codes_from r text place)) e
        ∙ ap (λ (ks : List Code). code_number (suc m) (placed_from place ks)) s.at.here
        ∙ ap (λ (i : ℕ). code_number m (codes_from r text (place + i))) (sym s.sized)

-- ---- the search for the last block: found, one block back, and none left
module _ (entries : List ℕ) (n block blocks : ℕ) where
  -- a block that counts at most n is found
  pub block_is : 0 < block → count_of (entry_at entries (block - 1)) ≤ n → last_block entries n block ≡ last_block entries n blocks → Some (block - 1) ≡ block_found (last_block entries n blocks)
  block_is h l e =
      let one : block ≡ suc (block - 1) = omega arith in
      ap block_found (sym (last_this entries n (block - 1) l) ∙ ap (last_block entries n) (sym one) ∙ e)

  -- one that counts more is passed
  pub block_next : 0 < block → n < count_of (entry_at entries (block - 1)) → last_block entries n block ≡ last_block entries n blocks → last_block entries n (block - 1) ≡ last_block entries n blocks
  block_next h l e =
      let one : block ≡ suc (block - 1) = omega arith in
      sym (last_before entries n (block - 1) l) ∙ ap (last_block entries n) (sym one) ∙ e

  -- no block is left
  pub block_none : block ≡ 0 → last_block entries n block ≡ last_block entries n blocks → None ≡ block_found (last_block entries n blocks)
  unfolding last_block
  block_none z e = ap block_found (ap (last_block entries n) (sym z) ∙ e)

-- ---- the search for a code: found, one code on, and the text's end
module _ (r : Reader) (text : List ℕ) (from skipped place left : ℕ) (e : code_number left (codes_from r text place) ≡ code_number skipped (codes_from r text from)) where
  -- none is left to skip: the code is here
  pub after_found : (size : ℕ) → SizedAs r text place size → left ≡ 0 → Some (record { place = place; length = size }) ≡ code_found (code_number skipped (codes_from r text from))
  after_found size s z = sym (ap code_found (sym e ∙ ap (λ (n : ℕ). code_number n (codes_from r text place)) z) ∙ number_here r text place size s)

  -- one code is skipped
  pub after_next : (size : ℕ) → SizedAs r text place size → (left ≡ 0 → ⊥) → code_number (left - 1) (codes_from r text (place + size)) ≡ code_number skipped (codes_from r text from)
  after_next size s z = sym (number_next r text place size s left (left - 1) (omega arith)) ∙ e

  -- the text ends before
  pub after_none : length text ≤ place → None ≡ code_found (code_number skipped (codes_from r text from))
  after_none h = sym (ap code_found (sym e ∙ number_end r text place left h))

-- a code read at a place has a byte, and lies in the text
pub size_inside : (r : Reader) (text : List ℕ) (place size : ℕ) → SizedAs r text place size → (1 ≤ size) × (size ≤ 2) × (place + size ≤ length text)
size_inside r text place size s = by (sized_small r text place size s)
  where
    inside : place + size ≤ length text
    inside = omega (arith, s.sized, (codes_next r text place s.code (codes r (drop (place + size_of s.code) text)) s.at.here).inside)

    by : (size ≡ 1) ⊎ (size ≡ 2) → (1 ≤ size) × (size ≤ 2) × (place + size ≤ length text)
    by (inl one) = (omega arith, omega arith, inside)
    by (inr two) = (omega arith, omega arith, inside)

-- the last block is among the blocks, and counts at most n
pub last_of : (entries : List ℕ) (n blocks block : ℕ) → last_block entries n blocks ≡ some block → (block < blocks) × (count_of (entry_at entries block) ≤ n)
unfolding last_block
last_of entries n zero block e = absurd (let z : ◌≡◌ {A = ℕ} 0 1 = cc in omega arith)
last_of entries n (suc b) block e = by (leb (count_of (entry_at entries b)) n) refl (last_of entries n b block)
  where
    by : (t : Bool) → leb (count_of (entry_at entries b)) n ≡ t → (last_block entries n b ≡ some block → (block < b) × (count_of (entry_at entries block) ≤ n))
        → (block < suc b) × (count_of (entry_at entries block) ≤ n)
    by true q later =
        let l = leb-true _ _ q in
        let both : some b ≡ some block = sym (last_this entries n b l) ∙ e in
        let same : b ≡ block = cc in
        (omega arith, subst (λ (i : ℕ). count_of (entry_at entries i) ≤ n) same l)
    by false q later =
        let h = later (sym (last_before entries n b (leb-false _ _ q)) ∙ e) in
        (omega (arith, h.0), h.1)

-- what the search for the last block gives
pub record Last (entries : List ℕ) (n blocks block : ℕ) : Type 0 where
  pub inside : block < blocks
  pub counts : count_of (entry_at entries block) ≤ n
  pub is : last_block entries n blocks ≡ some block

found_some : (o : Option ℕ) (block : ℕ) → Some block ≡ block_found o → o ≡ some block
found_some none block e = let z : ◌≡◌ {A = ℕ} 0 1 = cc in absurd (omega arith)
found_some (some b) block e = let same : block ≡ b = cc in ap (λ (i : ℕ). some i) (sym same)

found_none : (o : Option ℕ) → None ≡ block_found o → o ≡ none
found_none none e = refl
found_none (some b) e = let z : ◌≡◌ {A = ℕ} 0 1 = cc in absurd (omega arith)

-- the search, over a number of blocks that is the journal's
pub last_found : (entries : List ℕ) (n part blocks block : ℕ) → part ≡ blocks → Some block ≡ block_found (last_block entries n part) → Last entries n blocks block
last_found entries n part blocks block p e =
    let is : last_block entries n blocks ≡ some block = ap (last_block entries n) (sym p) ∙ found_some (last_block entries n part) block e in
    let (l, h) = last_of entries n blocks block is in
    record { inside = l; counts = h; is = is }

pub last_none : (entries : List ℕ) (n part blocks : ℕ) → part ≡ blocks → None ≡ block_found (last_block entries n part) → last_block entries n blocks ≡ none
last_none entries n part blocks p e = ap (last_block entries n) (sym p) ∙ found_none (last_block entries n part) e

-- a start at an entry that counts at most n, of a block of the text
pub start_within : (s : Start) (block e n : ℕ) → s ≡ start_at block e → count_of e ≤ n → s.count ≤ n
start_within s block e n q h = subst (λ (t : Start). t.count ≤ n) (sym q) h

-- the start lies in the text
pub start_inside : (s : Start) (block e size : ℕ) → s ≡ start_at block e → block < blocks_of size → s.place ≤ size
start_inside s block e size q l = subst (λ (t : Start). t.place ≤ size) (sym q) (omega arith)

-- the start is the block's first or second byte
pub start_place : (s : Start) (block e : ℕ) → s ≡ start_at block e → (512 * block ≤ s.place) × (s.place ≤ 512 * block + 1)
start_place s block e q = subst (λ (t : Start). (512 * block ≤ t.place) × (t.place ≤ 512 * block + 1)) (sym q) (omega arith, omega arith)

-- ---- what finding answers: no such block, or the code read on from the last block
module _ (r : Reader) (journal entries : List ℕ) (n : ℕ) where
  -- no block counts at most n
  pub no_block : last_block entries n (blocks_of (length journal)) ≡ none → None ≡ code_found (find_of r journal entries n)
  unfolding find_of code_in_block
  no_block e = rw e refl

  -- read on from the last block that does
  pub in_block : (block : ℕ) → Last entries n (blocks_of (length journal)) block → (s : Start) (answer : Maybe Found) → s ≡ start_at block (entry_at entries block)
      → answer ≡ code_found (code_number (n - s.count) (codes_from r journal s.place)) → answer ≡ code_found (find_of r journal entries n)
  unfolding find_of code_in_block code_after
  in_block block l s answer e a = a ∙ ap (λ (t : Start). code_found (code_number (n - t.count) (codes_from r journal t.place))) e ∙ sym (ap (λ (o : Option ℕ). code_found (code_in_block r journal entries n o)) l.is)

-- what finding answers is the code, or 29
pub or29 : (o : Option Placed) → ok_or (code_found o) NoSuchCode ≡ found_or29 o
or29 none = refl
or29 (some p) = refl
