-- The blocks of the high halves of `W` units, as they are numbered, and what one more `W` record changes.
use mathlib.Core.Bool.{Bool, true, false, not, ◌&&◌, false≢true}
use mathlib.Core.List.{List}
use mathlib.Core.Path.{◌≡◌, refl, sym, ap, ◌∙◌}
use Prim.Native.Nat.{ℕ, zero, suc, ◌+◌, ◌-◌, ◌*◌, ◌≤◌, ◌<◌}
use native.Mathlib.Omega.{arith}
use lib.Dec.{ltb, eqb}
use lib.ListN.{length, set}
use lib.Seq.{get_or-set_same, get_or-set_other}
use borrow.Author.Tests.{ltb-true, ltb-false, eqb-true, eqb-false, eq-eqb, ne_eqb, not-true}
use Rattle.codepage.specs.CodePage.{pick, entry_at}
use Rattle.listing.specs.Tables.{filled}
use Rattle.listing.proofs.TableLaws.{filled_length}
use Rattle.listing_laws.proofs.BitLaws.{tally, tally_same, tally_none, tally_split, tally_le}
use Rattle.listing_laws.proofs.FilledLaws.{filled_in, filled_out}

-- ---- counts
pub tally_rise : (f : ℕ → Bool) (m n : ℕ) → m ≤ n → tally f m ≤ tally f n
tally_rise f m n h = let whole : m + (n - m) ≡ n = omega arith in omega (arith, tally_split f m (n - m), ap (tally f) whole)

tally_upto : (f : ℕ → Bool) (m n : ℕ) → m ≤ n → ((i : ℕ) → m ≤ i → i < n → f i ≡ false) → tally f n ≡ tally f m
tally_upto f m n h none =
    let whole : m + (n - m) ≡ n = omega arith in
    omega (arith, tally_split f m (n - m), ap (tally f) whole, tally_none (λ i. f (m + i)) (n - m) (λ i k. none (m + i) (omega arith) (omega arith)))

-- one that holds is counted
pub tally_next : (f : ℕ → Bool) (n : ℕ) → f n ≡ true → tally f (suc n) ≡ suc (tally f n)
unfolding tally
tally_next f n e = rw e

-- a count of all is one of each
tally_all : (f : ℕ → Bool) (n : ℕ) → tally f n ≡ n → (i : ℕ) → i < n → f i ≡ true
unfolding tally
tally_all f zero e i h = absurd (omega arith)
tally_all f (suc n) e i h = by_test (f n) refl (λ less k. tally_all f n less i k)
  where
    by_test : (t : Bool) → f n ≡ t → (tally f n ≡ n → i < n → f i ≡ true) → f i ≡ true
    by_test true q more = by_place (eqb i n) refl
      where
        counted : suc (tally f n) ≡ suc n
        counted = sym (tally_next f n q) ∙ e

        by_place : (b : Bool) → eqb i n ≡ b → f i ≡ true
        by_place true w = ap f (eqb-true i n w) ∙ q
        by_place false w = more (omega (arith, counted)) (omega (arith, eqb-false i n w))
    by_test false q more =
        let counted : tally f n ≡ suc n = rw q at e in
        absurd (omega (arith, counted, tally_le f n))

-- ---- the numbers
-- whether a high half has a block of its own, other than block 0
abbrev pub numbered : List ℕ → ℕ → Bool
numbered index high = not (eqb (entry_at index high) 0)

some_number : (index : List ℕ) (high : ℕ) → numbered index high ≡ true → entry_at index high ≡ 0 → ⊥
some_number index high e = eqb-false (entry_at index high) 0 (not-true (eqb (entry_at index high) 0) e)

is_numbered : (index : List ℕ) (high : ℕ) → (entry_at index high ≡ 0 → ⊥) → numbered index high ≡ true
is_numbered index high ne = ap not (ne_eqb (entry_at index high) 0 ne)

no_number : (index : List ℕ) (high : ℕ) → entry_at index high ≡ 0 → numbered index high ≡ false
no_number index high e = ap not (eq-eqb (entry_at index high) 0 e)

-- Index and blocks once some `W` records were read: `late` is whether one was, `last` its high half, `block` its block.
-- A high half not met has block 0, which is empty. One that was met has the number of those met up to it; the 256th has block 0,
-- and then every other has a number.
pub record Numbered (late : Bool) (last block : ℕ) (index blocks : List ℕ) : Type 0 where
  pub unmet : (high : ℕ) → high < 256 → (late ≡ true → last < high) → entry_at index high ≡ 0
  pub counted : (high : ℕ) → high < 256 → numbered index high ≡ true → entry_at index high ≡ tally (numbered index) (suc high)
  pub latest : late ≡ true → entry_at index last ≡ block
  pub number : (late ≡ true → block ≡ 0 → ⊥) → block ≡ tally (numbered index) 256
  pub empty : (late ≡ true → block ≡ 0 → ⊥) → (low : ℕ) → low < 256 → entry_at blocks low ≡ 0xFFFF
  pub full : late ≡ true → block ≡ 0 → (255 ≤ last) × ((high : ℕ) → high < 255 → numbered index high ≡ true)

-- before the first `W` the last key says nothing
pub numbered_on : (last next block : ℕ) (index blocks : List ℕ) → Numbered false last block index blocks → Numbered false next block index blocks
numbered_on last next block index blocks n =
    record {
      unmet = λ high h x. n.unmet high h (λ e. absurd (false≢true e));
      counted = n.counted;
      latest = λ e. absurd (false≢true e);
      number = λ x. n.number (λ e. absurd (false≢true e));
      empty = λ x. n.empty (λ e. absurd (false≢true e));
      full = λ e. absurd (false≢true e);
    }

-- nothing is numbered once `P` was read
pub numbered_none : (last : ℕ) (index blocks : List ℕ) → ((high : ℕ) → high < 256 → entry_at index high ≡ 0) → ((low : ℕ) → low < 256 → entry_at blocks low ≡ 0xFFFF) → Numbered false last 0 index blocks
numbered_none last index blocks zeros empty =
    record {
      unmet = λ high h x. zeros high h;
      counted = λ high h e. absurd (some_number index high e (zeros high h));
      latest = λ e. absurd (false≢true e);
      number = λ x. sym (tally_none (numbered index) 256 (λ i h. no_number index i (zeros i h)));
      empty = λ x. empty;
      full = λ e. absurd (false≢true e);
    }

-- one entry is changed: that of the high half `h` at the low half `l`
abbrev pub OneChanged : (index blocks index' blocks' : List ℕ) → (h l code : ℕ) → Type 0
OneChanged index blocks index' blocks' h l code =
    (g c : ℕ) → g < 256 → c < 256 → entry_at blocks' (256 * entry_at index' g + c) ≡ pick (eqb g h && eqb c l) code (entry_at blocks (256 * entry_at index g + c))

-- ---- one more of the last high half
module _ (h b : ℕ) (index blocks : List ℕ) (n : Numbered true h b index blocks) (small : h < 256) (l code : ℕ) (low : l < 256) (room : 256 * b + 256 ≤ length blocks) where
  -- no other high half has this block
  clash : (g : ℕ) → g < 256 → (g ≡ h → ⊥) → entry_at index g ≡ b → ⊥
  clash g k ne e = by_zero (eqb b 0) refl
    where
      here : entry_at index h ≡ b
      here = n.latest refl

      by_order : (b ≡ 0 → ⊥) → (t : Bool) → ltb g h ≡ t → ⊥
      by_order some true q =
          let less : g < h = ltb-true g h q in
          let f : ℕ → Bool = numbered index in
          let on_g : numbered index g ≡ true = is_numbered index g (λ z. some (sym e ∙ z)) in
          let on_h : numbered index h ≡ true = is_numbered index h (λ z. some (sym here ∙ z)) in
          omega (arith, e, here, n.counted g k on_g, n.counted h small on_h, tally_next (numbered index) h on_h, tally_rise (numbered index) (suc g) h (omega arith))
      by_order some false q =
          let more : h < g = omega (arith, ltb-false g h q) in
          let on_g : numbered index g ≡ true = is_numbered index g (λ z. some (sym e ∙ z)) in
          let on_h : numbered index h ≡ true = is_numbered index h (λ z. some (sym here ∙ z)) in
          omega (arith, e, here, n.counted g k on_g, n.counted h small on_h, tally_next (numbered index) g on_g, tally_rise (numbered index) (suc h) g (omega arith))

      by_zero : (t : Bool) → eqb b 0 ≡ t → ⊥
      by_zero true q =
          let z : b ≡ 0 = eqb-true b 0 q in
          some_number index g ((n.full refl z).1 g (omega (arith, (n.full refl z).0))) (e ∙ z)
      by_zero false q = by_order (eqb-false b 0 q) (ltb g h) refl

  -- the numbers stay
  pub same_half : Numbered true h b index (set blocks (256 * b + l) code)
  same_half =
      record {
        unmet = n.unmet;
        counted = n.counted;
        latest = n.latest;
        number = n.number;
        empty = λ ne i k. get_or-set_other blocks (256 * b + l) i code 0 (λ e. ne refl (omega arith)) ∙ n.empty ne i k;
        full = n.full;
      }

  -- and one entry is changed
  pub same_changed : OneChanged index blocks index (set blocks (256 * b + l) code) h l code
  same_changed g c k m = by_place (eqb g h) refl (eqb c l) refl
    where
      apart : (256 * entry_at index g + c ≡ 256 * b + l → ⊥) → entry_at (set blocks (256 * b + l) code) (256 * entry_at index g + c) ≡ entry_at blocks (256 * entry_at index g + c)
      apart ne = get_or-set_other blocks (256 * b + l) (256 * entry_at index g + c) code 0 ne

      by_place : (x : Bool) → eqb g h ≡ x → (y : Bool) → eqb c l ≡ y → entry_at (set blocks (256 * b + l) code) (256 * entry_at index g + c) ≡ pick (eqb g h && eqb c l) code (entry_at blocks (256 * entry_at index g + c))
      by_place true q true w =
          let at : entry_at index g ≡ b = ap (entry_at index) (eqb-true g h q) ∙ n.latest refl in
          let place : 256 * entry_at index g + c ≡ 256 * b + l = omega (arith, at, eqb-true c l w) in
          rw (q, w) (ap (entry_at (set blocks (256 * b + l) code)) place ∙ get_or-set_same blocks (256 * b + l) code 0 (omega arith))
      by_place true q false w =
          let at : entry_at index g ≡ b = ap (entry_at index) (eqb-true g h q) ∙ n.latest refl in
          rw (q, w) (apart (λ e. eqb-false c l w (omega (arith, at))))
      by_place false q y w = rw q (apart (λ e. clash g k (eqb-false g h q) (omega arith)))

-- ---- the first of its high half
module _ (late : Bool) (last block : ℕ) (index blocks : List ℕ) (n : Numbered late last block index blocks) (h : ℕ) (small : h < 256) (fresh : late ≡ true → last < h) (l code : ℕ) (low : l < 256) (wide : 256 ≤ length index) where
  free : late ≡ true → block ≡ 0 → ⊥
  free e z = omega (arith, (n.full e z).0, fresh e)

  zero_here : entry_at index h ≡ 0
  zero_here = n.unmet h small fresh

  zero_above : (i : ℕ) → h ≤ i → i < 256 → entry_at index i ≡ 0
  zero_above i k m = n.unmet i m (λ e. omega (arith, fresh e))

  met_below : block ≡ tally (numbered index) h
  met_below = n.number free ∙ tally_upto (numbered index) h 256 (omega arith) (λ i k m. no_number index i (zero_above i k m))

  -- no number is over that of the last block
  bound : (g : ℕ) → g < 256 → entry_at index g ≤ block
  bound g k = by_number (eqb (entry_at index g) 0) refl
    where
      by_number : (t : Bool) → eqb (entry_at index g) 0 ≡ t → entry_at index g ≤ block
      by_number true q = omega (arith, eqb-true (entry_at index g) 0 q)
      by_number false q = omega (arith, n.counted g k (ap not q), n.number free, tally_rise (numbered index) (suc g) 256 (omega arith))

  -- there are no more blocks than high halves before it
  pub block_small : block ≤ h
  block_small = omega (arith, met_below, tally_le (numbered index) h)

  set_here : (b : ℕ) → entry_at (set index h b) h ≡ b
  set_here b = get_or-set_same index h b 0 (omega arith)

  set_else : (b g : ℕ) → (g ≡ h → ⊥) → entry_at (set index h b) g ≡ entry_at index g
  set_else b g ne = get_or-set_other index h g b 0 ne

  -- a block of its own
  module _ (b : ℕ) (next : b ≡ block + 1) (room : 256 * b + 256 ≤ length blocks) where
    abbrev more : List ℕ
    more = set (filled blocks (256 * b) 256 0xFFFF) (256 * b + l) code

    below_same : (i : ℕ) → i < h → numbered (set index h b) i ≡ numbered index i
    below_same i k = ap (λ (x : ℕ). not (eqb x 0)) (set_else b i (λ e. omega arith))

    above_zero : (i : ℕ) → h < i → i < 256 → entry_at (set index h b) i ≡ 0
    above_zero i k m = set_else b i (λ e. omega arith) ∙ zero_above i (omega arith) m

    here_on : numbered (set index h b) h ≡ true
    here_on = is_numbered (set index h b) h (λ z. omega (arith, set_here b))

    here_count : b ≡ tally (numbered (set index h b)) (suc h)
    here_count = omega (arith, next, met_below, tally_next (numbered (set index h b)) h here_on, tally_same (numbered (set index h b)) (numbered index) h below_same)

    counts : (i : ℕ) → i < 256 → numbered (set index h b) i ≡ true → entry_at (set index h b) i ≡ tally (numbered (set index h b)) (suc i)
    counts i k on = by_place (eqb i h) refl (ltb i h) refl
      where
        by_place : (x : Bool) → eqb i h ≡ x → (y : Bool) → ltb i h ≡ y → entry_at (set index h b) i ≡ tally (numbered (set index h b)) (suc i)
        by_place true q y w =
            let same : i ≡ h = eqb-true i h q in
            ap (entry_at (set index h b)) same ∙ set_here b ∙ here_count ∙ ap (λ (x : ℕ). tally (numbered (set index h b)) (suc x)) (sym same)
        by_place false q true w =
            let less : i < h = ltb-true i h w in
            set_else b i (eqb-false i h q)
            ∙ n.counted i k (sym (below_same i less) ∙ on)
            ∙ sym (tally_same (numbered (set index h b)) (numbered index) (suc i) (λ j m. below_same j (omega arith)))
        by_place false q false w = absurd (some_number (set index h b) i on (above_zero i (omega (arith, eqb-false i h q, ltb-false i h w)) k))

    -- the numbers go on
    pub new_half : Numbered true h b (set index h b) (set (filled blocks (256 * b) 256 0xFFFF) (256 * b + l) code)
    new_half =
        record {
          unmet = λ i k m. above_zero i (m refl) k;
          counted = counts;
          latest = λ e. set_here b;
          number = λ ne. here_count ∙ sym (tally_upto (numbered (set index h b)) (suc h) 256 (omega arith) (λ i k m. no_number (set index h b) i (above_zero i (omega arith) m)));
          empty = λ ne i k. get_or-set_other (filled blocks (256 * b) 256 0xFFFF) (256 * b + l) i code 0 (λ e. omega arith) ∙ filled_out blocks (256 * b) 256 0xFFFF i (omega arith) ∙ n.empty free i k;
          full = λ e z. absurd (omega arith);
        }

    -- and one entry is changed
    pub new_changed : OneChanged index blocks (set index h b) (set (filled blocks (256 * b) 256 0xFFFF) (256 * b + l) code) h l code
    new_changed g c k m = by_place (eqb g h) refl (eqb c l) refl
      where
        by_place : (x : Bool) → eqb g h ≡ x → (y : Bool) → eqb c l ≡ y → entry_at more (256 * entry_at (set index h b) g + c) ≡ pick (eqb g h && eqb c l) code (entry_at blocks (256 * entry_at index g + c))
        by_place true q true w =
            let at : entry_at (set index h b) g ≡ b = ap (entry_at (set index h b)) (eqb-true g h q) ∙ set_here b in
            let place : 256 * entry_at (set index h b) g + c ≡ 256 * b + l = omega (arith, at, eqb-true c l w) in
            rw (q, w) (ap (entry_at more) place ∙ get_or-set_same (filled blocks (256 * b) 256 0xFFFF) (256 * b + l) code 0 (omega (arith, filled_length blocks (256 * b) 256 0xFFFF)))
        by_place true q false w =
            let at : entry_at (set index h b) g ≡ b = ap (entry_at (set index h b)) (eqb-true g h q) ∙ set_here b in
            let place : 256 * entry_at (set index h b) g + c ≡ 256 * b + c = omega (arith, at) in
            let before : entry_at index g ≡ 0 = ap (entry_at index) (eqb-true g h q) ∙ zero_here in
            let former : 256 * entry_at index g + c ≡ c = omega (arith, before) in
            rw (q, w) (
            ap (entry_at more) place
            ∙ get_or-set_other (filled blocks (256 * b) 256 0xFFFF) (256 * b + l) (256 * b + c) code 0 (λ e. eqb-false c l w (omega arith))
            ∙ filled_in blocks (256 * b) 256 0xFFFF c m room
            ∙ sym (ap (entry_at blocks) former ∙ n.empty free c m)
            )
        by_place false q y w =
            let at : entry_at (set index h b) g ≡ entry_at index g = set_else b g (eqb-false g h q) in
            let below : 256 * entry_at index g + c < 256 * b = omega (arith, bound g k) in
            rw q (
            ap (λ (x : ℕ). entry_at more (256 * x + c)) at
            ∙ get_or-set_other (filled blocks (256 * b) 256 0xFFFF) (256 * b + l) (256 * entry_at index g + c) code 0 (λ e. omega arith)
            ∙ filled_out blocks (256 * b) 256 0xFFFF (256 * entry_at index g + c) below
            )

  -- the 256th: block 0
  module _ (all : block ≡ 255) (room : 256 ≤ length blocks) where
    top : h ≡ 255
    top = omega (arith, block_small)

    each : (i : ℕ) → i < 255 → numbered index i ≡ true
    each = tally_all (numbered index) 255 (sym (ap (tally (numbered index)) top) ∙ sym met_below ∙ all)

    index_same : (g : ℕ) → entry_at (set index h 0) g ≡ entry_at index g
    index_same g = by_place (eqb g h) refl
      where
        by_place : (x : Bool) → eqb g h ≡ x → entry_at (set index h 0) g ≡ entry_at index g
        by_place true q = let same : g ≡ h = eqb-true g h q in ap (entry_at (set index h 0)) same ∙ set_here 0 ∙ sym (ap (entry_at index) same ∙ zero_here)
        by_place false q = set_else 0 g (eqb-false g h q)

    on_same : (g : ℕ) → numbered (set index h 0) g ≡ numbered index g
    on_same g = ap (λ (x : ℕ). not (eqb x 0)) (index_same g)

    -- every number is given
    pub last_half : Numbered true h 0 (set index h 0) (set blocks (256 * 0 + l) code)
    last_half =
        record {
          unmet = λ i k m. absurd (omega (arith, top, m refl));
          counted = λ i k on. index_same i ∙ n.counted i k (sym (on_same i) ∙ on) ∙ sym (tally_same (numbered (set index h 0)) (numbered index) (suc i) (λ j m. on_same j));
          latest = λ e. set_here 0;
          number = λ ne. absurd (ne refl refl);
          empty = λ ne. absurd (ne refl refl);
          full = λ e z. (omega (arith, top), λ i k. on_same i ∙ each i k);
        }

    -- and one entry is changed
    pub last_changed : OneChanged index blocks (set index h 0) (set blocks (256 * 0 + l) code) h l code
    last_changed g c k m = ap (λ (x : ℕ). entry_at (set blocks (256 * 0 + l) code) (256 * x + c)) (index_same g) ∙ by_place (eqb g h) refl (eqb c l) refl
      where
        apart : (256 * entry_at index g + c ≡ 256 * 0 + l → ⊥) → entry_at (set blocks (256 * 0 + l) code) (256 * entry_at index g + c) ≡ entry_at blocks (256 * entry_at index g + c)
        apart ne = get_or-set_other blocks (256 * 0 + l) (256 * entry_at index g + c) code 0 ne

        by_place : (x : Bool) → eqb g h ≡ x → (y : Bool) → eqb c l ≡ y → entry_at (set blocks (256 * 0 + l) code) (256 * entry_at index g + c) ≡ pick (eqb g h && eqb c l) code (entry_at blocks (256 * entry_at index g + c))
        by_place true q true w =
            let at : entry_at index g ≡ 0 = ap (entry_at index) (eqb-true g h q) ∙ zero_here in
            let place : 256 * entry_at index g + c ≡ 256 * 0 + l = omega (arith, at, eqb-true c l w) in
            rw (q, w) (ap (entry_at (set blocks (256 * 0 + l) code)) place ∙ get_or-set_same blocks (256 * 0 + l) code 0 (omega arith))
        by_place true q false w =
            let at : entry_at index g ≡ 0 = ap (entry_at index) (eqb-true g h q) ∙ zero_here in
            rw (q, w) (apart (λ e. eqb-false c l w (omega (arith, at))))
        by_place false q y w =
            let other : g ≡ h → ⊥ = eqb-false g h q in
            let some : entry_at index g ≡ 0 → ⊥ = some_number index g (each g (omega (arith, top))) in
            rw q (apart (λ e. some (omega arith)))
