-- Laws of mixed text: what a word says of its bytes, and plain bytes that are copied several at a time.
use mathlib.Core.Bool.{Bool, true, false}
use mathlib.Core.List.{List}
use mathlib.Core.Path.{◌≡◌, refl, sym, ap, ap₂, ◌∙◌, subst}
use Prim.Native.Nat.{ℕ, zero, suc, ◌+◌, ◌-◌, ◌*◌, ◌/◌, ◌%◌, ◌^◌, ◌<◌, ◌≤◌}
use native.Mathlib.Numerals.{add-one}
use native.Mathlib.Omega.{arith}
use lib.Dec.{leb}
use lib.ListN.{length, set, length-set}
use lib.Seq.{ext_get_or, get_or-set_same, get_or-set_other}
use lib.Bits.{bit_and, and_comm, and_zero_r, and_shifted, and_block}
use lib.Count.{count_trailing_zeros, trailing_le}
use borrow.Author.Tests.{leb-true, leb-false}
use Rattle.codepage.specs.CodePage.{entry_at, is_lead, is_single}
use Rattle.codepage.specs.Reading.{byte_alone, decoder}
use Rattle.std.specs.Prelude.{Ok, Err}
use Rattle.codepage.specs.declared.Kind.TheVariants.{Invalid}
use Rattle.codepage_lookup.proofs.ProfileLaws.{single_no_lead}
use Rattle.engine_fastpath.specs.Runs.{Ran}
use Rattle.codepage_lookup.specs.Words.{word_in, WordAt}
use Rattle.codepage_lookup.proofs.WordLaws.{word_first}
use Rattle.codepage_lookup.specs.Profile.{PlainPage}
use Rattle.engine_fastpath.specs.Words.{Laid}
use Rattle.engine_fastpath.proofs.RunLaws.{ran_start, ran_at, ran_single}

-- ---- zeros at a number's end
even : (k n : ℕ) → count_trailing_zeros (suc k) (2 * n) ≡ suc (count_trailing_zeros k n)
unfolding count_trailing_zeros
even k n =
    let r : 2 * n % 2 ≡ 0 = omega arith in
    let h : 2 * n / 2 ≡ n = omega arith in
    rw (r, h)

odd : (k n : ℕ) → count_trailing_zeros (suc k) (2 * n + 1) ≡ 0
unfolding count_trailing_zeros
odd k n =
    let r : (2 * n + 1) % 2 ≡ 1 = omega arith in
    rw r

two : (k n : ℕ) → count_trailing_zeros (suc (suc k)) (4 * n) ≡ suc (suc (count_trailing_zeros k n))
two k n =
    let e : 4 * n ≡ 2 * (2 * n) = omega arith in
    ap (count_trailing_zeros (suc (suc k))) e ∙ even (suc k) (2 * n) ∙ ap suc (even k n)

four : (k n : ℕ) → count_trailing_zeros (suc (suc (suc (suc k)))) (16 * n) ≡ suc (suc (suc (suc (count_trailing_zeros k n))))
four k n =
    let e : 16 * n ≡ 4 * (4 * n) = omega arith in
    ap (count_trailing_zeros (suc (suc (suc (suc k))))) e ∙ two (suc (suc k)) (4 * n) ∙ ap (λ (x : ℕ). suc (suc x)) (two k n)

-- eight places more
abbrev wider : ℕ → ℕ
wider k = suc (suc (suc (suc (suc (suc (suc (suc k)))))))

eight : (k n : ℕ) → count_trailing_zeros (wider k) (256 * n) ≡ wider (count_trailing_zeros k n)
eight k n =
    let e : 256 * n ≡ 16 * (16 * n) = omega arith in
    ap (count_trailing_zeros (wider k)) e ∙ four (suc (suc (suc (suc k)))) (16 * n) ∙ ap (λ (x : ℕ). suc (suc (suc (suc x)))) (four k n)

seven : (k n : ℕ) → count_trailing_zeros (wider k) (256 * n + 128) ≡ 7
seven k n =
    let e : 256 * n + 128 ≡ 16 * (4 * (2 * (2 * n + 1))) = omega arith in
    ap (count_trailing_zeros (wider k)) e ∙ four (suc (suc (suc (suc k)))) (4 * (2 * (2 * n + 1)))
    ∙ ap (λ (x : ℕ). suc (suc (suc (suc x)))) (two (suc (suc k)) (2 * (2 * n + 1)) ∙ ap (λ (x : ℕ). suc (suc x)) (even (suc k) (2 * n + 1) ∙ ap suc (odd k n)))

-- ---- the bytes of a word that are below 80
unfoldable marks_of : ℕ → ℕ
marks_of zero = 0
marks_of (suc n) = 128 + 256 * marks_of n

unfoldable width_of : ℕ → ℕ
width_of zero = 0
width_of (suc n) = wider (width_of n)

mark_low : (e : ℕ) → e < 128 → bit_and e 128 ≡ 0
mark_low e h = and_comm e 128 ∙ and_shifted 1 7 e h

mark_high : (e : ℕ) → 128 ≤ e → e < 256 → bit_and e 128 ≡ 128
mark_high e h b =
    let s : e ≡ 1 * 2 ^ 7 + (e - 128) = omega arith in
    ap (λ (x : ℕ). bit_and x 128) s ∙ and_block 7 1 1 (e - 128) 0 (omega arith) (omega arith) ∙ ap (λ (x : ℕ). bit_and 1 1 * 2 ^ 7 + x) (and_zero_r (e - 128))

mark_step : (e W M : ℕ) → e < 256 → bit_and (e + 256 * W) (128 + 256 * M) ≡ 256 * bit_and W M + bit_and e 128
mark_step e W M h =
    let l : e + 256 * W ≡ W * 2 ^ 8 + e = omega arith in
    let r : 128 + 256 * M ≡ M * 2 ^ 8 + 128 = omega arith in
    ap₂ bit_and l r ∙ and_block 8 W M e 128 h (omega arith) ∙ omega arith

plain_step : (n W M e : ℕ) → e < 256 → (P : ℕ → Type 0) → (e < 128 → P 0) → (e < 128 → (j : ℕ) → j < count_trailing_zeros n (bit_and W M) / 8 → P (suc j))
    → (k : ℕ) → k < count_trailing_zeros (wider n) (bit_and (e + 256 * W) (128 + 256 * M)) / 8 → P k
plain_step n W M e h P now later k b = by_size (leb 128 e) refl
  where
    by_place : e < 128 → (m : ℕ) → m < wider (count_trailing_zeros n (bit_and W M)) / 8 → P m
    by_place f zero q = now f
    by_place f (suc j) q = later f j (omega (arith, q))

    by_size : (t : Bool) → leb 128 e ≡ t → P k
    by_size true q =
        let f = leb-true 128 e q in
        let z : count_trailing_zeros (wider n) (bit_and (e + 256 * W) (128 + 256 * M)) ≡ 7 =
        ap (count_trailing_zeros (wider n)) (mark_step e W M h ∙ ap (λ (x : ℕ). 256 * bit_and W M + x) (mark_high e f h)) ∙ seven n (bit_and W M) in
        absurd (omega (arith, b, z))
    by_size false q =
        let f : e < 128 = omega (arith, leb-false 128 e q) in
        let s : 256 * bit_and W M + 0 ≡ 256 * bit_and W M = omega arith in
        let z : count_trailing_zeros (wider n) (bit_and (e + 256 * W) (128 + 256 * M)) ≡ wider (count_trailing_zeros n (bit_and W M)) =
        ap (count_trailing_zeros (wider n)) (mark_step e W M h ∙ ap (λ (x : ℕ). 256 * bit_and W M + x) (mark_low e f) ∙ s) ∙ eight n (bit_and W M) in
        by_place f k (omega (arith, b, z))

plain_bytes : (n : ℕ) (piece : List ℕ) (i : ℕ) → ((k : ℕ) → entry_at piece k < 256) → (k : ℕ) → k < count_trailing_zeros (width_of n) (bit_and (word_in n piece i) (marks_of n)) / 8 → entry_at piece (i + k) < 128
unfolding word_in marks_of width_of
plain_bytes zero piece i all k b = absurd (omega (arith, b, trailing_le 0 (bit_and 0 0)))
plain_bytes (suc n) piece i all k b =
    plain_step (width_of n) (word_in n piece (i + 1)) (marks_of n) (entry_at piece i) (all i) (λ (k : ℕ). entry_at piece (i + k) < 128)
    (λ f. let e : i + 0 ≡ i = omega arith in rw e f)
    (λ f j q. let e : i + suc j ≡ i + 1 + j = omega arith in rw e (plain_bytes n piece (i + 1) all j q)) k b

-- the bytes of a word before its first of 80 or more, counted by the zeros below that one's top bit, are below 80
pub plain_before : {piece : List ℕ} {i word : ℕ} → WordAt piece i word → (k : ℕ) → k < count_trailing_zeros 64 (bit_and word 0x8080808080808080) / 8 → entry_at piece (i + k) < 0x80
unfolding marks_of width_of
plain_before {piece} {i} a k b = plain_bytes 8 piece i a.bytes k (subst (λ (x : ℕ). k < count_trailing_zeros 64 (bit_and x 0x8080808080808080) / 8) a.value b)

-- ---- copying
pub laid_none : (piece : List ℕ) (i : ℕ) (out : List ℕ) (w : ℕ) → Laid piece i out w out 0
laid_none piece i out w = record { same = refl; inside = λ k b. absurd (omega (arith, b)); before = λ k b. refl; behind = λ k b. refl }

-- one more
pub laid_more : {piece : List ℕ} {i : ℕ} {out : List ℕ} {w : ℕ} {out₁ : List ℕ} {n : ℕ} → Laid piece i out w out₁ n → (p j : ℕ) → p ≡ i + n → j ≡ w + n → j < length out₁
    → Laid piece i out w (set out₁ j (entry_at piece p)) (n + 1)
laid_more {piece} {i} {out} {w} {out₁} {n} a p j e q h =
    record {
      same = length-set out₁ j (entry_at piece p) ∙ a.same;
      inside = λ k b. at_place k b (leb n k) refl;
      before = λ k b. get_or-set_other out₁ j k (entry_at piece p) 0 (λ x. omega (arith, x, q, b)) ∙ a.before k b;
      behind = λ k b. get_or-set_other out₁ j k (entry_at piece p) 0 (λ x. omega (arith, x, q, b)) ∙ a.behind k (omega (arith, b));
    }
  where
    at_place : (k : ℕ) → k < n + 1 → (t : Bool) → leb n k ≡ t → entry_at (set out₁ j (entry_at piece p)) (w + k) ≡ entry_at piece (i + k)
    at_place k b true x =
        let f = leb-true n k x in
        let here : w + k ≡ j = omega (arith, f, b, q) in
        let there : p ≡ i + k = omega (arith, f, b, e) in
        ap (entry_at (set out₁ j (entry_at piece p))) here ∙ get_or-set_same out₁ j (entry_at piece p) 0 h ∙ ap (entry_at piece) there
    at_place k b false x =
        let f = leb-false n k x in
        get_or-set_other out₁ j (w + k) (entry_at piece p) 0 (λ y. omega (arith, y, q, f)) ∙ a.inside k (omega (arith, f))

-- others that go on from them, or overlap them
pub laid_then : {piece : List ℕ} {i : ℕ} {out : List ℕ} {w : ℕ} {out₁ : List ℕ} {n : ℕ} {out₂ : List ℕ} {p j m : ℕ} → Laid piece i out w out₁ n → Laid piece p out₁ j out₂ m → (d : ℕ) → p ≡ i + d → j ≡ w + d → d ≤ n → n ≤ d + m
    → Laid piece i out w out₂ (d + m)
laid_then {piece} {i} {out} {w} {out₁} {n} {out₂} {p} {j} {m} a b d e q h f =
    record {
      same = b.same ∙ a.same;
      inside = λ k x. at_place k x (leb d k) refl;
      before = λ k x. b.before k (omega (arith, x, q)) ∙ a.before k x;
      behind = λ k x. b.behind k (omega (arith, x, q)) ∙ a.behind k (omega (arith, x, f));
    }
  where
    at_place : (k : ℕ) → k < d + m → (t : Bool) → leb d k ≡ t → entry_at out₂ (w + k) ≡ entry_at piece (i + k)
    at_place k x true y =
        let g = leb-true d k y in
        let here : w + k ≡ j + (k - d) = omega (arith, g, q) in
        let there : p + (k - d) ≡ i + k = omega (arith, g, e) in
        ap (entry_at out₂) here ∙ b.inside (k - d) (omega (arith, g, x)) ∙ ap (entry_at piece) there
    at_place k x false y =
        let g = leb-false d k y in
        b.before (w + k) (omega (arith, g, q)) ∙ a.inside k (omega (arith, g, h))

-- `Laid` holds of an equal number too
pub laid_at_lem : {piece : List ℕ} {i : ℕ} {out : List ℕ} {w : ℕ} {out₁ : List ℕ} {n m : ℕ} → Laid piece i out w out₁ n → n ≡ m → Laid piece i out w out₁ m
laid_at_lem {piece} {i} {out} {w} {out₁} a e = subst (Laid piece i out w out₁) e a

-- the first byte of a word
pub first_laid : {piece : List ℕ} {i word byte : ℕ} {out : List ℕ} {w : ℕ} → WordAt piece i word → byte ≡ word % 256 → w < length out → Laid piece i out w (set out w byte) 1
first_laid {piece} {i} {word} {byte} {out} {w} a e h =
    subst (λ (x : ℕ). Laid piece i out w (set out w x) 1) (sym (e ∙ word_first a)) (laid_more (laid_none piece i out w) i w (omega arith) (omega arith) h)

-- the first byte of a word, as a run of one byte below 80
pub first_plain : {piece : List ℕ} {i word : ℕ} → WordAt piece i word → word % 256 < 0x80 → (k : ℕ) → k < 1 → entry_at piece (i + k) < 0x80
first_plain {piece} {i} a h k b =
    let e : i + k ≡ i = omega (arith, b) in
    rw e (omega (arith, h, word_first a))

-- ---- steps of the engine
-- copied one after the other
unfoldable lays : (piece : List ℕ) (i : ℕ) (out : List ℕ) (w : ℕ) → ℕ → List ℕ
lays piece i out w zero = out
lays piece i out w (suc n) = set (lays piece i out w n) (w + n) (entry_at piece (i + n))

lays_laid : (piece : List ℕ) (i : ℕ) (out : List ℕ) (w n : ℕ) → w + n ≤ length out → Laid piece i out w (lays piece i out w n) n
unfolding lays
lays_laid piece i out w zero h = laid_none piece i out w
lays_laid piece i out w (suc n) h =
    let a = lays_laid piece i out w n (omega (arith, h)) in
    laid_at_lem (laid_more a (i + n) (w + n) refl refl (omega (arith, a.same, h))) (add-one n)

-- what is laid is one list
laid_one : {piece : List ℕ} {i : ℕ} {out : List ℕ} {w : ℕ} {out₁ out₂ : List ℕ} {n : ℕ} → Laid piece i out w out₁ n → Laid piece i out w out₂ n → out₁ ≡ out₂
laid_one {piece} {i} {out} {w} {out₁} {out₂} {n} a b = ext_get_or 0 out₁ out₂ (a.same ∙ sym b.same) (λ k h. by_front k (leb w k) refl)
  where
    by_back : (k : ℕ) → w ≤ k → (t : Bool) → leb (w + n) k ≡ t → entry_at out₁ k ≡ entry_at out₂ k
    by_back k f true x = let g = leb-true (w + n) k x in a.behind k g ∙ sym (b.behind k g)
    by_back k f false x =
        let g = leb-false (w + n) k x in
        let here : w + (k - w) ≡ k = omega (arith, f) in
        sym (ap (entry_at out₁) here) ∙ a.inside (k - w) (omega (arith, g, f)) ∙ sym (b.inside (k - w) (omega (arith, g, f))) ∙ ap (entry_at out₂) here

    by_front : (k : ℕ) → (t : Bool) → leb w k ≡ t → entry_at out₁ k ≡ entry_at out₂ k
    by_front k true x = by_back k (leb-true w k x) (leb (w + n) k) refl
    by_front k false x = let g = leb-false w k x in a.before k (omega (arith, g)) ∙ sym (b.before k (omega (arith, g)))

module _ (classes singles pairs : List ℕ) (page : PlainPage classes singles) {piece : List ℕ} {i : ℕ} {out : List ℕ} {w : ℕ} where
  ran_lays : (n : ℕ) → i + n ≤ length piece → w + n ≤ length out → ((k : ℕ) → k < n → entry_at piece (i + k) < 0x80)
      → Ran (decoder classes singles pairs) piece out i w (lays piece i out w n) (i + n) (w + n)
  unfolding lays
  ran_lays zero h f all = ran_at (ran_start (omega (arith, h)) (omega (arith, f))) (omega arith) (omega arith)
  ran_lays (suc n) h f all =
      let r = ran_lays n (omega (arith, h)) (omega (arith, f)) (λ k b. all k (omega (arith, b))) in
      let p = page (entry_at piece (i + n)) (all n (omega arith)) in
      ran_at (ran_single classes singles pairs r (entry_at piece (i + n)) (omega (arith, r.same, f)) (omega (arith, h)) p.0 p.1) (omega arith) (omega arith)

  -- plain bytes that are copied
  pub ran_plain : {out' : List ℕ} {n : ℕ} → Laid piece i out w out' n → i + n ≤ length piece → w + n ≤ length out → ((k : ℕ) → k < n → entry_at piece (i + k) < 0x80)
      → Ran (decoder classes singles pairs) piece out i w out' (i + n) (w + n)
  ran_plain {out'} {n} a h f all =
      subst (λ (l : List ℕ). Ran (decoder classes singles pairs) piece out i w l (i + n) (w + n)) (laid_one (lays_laid piece i out w n f) a) (ran_lays n h f all)

-- ---- bytes alone
pub alone_no_lead : (classes singles : List ℕ) (byte unit : ℕ) → byte_alone classes singles byte ≡ Ok unit → is_lead (entry_at classes byte) ≡ false
unfolding byte_alone
alone_no_lead classes singles byte unit e = by_single (is_single (entry_at classes byte)) refl
  where
    by_single : (t : Bool) → is_single (entry_at classes byte) ≡ t → is_lead (entry_at classes byte) ≡ false
    by_single true q = single_no_lead (entry_at classes byte) q
    by_single false q =
        let lacks : Err Invalid ≡ Ok unit = rw q at e in
        absurd (let z : ◌≡◌ {A = ℕ} 0 1 = cc in omega arith)

-- ---- the room for as many units as there are bytes
pub room_left_lem : (i w end room read written : ℕ) → i ≤ end → written + (i + (end - i) - read) ≤ w + (end - i) → w + (end - i) ≤ room → written + (end - read) ≤ room
room_left_lem i w end room read written h f g =
    let all : i + (end - i) ≡ end = omega (arith, h) in
    omega (arith, g, subst (λ (x : ℕ). written + (x - read) ≤ w + (end - i)) all f)
