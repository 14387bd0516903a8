-- Laws of plain text: every unit of a piece is written as it is.
use mathlib.Core.Bool.{Bool, true, false, true≢false, false≢true}
use mathlib.Core.List.{List, [], ◌∷◌, ◌++◌}
use mathlib.Core.Option.{none}
use mathlib.Core.Path.{◌≡◌, refl, sym, ap, ◌∙◌, subst}
use Prim.Native.Nat.{ℕ, suc, ◌+◌, ◌-◌, ◌<◌, ◌≤◌}
use native.Mathlib.Numerals.{add-one}
use native.Mathlib.Omega.{arith}
use lib.Dec.{leb}
use lib.ListN.{length, drop, set, length-set, take-append-drop, get_or-eq_default}
use lib.Seq.{take-suc, take-suc-set, drop-set-lt, take-length}
use lib.Bits.{bit_or, or_zero_l, or_add_and, and_le_l, and_le_r}
use borrow.Author.Tests.{le-leb, leb-true, leb-false}
use Rattle.codepage.specs.CodePage.{entry_at, is_lead}
use Rattle.codepage.specs.Reading.{Reader, byte_alone, bytes_of, unit_alone, decoder, encoder}
use Rattle.std.specs.Prelude.{Ok}
use Rattle.codepage.proofs.ReadingLaws.{found_no_wait}
use Rattle.engine.specs.declared.Policy.{Policy}
use Rattle.codepage.specs.Lent.{over}
use Rattle.engine.specs.Engine.{Effect, effect_of, converter, limit, fits, room_left, Fed, halt, after, take_code, feed_from}
use Rattle.engine.specs.Steps.{summary, Ends}
use Rattle.engine_fastpath.specs.Runs.{EachBelow, Copied, all_taken, Plain}
use Rattle.engine.proofs.EngineLaws.{take_fits, feed_one, feed_end}
use Rattle.engine.proofs.LoopLaws.{later}

-- ---- the largest
pub or_over : (a b : ℕ) → (a ≤ bit_or a b) × (b ≤ bit_or a b)
or_over a b = (omega (arith, or_add_and a b, and_le_r a b), omega (arith, or_add_and a b, and_le_l a b))

-- one more entry is not over the largest
pub bounded_more : (xs : List ℕ) (i m m' : ℕ) → ((k : ℕ) → k < i → entry_at xs k ≤ m) → m ≤ m' → entry_at xs i ≤ m' → (k : ℕ) → k < i + 1 → entry_at xs k ≤ m'
bounded_more xs i m m' all h e k b = by_place (leb (suc k) i) refl
  where
    by_place : (t : Bool) → leb (suc k) i ≡ t → entry_at xs k ≤ m'
    by_place true q = let f = leb-true (suc k) i q in omega (arith, all k (omega (arith, f)), h)
    by_place false q =
        let f = leb-false (suc k) i q in
        let at : k ≡ i = omega (arith, f, b) in
        rw at e

-- behind the end there is nothing larger
pub bound_all : (xs : List ℕ) (m : ℕ) → ((k : ℕ) → k < length xs → entry_at xs k ≤ m) → (k : ℕ) → entry_at xs k ≤ m
bound_all xs m all k = by_place (leb (suc k) (length xs)) refl
  where
    by_place : (t : Bool) → leb (suc k) (length xs) ≡ t → entry_at xs k ≤ m
    by_place true q = all k (omega (arith, leb-true (suc k) (length xs) q))
    by_place false q = omega (arith, get_or-eq_default xs 0 {n = k} (omega (arith, leb-false (suc k) (length xs) q)))

-- where a bound is over the largest, each number is below it
pub bounded_below : (bound m : ℕ) (xs : List ℕ) → ((k : ℕ) → k < length xs → entry_at xs k ≤ m) → m < bound → EachBelow bound xs
bounded_below bound m xs all h k b = omega (arith, all k b)

-- ---- copying
pub copied_start : (piece before : List ℕ) → Copied piece before before 0
copied_start piece before = record { same = refl; front = refl; back = refl }

-- `Copied` holds at an equal index too
pub copied_at : {piece before out : List ℕ} {i j : ℕ} → Copied piece before out i → i ≡ j → Copied piece before out j
copied_at {piece} {before} {out} c e = subst (λ (n : ℕ). Copied piece before out n) e c

-- one unit more is copied
pub copied_one : (piece before out : List ℕ) (i : ℕ) → Copied piece before out i → i < length piece → i < length out → Copied piece before (set out i (entry_at piece i)) (i + 1)
copied_one piece before out i c h f =
    record {
      same = length-set out i (entry_at piece i) ∙ c.same;
      front = rw (add-one i, take-suc-set out i (entry_at piece i) f, take-suc piece i 0 h, c.front);
      back = drop-set-lt (i + 1) out i (entry_at piece i) (omega arith) ∙ later i (i + 1) out before (omega arith) c.back;
    }

pub copied_all : (piece before out : List ℕ) → Copied piece before out (length piece) → out ≡ over before piece
unfolding over
copied_all piece before out c = sym (take-append-drop (length piece) out) ∙ ap (λ (l : List ℕ). l ++ drop (length piece) out) (c.front ∙ take-length piece) ∙ ap (λ (l : List ℕ). piece ++ l) c.back

-- ---- feeding
-- a unit that is a code of its own, written as it is
abbrev pub Same : Reader → ℕ → Type 0
Same R a = (R.waits a ≡ false) × (R.one a ≡ Ok a) × (R.writes a ≡ a ∷ [])

one_more : (a : ℕ) (l : List ℕ) → after 1 (a ∷ []) 0 (all_taken l) ≡ all_taken (a ∷ l)
unfolding after
one_more a l = let e : 1 + length l ≡ suc (length l) = omega arith in rw (or_zero_l 0, e)

plain_step : (R : Reader) (policy : Policy) (default : ℕ) (last : Bool) (room a : ℕ) (piece : List ℕ) → 1 ≤ room → Same R a
    → feed_from (converter R policy default) last (limit (room - 1)) none piece ≡ all_taken piece
    → feed_from (converter R policy default) last (limit room) none (a ∷ piece) ≡ all_taken (a ∷ piece)
unfolding converter effect_of fits room_left
plain_step R policy default last room a piece h s e =
    let k : effect_of R.writes policy default a (R.one a) ≡ record { flag = 0; writes = a ∷ []; stops = false } =
    ap (effect_of R.writes policy default a) s.1 ∙ ap (λ (ys : List ℕ). record { flag = 0; writes = ys; stops = false }) s.2 in
    feed_one (converter R policy default) last (limit room) a piece s.0
    ∙ ap (λ (k : Effect). take_code (limit room) 1 k (feed_from (converter R policy default) last (room_left (limit room) (length k.writes)) none piece)) k
    ∙ take_fits (limit room) 1 (record { flag = 0; writes = a ∷ []; stops = false }) (feed_from (converter R policy default) last (limit (room - 1)) none piece) refl (le-leb 1 room h)
    ∙ ap (after 1 (a ∷ []) 0) e
    ∙ one_more a piece

pub plain_fed : (R : Reader) (policy : Policy) (default : ℕ) (last : Bool) (room : ℕ) (piece : List ℕ) → length piece ≤ room → ((k : ℕ) → k < length piece → Same R (entry_at piece k))
    → feed_from (converter R policy default) last (limit room) none piece ≡ all_taken piece
unfolding halt
plain_fed R policy default last room [] h all = feed_end (converter R policy default) last (limit room)
plain_fed R policy default last room (a ∷ piece) h all =
    plain_step R policy default last room a piece (omega arith) (all 0 (omega arith))
    (plain_fed R policy default last (room - 1) piece (omega arith) (λ k b. all (suc k) (omega arith)))

-- ---- the two directions
pub plain_same : (classes singles pairs : List ℕ) (byte : ℕ) → is_lead (entry_at classes byte) ≡ false → byte_alone classes singles byte ≡ Ok byte → Same (decoder classes singles pairs) byte
unfolding decoder
plain_same classes singles pairs byte e q = (e, q, refl)

-- a unit below 80 that is its own code is written as it is
pub plain_unit : (index blocks : List ℕ) (unit : ℕ) → unit < 0x80 → unit_alone index blocks unit ≡ Ok unit → Same (encoder index blocks) unit
unfolding encoder bytes_of
plain_unit index blocks unit h q = (found_no_wait index blocks unit unit q, q, rw (le-leb unit 0xFF (omega arith)))

-- a piece that fits, of units that are written as they are, was copied: that is all that the call gives
pub plain_taken : (R : Reader) (piece out out' : List ℕ) → length piece ≤ length out → ((k : ℕ) → k < length piece → Same R (entry_at piece k)) → Copied piece out out' (length piece)
    → Plain R piece out true out'
plain_taken R piece out out' h all c =
    record {
      fed = λ e policy default last. plain_fed R policy default last (length out) piece h all;
      laid = λ e. copied_all piece out out' c;
      left = λ e. absurd (true≢false e);
      same = c.same;
    }

-- nothing was copied, and nothing is changed
pub plain_left : (R : Reader) (piece out : List ℕ) → Plain R piece out false out
plain_left R piece out = record { fed = λ e. absurd (false≢true e); laid = λ e. absurd (false≢true e); left = λ e. refl; same = refl }

-- a call whose piece was copied whole
pub plain_ends : (R : Reader) (policy : Policy) (default : ℕ) (last : Bool) {piece out : List ℕ} {copied : Bool} {out' : List ℕ} → Plain R piece out copied out' → copied ≡ true
    → Ends (feed_from (converter R policy default) last (limit (length out)) none piece) out out' (record { answer = 0; used = length piece; written = length piece; flags = 0 })
unfolding summary
plain_ends R policy default last {piece} {out} p e =
    let fed = p.fed e policy default last in
    record {
      result = sym (ap summary fed);
      laid = p.laid e ∙ ap (λ (F : Fed). over out F.output) (sym fed);
      same = p.same;
    }

-- `Plain` of a piece that was found copied
pub plain_sure : {R : Reader} {piece out : List ℕ} {copied : Bool} {out' : List ℕ} → Plain R piece out copied out' → copied ≡ true → Plain R piece out true out'
plain_sure {R} {piece} {out} {copied} {out'} p e = subst (λ (b : Bool). Plain R piece out b out') e p
