-- Laws of the quick loops: each turn is one step of the engine.
use mathlib.Core.Bool.{Bool, true, false}
use mathlib.Core.List.{List, [], ◌∷◌, ◌++◌}
use mathlib.Core.Option.{none}
use mathlib.Core.Path.{◌≡◌, refl, sym, ap, ◌∙◌, subst}
use Prim.Native.Nat.{ℕ, suc, ◌+◌, ◌-◌, ◌/◌, ◌%◌, ◌<◌, ◌≤◌}
use native.Mathlib.Omega.{arith}
use lib.Dec.{leb}
use lib.ListN.{length, get_or, take, drop, set, length-set, length-append}
use lib.Seq.{sets, length-sets, set-set}
use lib.Bits.{bit_or, or_zero_r}
use borrow.Author.Tests.{le-leb, leb-true, ne_eqb}
use Rattle.codepage.specs.CodePage.{pick, entry_at, is_single, is_lead}
use Rattle.codepage.specs.Reading.{Reader, Code, together, settled, lookup, byte_alone, byte_pair, unit_alone, bytes_of, decoder, encoder}
use Rattle.std.specs.Prelude.{Ok}
use Rattle.engine.specs.declared.Policy.{Policy}
use Rattle.engine.specs.declared.progress.Progress.{Progress}
use Rattle.engine.specs.Engine.{Effect, effect_of, converter, Room, limit, room_left, Fed, after, take_code, feed_from}
use Rattle.engine.specs.Steps.{sofar, moved_to}
use Rattle.codepage_lookup.specs.Profile.{ClearPage}
use Rattle.engine_fastpath.specs.Runs.{Ran, SinglesTaken}
use Rattle.codepage_lookup.proofs.ProfileLaws.{single_no_lead}
use Rattle.engine.proofs.LoopLaws.{later, took_fits}
use Rattle.engine.proofs.TurnLaws.{one_step, settled_step, wait_step}
use Rattle.codepage.proofs.ReadingLaws.{pair_joins, found_no_wait}

-- a code that has a character: it writes ys
abbrev pub written : List ℕ → Effect
written ys = record { flag = 0; writes = ys; stops = false }

-- ---- a code that has a character, in any room
module _ (R : Reader) (piece : List ℕ) (i value : ℕ) where
  -- a unit that is a code of its own
  pub one_found : i < length piece → R.waits (get_or piece i 0) ≡ false → R.one (get_or piece i 0) ≡ Ok value
      → (policy : Policy) (default : ℕ) (last : Bool) (room : Room)
      → feed_from (converter R policy default) last room none (drop i piece)
      ≡ take_code room 1 (written (R.writes value)) (feed_from (converter R policy default) last (room_left room (length (R.writes value))) none (drop (i + 1) piece))
  unfolding converter effect_of
  one_found h e q policy default last room =
      one_step (converter R policy default) last piece i (written (R.writes value)) h false 0 refl e (sym (ap (effect_of R.writes policy default (get_or piece i 0)) q)) room

  -- a unit that waits, and the one after it
  pub two_found : i + 1 < length piece → R.waits (get_or piece i 0) ≡ true → R.joins (get_or piece i 0) (get_or piece (i + 1) 0) ≡ true → R.two (get_or piece i 0) (get_or piece (i + 1) 0) ≡ Ok value
      → (policy : Policy) (default : ℕ) (last : Bool) (room : Room)
      → feed_from (converter R policy default) last room none (drop i piece)
      ≡ take_code room 2 (written (R.writes value)) (feed_from (converter R policy default) last (room_left room (length (R.writes value))) none (drop (i + 2) piece))
  unfolding converter effect_of settled
  two_found h e j q policy default last room =
      let two : i + 1 + 1 ≡ i + 2 = omega arith in
      let both : settled R (get_or piece i 0) (get_or piece (i + 1) 0) ≡ together R (get_or piece i 0) (get_or piece (i + 1) 0) = rw j in
      wait_step (converter R policy default) last piece i (omega arith) false 0 refl e room
      ∙ settled_step (converter R policy default) last piece (i + 1) (written (R.writes value)) h true (get_or piece i 0) 1 refl
      (sym (ap (λ (k : Code). effect_of R.writes policy default k.first k.means) both ∙ ap (effect_of R.writes policy default (get_or piece i 0)) q)) (sym (ap (λ (k : Code). length k.more) both)) room
      ∙ ap (λ (m : ℕ). take_code room 2 (written (R.writes value)) (feed_from (converter R policy default) last (room_left room (length (R.writes value))) none (drop m piece))) two

-- no flag is set, and two ways of counting the units are one
same_sofar : (s : Progress) (u v : ℕ) (out : List ℕ) (w : ℕ) (F : Fed) → u ≡ v
    → sofar (record { answer = 0; used = u; written = w; flags = bit_or s.flags 0 }) out F ≡ sofar (record { answer = 0; used = v; written = w; flags = s.flags }) out F
unfolding sofar
same_sofar s u v out w F e =
    ap (λ (f : ℕ). after u (take w out) f F) (or_zero_r s.flags) ∙ ap (λ (n : ℕ). after n (take w out) s.flags F) e

module _ {R : Reader} {piece out : List ℕ} {i w : ℕ} where
  -- no code is taken yet
  pub ran_start : i ≤ length piece → w ≤ length out → Ran R piece out i w out i w
  unfolding sofar
  ran_start h f =
      record {
        same = refl;
        within = f;
        grows = omega arith;
        ahead = omega arith;
        inside = h;
        kept = refl;
        goes = λ policy default last s e.
            let F = feed_from (converter R policy default) last (limit (length out - w)) none (drop i piece) in
            let u : s.used ≡ s.used + (i - i) = omega arith in
            ap (λ (n : ℕ). after s.used (take n out) s.flags F) e ∙ ap (λ (n : ℕ). after n (take w out) s.flags F) u;
      }

  -- the same, at equal places
  pub ran_at : {out₁ : List ℕ} {i₁ w₁ i₂ w₂ : ℕ} → Ran R piece out i w out₁ i₁ w₁ → i₁ ≡ i₂ → w₁ ≡ w₂ → Ran R piece out i w out₁ i₂ w₂
  ran_at {out₁} {i₁} {w₁} {i₂} {w₂} r e q = subst (λ (n : ℕ). Ran R piece out i w out₁ n w₂) e (subst (λ (n : ℕ). Ran R piece out i w out₁ i₁ n) q r)

  -- two runs, one after the other
  pub ran_join : {out₁ : List ℕ} {i₁ w₁ : ℕ} {out₂ : List ℕ} {i₂ w₂ : ℕ} → Ran R piece out i w out₁ i₁ w₁ → Ran R piece out₁ i₁ w₁ out₂ i₂ w₂ → Ran R piece out i w out₂ i₂ w₂
  unfolding sofar
  ran_join {out₁} {i₁} {w₁} {out₂} {i₂} {w₂} r t =
      record {
        same = t.same ∙ r.same;
        within = t.within;
        grows = omega (arith, r.grows, t.grows);
        ahead = omega (arith, r.ahead, t.ahead);
        inside = t.inside;
        kept = t.kept ∙ later w₁ w₂ out₁ out t.grows r.kept;
        goes = λ policy default last s e.
            let u : s.used + (i₁ - i) + (i₂ - i₁) ≡ s.used + (i₂ - i) = omega (arith, r.ahead, t.ahead) in
            r.goes policy default last s e ∙ t.goes policy default last (moved_to s (i₁ - i) w₁) refl
            ∙ ap (λ (n : ℕ). after n (take w₂ out₂) s.flags (feed_from (converter R policy default) last (limit (length out₂ - w₂)) none (drop i₂ piece))) u;
      }

  -- one more code, of n units, that writes ys
  ran_more : {out₁ : List ℕ} {i₁ w₁ : ℕ} (n : ℕ) (ys : List ℕ) → Ran R piece out i w out₁ i₁ w₁
      → ((policy : Policy) (default : ℕ) (last : Bool) (room : Room)
      → feed_from (converter R policy default) last room none (drop i₁ piece)
      ≡ take_code room n (written ys) (feed_from (converter R policy default) last (room_left room (length ys)) none (drop (i₁ + n) piece)))
      → i₁ + n ≤ length piece → w₁ + length ys ≤ length out₁
      → Ran R piece out i w (sets out₁ w₁ ys) (i₁ + n) (w₁ + length ys)
  unfolding room_left
  ran_more {out₁} {i₁} {w₁} n ys r step h f =
      let at₁ : Progress = record { answer = 0; used = 0; written = w₁; flags = 0 } in
      let t₁ = took_fits (written ys) n at₁ out₁ r.within refl f in
      record {
        same = t₁.same ∙ r.same;
        within = t₁.within;
        grows = omega (arith, r.grows);
        ahead = omega (arith, r.ahead);
        inside = h;
        kept = t₁.kept ∙ later w₁ (w₁ + length ys) out₁ out (omega arith) r.kept;
        goes = λ policy default last s e.
            let s₁ : Progress = moved_to s (i₁ - i) w₁ in
            let t = took_fits (written ys) n s₁ out₁ r.within refl f in
            let used : s.used + (i₁ - i) + n ≡ s.used + (i₁ + n - i) = omega (arith, r.ahead) in
            let left : length out₁ - w₁ - length ys ≡ length (sets out₁ w₁ ys) - (w₁ + length ys) = omega (arith, t.same) in
            r.goes policy default last s e
            ∙ ap (sofar s₁ out₁) (step policy default last (limit (length out₁ - w₁)))
            ∙ t.goes refl (feed_from (converter R policy default) last (limit (length out₁ - w₁ - length ys)) none (drop (i₁ + n) piece))
            ∙ same_sofar s (s.used + (i₁ - i) + n) (s.used + (i₁ + n - i)) (sets out₁ w₁ ys) (w₁ + length ys) (feed_from (converter R policy default) last (limit (length out₁ - w₁ - length ys)) none (drop (i₁ + n) piece)) used
            ∙ ap (λ (m : ℕ). sofar (moved_to s (i₁ + n - i) (w₁ + length ys)) (sets out₁ w₁ ys) (feed_from (converter R policy default) last (limit m) none (drop (i₁ + n) piece))) left;
      }

  module _ {out₁ : List ℕ} {i₁ w₁ : ℕ} (r : Ran R piece out i w out₁ i₁ w₁) where
    pub ran_one : (value : ℕ) → i₁ < length piece → R.waits (get_or piece i₁ 0) ≡ false → R.one (get_or piece i₁ 0) ≡ Ok value
        → w₁ + length (R.writes value) ≤ length out₁ → Ran R piece out i w (sets out₁ w₁ (R.writes value)) (i₁ + 1) (w₁ + length (R.writes value))
    ran_one value h e q f = ran_more 1 (R.writes value) r (one_found R piece i₁ value h e q) (omega arith) f

    pub ran_two : (value : ℕ) → i₁ + 1 < length piece → R.waits (get_or piece i₁ 0) ≡ true → R.joins (get_or piece i₁ 0) (get_or piece (i₁ + 1) 0) ≡ true → R.two (get_or piece i₁ 0) (get_or piece (i₁ + 1) 0) ≡ Ok value
        → w₁ + length (R.writes value) ≤ length out₁ → Ran R piece out i w (sets out₁ w₁ (R.writes value)) (i₁ + 2) (w₁ + length (R.writes value))
    ran_two value h e j q f = ran_more 2 (R.writes value) r (two_found R piece i₁ value h e j q) (omega arith) f

-- ---- a code's bytes: the high half is laid, and the low half behind it, or over it where the code is one byte
pub code_laid : (out : List ℕ) (w code count : ℕ) → count ≡ length (bytes_of code) → set (set out w (code / 256)) (w + count - 1) (code % 256) ≡ sets out w (bytes_of code)
unfolding bytes_of
code_laid out w code count = by_size (leb code 0xFF) refl
  where
    by_size : (t : Bool) → leb code 0xFF ≡ t → count ≡ length (pick t (code ∷ []) (code / 256 ∷ code % 256 ∷ []))
        → set (set out w (code / 256)) (w + count - 1) (code % 256) ≡ sets out w (pick t (code ∷ []) (code / 256 ∷ code % 256 ∷ []))
    by_size true h e =
        let place : w + count - 1 ≡ w = omega (arith, e) in
        let low : code % 256 ≡ code = omega (arith, leb-true code 0xFF h) in
        ap (λ (k : ℕ). set (set out w (code / 256)) k (code % 256)) place ∙ ap (λ (x : ℕ). set (set out w (code / 256)) w x) low ∙ set-set out w (code / 256) code
    by_size false h e =
        let place : w + count - 1 ≡ suc w = omega (arith, e) in
        ap (λ (k : ℕ). set (set out w (code / 256)) k (code % 256)) place

-- a code up to 00FF is one byte
pub one_byte : (code : ℕ) → code ≤ 0xFF → bytes_of code ≡ code ∷ []
unfolding bytes_of
one_byte code h = rw (le-leb code 0xFF h)

-- every code is at most two bytes
pub two_bytes : (code : ℕ) → length (bytes_of code) ≤ 2
unfolding bytes_of
two_bytes code = by_size (leb code 0xFF)
  where
    by_size : (t : Bool) → length (pick t (code ∷ []) (code / 256 ∷ code % 256 ∷ [])) ≤ 2
    by_size true = omega arith
    by_size false = omega arith

-- every code is one byte at least
pub some_bytes : (code : ℕ) → 1 ≤ length (bytes_of code)
unfolding bytes_of
some_bytes code = by_size (leb code 0xFF)
  where
    by_size : (t : Bool) → 1 ≤ length (pick t (code ∷ []) (code / 256 ∷ code % 256 ∷ []))
    by_size true = omega arith
    by_size false = omega arith

-- ---- a code of decoding
module _ (classes singles pairs : List ℕ) {piece out : List ℕ} {i w : ℕ} {out₁ : List ℕ} {i₁ w₁ : ℕ} (r : Ran (decoder classes singles pairs) piece out i w out₁ i₁ w₁) (unit : ℕ) (f : w₁ < length out₁) where
  -- one more byte that is a code alone and has a character
  pub ran_single : i₁ < length piece → is_lead (entry_at classes (get_or piece i₁ 0)) ≡ false → byte_alone classes singles (get_or piece i₁ 0) ≡ Ok unit
      → Ran (decoder classes singles pairs) piece out i w (set out₁ w₁ unit) (i₁ + 1) (w₁ + 1)
  unfolding decoder
  ran_single h e q = ran_one r unit h e q (omega arith)

  -- one more lead and second byte that have a character
  pub ran_pair : i₁ + 1 < length piece → is_lead (entry_at classes (get_or piece i₁ 0)) ≡ true → byte_pair classes pairs (get_or piece i₁ 0) (get_or piece (i₁ + 1) 0) ≡ Ok unit
      → Ran (decoder classes singles pairs) piece out i w (set out₁ w₁ unit) (i₁ + 2) (w₁ + 1)
  unfolding decoder
  ran_pair h e q = ran_two r unit h e (pair_joins classes pairs _ _ unit q) q (omega arith)

-- ---- a unit of encoding
module _ (index blocks : List ℕ) {piece out : List ℕ} {i w : ℕ} {out₁ : List ℕ} {i₁ w₁ : ℕ} (r : Ran (encoder index blocks) piece out i w out₁ i₁ w₁) (code : ℕ) (h : i₁ < length piece) (q : unit_alone index blocks (get_or piece i₁ 0) ≡ Ok code) where
  -- one more unit whose code is one byte
  pub ran_byte : code ≤ 0xFF → w₁ < length out₁ → Ran (encoder index blocks) piece out i w (set out₁ w₁ code) (i₁ + 1) (w₁ + 1)
  unfolding encoder
  ran_byte b f =
      let one : bytes_of code ≡ code ∷ [] = one_byte code b in
      subst (λ (ys : List ℕ). Ran (encoder index blocks) piece out i w (sets out₁ w₁ ys) (i₁ + 1) (w₁ + length ys)) one
      (ran_one r code h (found_no_wait index blocks (get_or piece i₁ 0) code q) q (omega (arith, ap length one)))

  -- one more unit of any code, whose bytes are laid
  pub ran_unit : (out₂ : List ℕ) (count : ℕ) → out₂ ≡ sets out₁ w₁ (bytes_of code) → count ≡ length (bytes_of code) → w₁ + 2 ≤ length out₁
      → Ran (encoder index blocks) piece out i w out₂ (i₁ + 1) (w₁ + count)
  unfolding encoder
  ran_unit out₂ count laid many f =
      rw (laid, many) (ran_one r code h (found_no_wait index blocks (get_or piece i₁ 0) code q) q (omega (arith, two_bytes code)))

-- ---- singles
pub single_found : (classes singles : List ℕ) (byte : ℕ) → is_single (entry_at classes byte) ≡ true → (entry_at singles byte ≡ 0xFFFF → ⊥) → byte_alone classes singles byte ≡ Ok (entry_at singles byte)
unfolding byte_alone lookup
single_found classes singles byte e n = rw (e, ne_eqb (entry_at singles byte) 0xFFFF n)

-- where every byte is a single, no other has an entry among the singles
pub only_singles_clear : (classes singles : List ℕ) → ((byte : ℕ) → byte < 256 → is_single (entry_at classes byte) ≡ true) → ClearPage classes singles
only_singles_clear classes singles all = λ byte small n. all byte small

-- one byte that has a character
pub singles_one : (singles piece out : List ℕ) (i w : ℕ) → i < length piece → w < length out → entry_at piece i < 256 → (entry_at singles (entry_at piece i) ≡ 0xFFFF → ⊥)
    → SinglesTaken singles piece out i w (set out w (entry_at singles (entry_at piece i))) 1
singles_one singles piece out i w h f small n =
    record {
      same = length-set out w (entry_at singles (entry_at piece i));
      ran = λ classes pairs clear.
          let single = clear (entry_at piece i) small n in
          ran_single classes singles pairs (ran_start (omega arith) (omega arith)) (entry_at singles (entry_at piece i)) f h (single_no_lead (entry_at classes (entry_at piece i)) single)
          (single_found classes singles (entry_at piece i) single n);
    }

-- no byte is taken yet
pub singles_start : (singles piece out : List ℕ) (from at : ℕ) → from ≤ length piece → at ≤ length out → SinglesTaken singles piece out from at out 0
singles_start singles piece out from at h f = record { same = refl; ran = λ classes pairs clear. ran_at (ran_start h f) (omega arith) (omega arith) }

-- `SinglesTaken` holds of an equal number of bytes too
pub singles_at_lem : {singles piece out : List ℕ} {from at : ℕ} {out₁ : List ℕ} {k j : ℕ} → SinglesTaken singles piece out from at out₁ k → k ≡ j → SinglesTaken singles piece out from at out₁ j
singles_at_lem {singles} {piece} {out} {from} {at} {out₁} r e = subst (λ (n : ℕ). SinglesTaken singles piece out from at out₁ n) e r

-- two runs of singles, one after the other
pub singles_join : {singles piece out : List ℕ} {from at : ℕ} {out₁ : List ℕ} {k : ℕ} {out₂ : List ℕ} {j : ℕ} → SinglesTaken singles piece out from at out₁ k → SinglesTaken singles piece out₁ (from + k) (at + k) out₂ j
    → SinglesTaken singles piece out from at out₂ (k + j)
singles_join r t =
    record {
      same = t.same ∙ r.same;
      ran = λ classes pairs clear. ran_at (ran_join (r.ran classes pairs clear) (t.ran classes pairs clear)) (omega arith) (omega arith);
    }

-- ---- units of encoding, several in a turn

-- two runs one after the other, where the places are equal and not the same
pub ran_then : {R : Reader} {piece out : List ℕ} {i w : ℕ} {out₁ : List ℕ} {i₁ w₁ : ℕ} {out₂ : List ℕ} {i₂ w₂ i₃ w₃ i₄ w₄ : ℕ} → Ran R piece out i w out₁ i₁ w₁ → Ran R piece out₁ i₂ w₂ out₂ i₃ w₃
    → i₁ ≡ i₂ → w₁ ≡ w₂ → i₃ ≡ i₄ → w₃ ≡ w₄ → Ran R piece out i w out₂ i₄ w₄
ran_then r t e q e' q' = ran_at (ran_join (ran_at r e q) t) e' q'

-- stores behind stores are the stores of both
pub sets_append : (out : List ℕ) (w : ℕ) (xs ys : List ℕ) → sets (sets out w xs) (w + length xs) ys ≡ sets out w (xs ++ ys)
sets_append out w [] ys =
    let e : w + length {A = ℕ} [] ≡ w = omega arith in
    ap (λ (k : ℕ). sets out k ys) e
sets_append out w (x ∷ xs) ys =
    let e : w + length (x ∷ xs) ≡ suc w + length xs = omega arith in
    ap (λ (k : ℕ). sets (sets (set out w x) (suc w) xs) k ys) e ∙ sets_append (set out w x) (suc w) xs ys

-- the bytes of both, where the first are laid and the others behind them
pub laid_both : (out : List ℕ) (w : ℕ) {out₁ out₂ : List ℕ} {n m : ℕ} (xs ys : List ℕ) → (n ≡ length xs) × (out₁ ≡ sets out w xs) → (m ≡ length ys) × (out₂ ≡ sets out₁ (w + n) ys)
    → (n + m ≡ length (xs ++ ys)) × (out₂ ≡ sets out w (xs ++ ys))
laid_both out w {out₁} {out₂} {n} {m} xs ys first second = (
  omega (arith, first.0, second.0, length-append xs ys),
  second.1 ∙ ap (λ (l : List ℕ). sets l (w + n) ys) first.1 ∙ ap (λ (k : ℕ). sets (sets out w xs) (w + k) ys) first.0 ∙ sets_append out w xs ys,
)

-- two codes are at most four bytes
pub four_bytes : (a b : ℕ) → length (bytes_of a ++ bytes_of b) ≤ 4
four_bytes a b = omega (arith, length-append (bytes_of a) (bytes_of b), two_bytes a, two_bytes b)

-- the bytes of four codes
abbrev pub bytes_of_four : ℕ → ℕ → ℕ → ℕ → List ℕ
bytes_of_four a b c d = (bytes_of a ++ bytes_of b) ++ (bytes_of c ++ bytes_of d)

-- four codes are at most eight bytes
pub eight_bytes : (a b c d : ℕ) {count : ℕ} → count ≡ length (bytes_of_four a b c d) → count ≤ 8
eight_bytes a b c d e = omega (arith, e, length-append (bytes_of a ++ bytes_of b) (bytes_of c ++ bytes_of d), four_bytes a b, four_bytes c d)

-- two more units of any codes, whose bytes are laid
ran_both : (index blocks : List ℕ) {piece out : List ℕ} {i w : ℕ} {out₁ : List ℕ} {i₁ w₁ : ℕ} (r : Ran (encoder index blocks) piece out i w out₁ i₁ w₁) (a b : ℕ) → i₁ + 2 ≤ length piece
    → unit_alone index blocks (get_or piece i₁ 0) ≡ Ok a → unit_alone index blocks (get_or piece (i₁ + 1) 0) ≡ Ok b → w₁ + 4 ≤ length out₁
    → Ran (encoder index blocks) piece out i w (sets out₁ w₁ (bytes_of a ++ bytes_of b)) (i₁ + 2) (w₁ + length (bytes_of a ++ bytes_of b))
ran_both index blocks {piece} {out} {i} {w} {out₁} {i₁} {w₁} r a b h qa qb f =
    let one = ran_unit index blocks r a (omega arith) qa (sets out₁ w₁ (bytes_of a)) (length (bytes_of a)) refl refl (omega arith) in
    let two = ran_unit index blocks one b (omega arith) qb (sets (sets out₁ w₁ (bytes_of a)) (w₁ + length (bytes_of a)) (bytes_of b)) (length (bytes_of b)) refl refl
    (omega (arith, length-sets out₁ w₁ (bytes_of a), two_bytes a)) in
    subst (λ (l : List ℕ). Ran (encoder index blocks) piece out i w l (i₁ + 2) (w₁ + length (bytes_of a ++ bytes_of b))) (sets_append out₁ w₁ (bytes_of a) (bytes_of b))
    (ran_at two (omega arith) (omega (arith, length-append (bytes_of a) (bytes_of b))))

-- four more units of any codes, whose bytes are laid
pub ran_four : (index blocks : List ℕ) {piece out : List ℕ} {i w : ℕ} {out₁ : List ℕ} {i₁ w₁ : ℕ} (r : Ran (encoder index blocks) piece out i w out₁ i₁ w₁) (a b c d : ℕ) → i₁ + 4 ≤ length piece
    → unit_alone index blocks (get_or piece i₁ 0) ≡ Ok a → unit_alone index blocks (get_or piece (i₁ + 1) 0) ≡ Ok b
    → unit_alone index blocks (get_or piece (i₁ + 2) 0) ≡ Ok c → unit_alone index blocks (get_or piece (i₁ + 3) 0) ≡ Ok d → w₁ + 8 ≤ length out₁
    → (out₂ : List ℕ) (count : ℕ) → (count ≡ length (bytes_of_four a b c d)) × (out₂ ≡ sets out₁ w₁ (bytes_of_four a b c d)) → Ran (encoder index blocks) piece out i w out₂ (i₁ + 4) (w₁ + count)
ran_four index blocks {piece} {out} {i} {w} {out₁} {i₁} {w₁} r a b c d h qa qb qc qd f out₂ count laid =
    let xs = bytes_of a ++ bytes_of b in
    let ys = bytes_of c ++ bytes_of d in
    let last : i₁ + 2 + 1 ≡ i₁ + 3 = omega arith in
    let two = ran_both index blocks r a b (omega arith) qa qb (omega arith) in
    let four = ran_both index blocks two c d (omega arith) qc (ap (λ (k : ℕ). unit_alone index blocks (get_or piece k 0)) last ∙ qd) (omega (arith, length-sets out₁ w₁ xs, four_bytes a b)) in
    subst (λ (l : List ℕ). Ran (encoder index blocks) piece out i w l (i₁ + 4) (w₁ + count)) (sets_append out₁ w₁ xs ys ∙ sym laid.1)
    (ran_at four (omega arith) (omega (arith, laid.0, length-append xs ys)))
