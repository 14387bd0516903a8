-- Laws of writing at a place: bytes laid over a list, one run of them after another.
use mathlib.Core.Bool.{Bool, true, false}
use mathlib.Core.List.{List, [], ◌∷◌, ◌++◌, append_assoc}
use mathlib.Core.Path.{◌≡◌, refl, sym, ap, ◌∙◌, subst}
use Prim.Native.Nat.{ℕ, suc, ◌+◌, ◌-◌, ◌/◌, ◌%◌, ◌<◌, ◌≤◌}
use native.Mathlib.Nat.{add-zero}
use native.Mathlib.Numerals.{add-one, add-two, add-three}
use native.Mathlib.Omega.{arith}
use lib.ListN.{length, get_or, take, drop, set, length-append}
use lib.Seq.{sets, length-sets, sets-eq, drop-drop, set_comm, take-suc, length-take-le, take-length}
use borrow.Author.Tests.{lt-ltb, le-ltb}
use Rattle.engine.specs.declared.Direction.{Direction}
use Rattle.convert.specs.declared.Run.{Run}
use Rattle.convert.specs.Runs.{valid_run}
use Rattle.codepage.specs.Lent.{over}
use Rattle.checkpoint.specs.Line.{tab, hex_byte, decimal, letter_of, hex_of, pending_of, field_of, closing_of, line_of, write_of, Saved}
use Rattle.std.specs.declared.result.Result.TheVariants.{Ok, Err}
use Rattle.checkpoint.specs.declared.Refusal.TheVariants.{InvalidRun, NoRoom}
use Rattle.checkpoint.specs.Places.{start_fields, total_fields, Put}
use Rattle.checkpoint.proofs.DecimalLaws.{places, places_length, places_suc, places_decimal}

-- ---- bytes copied into a part of a list
pub put_by : (l bytes part : List ℕ) (at n : ℕ) → at + length bytes ≤ length l → n ≡ length bytes → part ≡ bytes → take at l ++ (part ++ drop n (drop at l)) ≡ sets l at bytes
put_by l bytes part at n h same e =
    let behind : drop n (drop at l) ≡ drop (at + length bytes) l = drop-drop n at l ∙ ap (λ (m : ℕ). drop (at + m) l) same in
    rw behind
    (ap (λ (p : List ℕ). take at l ++ (p ++ drop (at + length bytes) l)) e
    ∙ sym (append_assoc (take at l) bytes (drop (at + length bytes) l))
    ∙ sym (sets-eq bytes l at h))

-- ---- one run of bytes after another
pub sets_append : (xs ys l : List ℕ) (at : ℕ) → sets (sets l at xs) (at + length xs) ys ≡ sets l at (xs ++ ys)
sets_append [] ys l at = ap (λ (n : ℕ). sets l n ys) (add-zero at)
sets_append (x ∷ xs) ys l at =
    let e : at + suc (length xs) ≡ suc at + length xs = omega arith in
    ap (λ (n : ℕ). sets (sets (set l at x) (suc at) xs) n ys) e ∙ sets_append xs ys (set l at x) (suc at)

-- the last byte first
pub sets_last : (xs l : List ℕ) (at y : ℕ) → sets (set l (at + length xs) y) at xs ≡ sets l at (xs ++ (y ∷ []))
sets_last [] l at y = ap (λ (n : ℕ). set l n y) (add-zero at)
sets_last (x ∷ xs) l at y =
    let e : at + suc (length xs) ≡ suc at + length xs = omega arith in
    ap (λ (m : List ℕ). sets m (suc at) xs) (set_comm l (at + suc (length xs)) at y x (omega arith) ∙ ap (λ (n : ℕ). set (set l at x) n y) e)
    ∙ sets_last xs (set l at x) (suc at) y

-- bytes are put, and more behind them: all of them are put
pub put_then : {xs ys before mid after : List ℕ} {at next end : ℕ} → Put xs before at next mid → Put ys mid next end after → Put (xs ++ ys) before at end after
put_then {xs} {ys} {before} {mid} {after} {at} {next} {end} p q =
    record {
      next_is = omega (arith, p.next_is, q.next_is, length-append xs ys);
      lent = q.lent ∙ ap (λ (m : List ℕ). sets m next ys) p.lent ∙ ap (λ (n : ℕ). sets (sets before at xs) n ys) p.next_is ∙ sets_append xs ys before at;
    }

-- putting bytes keeps the length of the lent output
pub put_same : {xs before after : List ℕ} {at next : ℕ} → Put xs before at next after → length after ≡ length before
put_same {xs} {before} {after} {at} p = ap length p.lent ∙ length-sets before at xs

-- where a run of bytes and the next one fit, the next one still fits behind it
pub put_room : {xs before mid : List ℕ} {at next : ℕ} (ys : List ℕ) → Put xs before at next mid → at + length (xs ++ ys) ≤ length before → next + length ys ≤ length mid
put_room {xs} {before} {mid} {at} {next} ys p h = omega (arith, p.next_is, length-append xs ys, put_same p)

-- room for two lists is room for the first
pub front_room : (xs ys : List ℕ) (at n : ℕ) → at + length (xs ++ ys) ≤ n → at + length xs ≤ n
front_room xs ys at n h = omega (arith, h, length-append xs ys)

-- bytes that are written out
module _ (bytes before : List ℕ) (at : ℕ) where
  -- one byte that is stored
  pub put_one : (a : ℕ) → bytes ≡ a ∷ [] → Put bytes before at (at + 1) (set before at a)
  put_one a e = record { next_is = ap (λ (l : List ℕ). at + length l) (sym e); lent = rw e }

  -- two bytes that are stored, one behind the other
  pub put_two : (a b : ℕ) → bytes ≡ a ∷ b ∷ [] → Put bytes before at (at + 2) (set (set before at a) (at + 1) b)
  put_two a b e = record { next_is = ap (λ (l : List ℕ). at + length l) (sym e); lent = rw (e, add-one at) }

  -- four bytes that are stored, one behind the other
  pub put_four : (a b d f : ℕ) → bytes ≡ a ∷ b ∷ d ∷ f ∷ [] → Put bytes before at (at + 4) (set (set (set (set before at a) (at + 1) b) (at + 2) d) (at + 3) f)
  put_four a b d f e = record { next_is = ap (λ (l : List ℕ). at + length l) (sym e); lent = rw (e, add-one at, add-two at, add-three at) }

-- ---- the short fields
-- the letter's field is its byte and a tab
pub letter_field : (direction : Direction) (byte : ℕ) → letter_of direction ≡ byte ∷ [] → field_of (letter_of direction) ≡ byte ∷ tab ∷ []
unfolding field_of
letter_field direction byte e = ap (λ (l : List ℕ). l ++ (tab ∷ [])) e

-- a byte's hex digits, each by its half
pub hex_digits : (byte high low : ℕ) → high ≡ hex_byte (byte / 16) → low ≡ hex_byte (byte % 16) → hex_of byte ≡ high ∷ low ∷ []
hex_digits byte high low h l = rw (h, l)

-- some bytes, and the tab behind them
pub put_tab : {bytes before mid : List ℕ} {at next : ℕ} → Put bytes before at next mid → Put (field_of bytes) before at (next + 1) (set mid next tab)
unfolding field_of
put_tab {mid} {next} p = put_then p (put_one (tab ∷ []) mid next tab refl)

-- the closing bytes that were put are those of the run's own end
pub closing_is : (ended value : Bool) → ended ≡ value → {before after : List ℕ} {at next : ℕ} → Put (closing_of value) before at next after → Put (closing_of ended) before at next after
closing_is ended value e p = rw e p

-- ---- a loop that copies bytes
-- one byte more is stored behind those copied so far
pub copy_turn : (bytes l : List ℕ) (at i : ℕ) → i < length bytes → set (sets l at (take i bytes)) (at + i) (get_or bytes i 0) ≡ sets l at (take (i + 1) bytes)
copy_turn bytes l at i h =
    let e : length (take i bytes) ≡ i = length-take-le i bytes (omega arith) in
    ap (λ (n : ℕ). set (sets l at (take i bytes)) (at + n) (get_or bytes i 0)) (sym e)
    ∙ sets_append (take i bytes) (get_or bytes i 0 ∷ []) l at
    ∙ rw (add-one i) (ap (sets l at) (sym (take-suc bytes i 0 h)))

-- all bytes are copied: they are put
pub copy_end : (bytes l m : List ℕ) (at i : ℕ) → m ≡ sets l at (take i bytes) → length bytes ≤ i → i ≤ length bytes → Put bytes l at (at + i) m
copy_end bytes l m at i e h k =
    let q : i ≡ length bytes = omega arith in
    record {
      next_is = ap (λ (n : ℕ). at + n) q;
      lent = e ∙ ap (λ (n : ℕ). sets l at (take n bytes)) q ∙ ap (sets l at) (take-length bytes);
    }

-- ---- a loop that writes the digits of a number, the last one first
-- before the first turn: as many places as the number has digits are to be written, and they are its decimal form
pub digits_start : (n : ℕ) (l : List ℕ) (at size : ℕ) → size ≡ length (decimal n) → sets l at (places size n) ≡ sets l at (decimal n)
digits_start n l at size e = ap (λ (k : ℕ). sets l at (places k n)) e ∙ ap (sets l at) (places_decimal n)

-- the last digit of what is left of the number is stored at its place; a tenth of it is left for the places before
pub digits_turn : (whole m : List ℕ) (at i rest : ℕ) → 0 < i → sets m at (places i rest) ≡ whole → sets (set m (at + (i - 1)) (0x30 + rest % 10)) at (places (i - 1) (rest / 10)) ≡ whole
digits_turn whole m at i rest h e =
    let one_less : i ≡ suc (i - 1) = omega arith in
    ap (λ (n : ℕ). sets (set m (at + n) (0x30 + rest % 10)) at (places (i - 1) (rest / 10))) (sym (places_length (i - 1) (rest / 10)))
    ∙ sets_last (places (i - 1) (rest / 10)) m at (0x30 + rest % 10)
    ∙ ap (sets m at) (sym (places_suc (i - 1) rest))
    ∙ ap (λ (n : ℕ). sets m at (places n rest)) (sym one_less)
    ∙ e

-- all digits are stored, and the tab behind them: the field is put
pub digits_end : (n : ℕ) (l m : List ℕ) (at i rest size : ℕ) → i ≤ 0 → size ≡ length (decimal n) → sets m at (places i rest) ≡ sets l at (decimal n)
    → Put (field_of (decimal n)) l at (at + size + 1) (set m (at + size) tab)
unfolding field_of places
digits_end n l m at i rest size h k e =
    let none_left : i ≡ 0 = omega arith in
    let done : m ≡ sets l at (decimal n) = ap (λ (j : ℕ). sets m at (places j rest)) (sym none_left) ∙ e in
    record {
      next_is = omega (arith, length-append (decimal n) (tab ∷ []));
      lent =
          ap (λ (x : List ℕ). set x (at + size) tab) done
          ∙ ap (λ (j : ℕ). set (sets l at (decimal n)) (at + j) tab) k
          ∙ sets_append (decimal n) (tab ∷ []) l at;
    }

-- ---- the whole line
-- the line is its four parts: what the run was started with, what is pending, the totals, and the end
pub line_parts : (run : Run) → start_fields run ++ field_of (pending_of run.pending) ++ total_fields run ++ closing_of run.ended ≡ line_of run
unfolding line_of
line_parts run = simp append_assoc

-- room for the line is room for its four parts
pub line_room : (run : Run) (n : ℕ) → length (line_of run) ≤ n → 0 + length (start_fields run ++ field_of (pending_of run.pending) ++ total_fields run ++ closing_of run.ended) ≤ n
line_room run n h = omega (arith, ap length (line_parts run))

-- bytes equal to those that were put are put
pub put_is : {xs ys before after : List ℕ} {at next : ℕ} → xs ≡ ys → Put xs before at next after → Put ys before at next after
put_is {before} {after} {at} {next} e p = subst (λ (l : List ℕ). Put l before at next after) e p

-- ---- the answers of line writing
module _ (run : Run) (before : List ℕ) where
  -- a run that breaks the rules: 12, and the output is as before
  pub saved_invalid : valid_run run ≡ false → Saved (write_of run (length before)) (Err InvalidRun) before before
  unfolding write_of over
  saved_invalid v = rw v (record { number = refl; size = refl; lent = refl })

  -- the line is longer than the room: 19, and the output is as before
  pub saved_full : (size : ℕ) → valid_run run ≡ true → size ≡ length (line_of run) → length before < size → Saved (write_of run (length before)) (Err NoRoom) before before
  unfolding write_of over
  saved_full size v e h = rw (v, lt-ltb (length before) (length (line_of run)) (omega arith)) (record { number = refl; size = refl; lent = refl })

  -- the line is put at the front: its length is the answer
  pub saved_line : (size next : ℕ) (after : List ℕ) → valid_run run ≡ true → size ≡ length (line_of run) → size ≤ length before → Put (line_of run) before 0 next after
      → Saved (write_of run (length before)) (Ok next) before after
  unfolding write_of over
  saved_line size next after v e h p =
      let zero_on : 0 + length (line_of run) ≡ length (line_of run) = omega arith in
      rw (v, le-ltb (length before) (length (line_of run)) (omega arith))
      (record {
        number = refl;
        size = p.next_is ∙ zero_on;
        lent = p.lent ∙ sets-eq (line_of run) before 0 (omega arith) ∙ ap (λ (n : ℕ). line_of run ++ drop n before) zero_on;
      })
