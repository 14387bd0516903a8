-- Laws of counting by runs: each code met is one step of the engine, in room that never ends.
use mathlib.Core.Bool.{true, false}
use mathlib.Core.List.{List, [], ◌++◌}
use mathlib.Core.Option.{none}
use mathlib.Core.Path.{◌≡◌, refl, sym, ap, ap₂, ◌∙◌, subst}
use Prim.Native.Nat.{ℕ, zero, suc, ◌+◌, ◌-◌, ◌<◌, ◌≤◌}
use native.Mathlib.Omega.{arith}
use lib.ListN.{length, get_or, drop, length-append}
use lib.Bits.{or_zero_l}
use Rattle.codepage.specs.CodePage.{entry_at, is_lead}
use Rattle.codepage.specs.Reading.{Reader, byte_alone, byte_pair, unit_alone, bytes_of, decoder, encoder}
use Rattle.std.specs.Prelude.{Ok}
use Rattle.codepage.proofs.ReadingLaws.{pair_joins, found_no_wait}
use Rattle.engine.specs.declared.Policy.{Policy}
use Rattle.engine.specs.Engine.{converter, endless, fits, room_left, after, take_code, feed_from}
use Rattle.engine.proofs.EngineLaws.{after_none, after_after, take_fits}
use Rattle.engine_fastpath.specs.Counts.{Met}
use Rattle.codepage_lookup.specs.Profile.{PlainPage}
use Rattle.engine_fastpath.proofs.RunLaws.{written, one_found, two_found, one_byte, two_bytes}
use Rattle.engine_fastpath.proofs.PlainLaws.{Same, plain_same}

module _ {R : Reader} {text : List ℕ} {i : ℕ} where
  -- no code is met yet
  pub met_start : i ≤ length text → Met R text i i 0
  met_start h =
      let z : i - i ≡ 0 = omega arith in
      record {
        ahead = omega arith;
        inside = h;
        little = omega arith;
        ys = [];
        count = refl;
        goes = λ policy default. rw z (sym (after_none _));
      }

  -- the same, at equal places
  pub met_at : {i₁ n₁ i₂ n₂ : ℕ} → Met R text i i₁ n₁ → i₁ ≡ i₂ → n₁ ≡ n₂ → Met R text i i₂ n₂
  met_at {i₁} {n₁} {i₂} {n₂} a e q = subst (λ (x : ℕ). Met R text i x n₂) e (subst (Met R text i i₁) q a)

  -- two runs, one after the other
  pub met_join : {i₁ n₁ i₂ n₂ : ℕ} → Met R text i i₁ n₁ → Met R text i₁ i₂ n₂ → Met R text i i₂ (n₁ + n₂)
  met_join {i₁} {n₁} {i₂} {n₂} a b =
      let used : i₁ - i + (i₂ - i₁) ≡ i₂ - i = omega (arith, a.ahead, b.ahead) in
      record {
        ahead = omega (arith, a.ahead, b.ahead);
        inside = b.inside;
        little = omega (arith, a.little, b.little, a.ahead, b.ahead);
        ys = a.ys ++ b.ys;
        count = length-append a.ys b.ys ∙ ap₂ ◌+◌ a.count b.count;
        goes = λ policy default.
            let F = feed_from (converter R policy default) true endless none (drop i₂ text) in
            a.goes policy default ∙ ap (after (i₁ - i) a.ys 0) (b.goes policy default)
            ∙ sym (after_after (i₁ - i) (i₂ - i₁) a.ys b.ys 0 0 F)
            ∙ ap₂ (λ (n f : ℕ). after n (a.ys ++ b.ys) f F) used (or_zero_l 0);
      }

  -- a code of n units that writes ys
  met_code : (n : ℕ) (ys : List ℕ)
      → ((policy : Policy) (default : ℕ) → feed_from (converter R policy default) true endless none (drop i text)
      ≡ take_code endless n (written ys) (feed_from (converter R policy default) true (room_left endless (length ys)) none (drop (i + n) text)))
      → i + n ≤ length text → 1 ≤ n → length ys ≤ 2 → Met R text i (i + n) (length ys)
  unfolding room_left fits
  met_code n ys step h p q =
      let used : n ≡ i + n - i = omega arith in
      record {
        ahead = omega arith;
        inside = h;
        little = omega arith;
        ys = ys;
        count = refl;
        goes = λ policy default.
            let F = feed_from (converter R policy default) true endless none (drop (i + n) text) in
            step policy default ∙ take_fits endless n (written ys) F refl refl ∙ ap (λ (m : ℕ). after m ys 0 F) used;
      }

  pub met_one : (value : ℕ) → i < length text → R.waits (get_or text i 0) ≡ false → R.one (get_or text i 0) ≡ Ok value → length (R.writes value) ≤ 2
      → Met R text i (i + 1) (length (R.writes value))
  met_one value h e q f = met_code 1 (R.writes value) (λ policy default. one_found R text i value h e q policy default true endless) (omega arith) (omega arith) f

  pub met_two : (value : ℕ) → i + 1 < length text → R.waits (get_or text i 0) ≡ true → R.joins (get_or text i 0) (get_or text (i + 1) 0) ≡ true → R.two (get_or text i 0) (get_or text (i + 1) 0) ≡ Ok value
      → length (R.writes value) ≤ 2 → Met R text i (i + 2) (length (R.writes value))
  met_two value h e j q f = met_code 2 (R.writes value) (λ policy default. two_found R text i value h e j q policy default true endless) (omega arith) (omega arith) f

-- units that are written as they are
pub met_same : {R : Reader} {text : List ℕ} {i : ℕ} (n : ℕ) → i + n ≤ length text → ((k : ℕ) → k < n → Same R (entry_at text (i + k))) → Met R text i (i + n) n
met_same zero h all = met_at (met_start (omega (arith, h))) (omega arith) refl
met_same {R} {text} {i} (suc n) h all =
    let s = all n (omega arith) in
    let one : length (R.writes (entry_at text (i + n))) ≡ 1 = ap length s.2 in
    met_at
    (met_join (met_same n (omega (arith, h)) (λ k b. all k (omega (arith, b)))) (met_one (entry_at text (i + n)) (omega (arith, h)) s.0 s.1 (omega (arith, one))))
    (omega arith) (omega (arith, one))

-- a whole text of them
pub met_whole : {R : Reader} (text : List ℕ) → ((k : ℕ) → k < length text → Same R (entry_at text k)) → Met R text 0 (length text) (length text)
met_whole text all =
    met_at
    (met_same (length text) (omega arith)
    (λ k b. let e : 0 + k ≡ k = omega arith in
    rw e (all k b)))
    (omega arith) refl

-- ---- a code of decoding
module _ (classes singles pairs : List ℕ) {text : List ℕ} {i n i₁ : ℕ} (m : Met (decoder classes singles pairs) text i i₁ n) (unit : ℕ) where
  -- one more byte that is a code alone and has a character
  pub met_single : i₁ < length text → is_lead (entry_at classes (get_or text i₁ 0)) ≡ false → byte_alone classes singles (get_or text i₁ 0) ≡ Ok unit
      → Met (decoder classes singles pairs) text i (i₁ + 1) (n + 1)
  unfolding decoder
  met_single h e q = met_join m (met_one unit h e q (omega arith))

  -- one more lead and second byte that have a character
  pub met_pair : i₁ + 1 < length text → is_lead (entry_at classes (get_or text i₁ 0)) ≡ true → byte_pair classes pairs (get_or text i₁ 0) (get_or text (i₁ + 1) 0) ≡ Ok unit
      → Met (decoder classes singles pairs) text i (i₁ + 2) (n + 1)
  unfolding decoder
  met_pair h e q = met_join m (met_two unit h e (pair_joins classes pairs _ _ unit q) q (omega arith))

-- plain bytes
pub met_plain : (classes singles pairs : List ℕ) → PlainPage classes singles → {text : List ℕ} {i : ℕ} (n : ℕ) → i + n ≤ length text → ((k : ℕ) → k < n → entry_at text (i + k) < 0x80)
    → Met (decoder classes singles pairs) text i (i + n) n
met_plain classes singles pairs page {text} {i} n h all =
    met_same n h
    (λ k b. let p = page (entry_at text (i + k)) (all k b) in
    plain_same classes singles pairs (entry_at text (i + k)) p.0 p.1)

-- ---- a unit of encoding
module _ (index blocks : List ℕ) {text : List ℕ} {i n i₁ : ℕ} (m : Met (encoder index blocks) text i i₁ n) (code : ℕ) (h : i₁ < length text) (q : unit_alone index blocks (get_or text i₁ 0) ≡ Ok code) where
  -- one more unit that has a code, of so many bytes
  pub met_unit : (count : ℕ) → count ≡ length (bytes_of code) → Met (encoder index blocks) text i (i₁ + 1) (n + count)
  unfolding encoder
  met_unit count e = rw e (met_join m (met_one code h (found_no_wait index blocks (get_or text i₁ 0) code q) q (two_bytes code)))

  -- one more unit whose code is one byte
  pub met_byte : code ≤ 0xFF → Met (encoder index blocks) text i (i₁ + 1) (n + 1)
  met_byte b = met_unit 1 (sym (ap length (one_byte code b)))
