-- What a converter whose codes write at most m units does in a call: bounds on output and flags, and that it reads.
use mathlib.Core.Bool.{Bool, true, false}
use mathlib.Core.List.{List, [], ◌∷◌}
use mathlib.Core.Logic.{◌⊎◌, inl, inr}
use mathlib.Core.Option.{Option, none, some}
use mathlib.Core.Path.{◌≡◌, refl, sym, ap, ◌∙◌}
use Prim.Native.Nat.{ℕ, zero, suc, ◌+◌, ◌-◌, ◌*◌, ◌/◌, ◌%◌, ◌^◌, ◌<◌, ◌≤◌}
use native.Mathlib.Nat.{mul-suc, mul-add}
use native.Mathlib.Omega.{arith}
use lib.ListN.{length, length-append}
use lib.Bits.{or_lt}
use borrow.Author.Tests.{le-leb}
use Rattle.codepage.specs.CodePage.{CodePage, pick}
use Rattle.codepage.specs.Reading.{unit_of, bytes_of, decoder, encoder, Code, size_of, call_codes, left_pending, as_units}
use Rattle.codepage.proofs.ReadingLaws.{sizes_of, sizes_cover}
use Rattle.codepage.specs.declared.Kind.{Kind}
use Rattle.codepage.specs.declared.Kind.TheVariants.{UndefinedSingle, UndefinedPair, Invalid}
use Rattle.codepage.specs.Reading.{Lookup}
use Rattle.std.specs.Prelude.{Ok, Err}
use Rattle.engine.specs.declared.Direction.{Direction}
use Rattle.engine.specs.declared.Direction.TheVariants.{Decoding, Encoding}
use Rattle.engine.specs.declared.Policy.{Policy}
use Rattle.engine.specs.declared.policies.Action.{Action}
use Rattle.engine.specs.declared.policies.Action.TheVariants.{Stop, Skip, Write}
use Rattle.engine.specs.Policies.{digit_of, flag_of, action_of}
use Rattle.engine.specs.Engine.{Effect, acted, effect_of, Converter, converter, Room, limit, fits, room_left, Fed, halt, after, stop_at, take_when, take_code, take_codes, feed_from}
use Rattle.engine.specs.Engine.{converter_of, default_of}
use lib.Dec.{leb}

-- an effect that writes at most m units and sets none but a kind's flag
pub record Small (m : ℕ) (k : Effect) : Type 0 where
  pub writes : length k.writes ≤ m
  pub flag : k.flag < 2 ^ 3

-- a converter each of whose codes has such an effect
pub record Bounded (m : ℕ) (v : Converter) : Type 0 where
  pub each : (k : Code) → Small m (v.does k)

-- what a feeding keeps
pub record Kept (m : ℕ) (f : Fed) : Type 0 where
  pub output : length f.output ≤ m * f.used
  pub flags : f.flags < 2 ^ 4
  pub low : (f.answer ≡ 3 → ⊥) → f.flags < 2 ^ 3

kept_halt : (m answer : ℕ) → (answer ≡ 3 → ⊥) → Kept m (halt answer)
unfolding halt
kept_halt m answer h = record { output = omega arith; flags = omega arith; low = λ z. omega arith }

kept_take : (m n : ℕ) (k : Effect) (f : Fed) (s t : Bool) → 1 ≤ n → Small m k → Kept m f → Kept m (take_when s t n k f)
unfolding take_when stop_at after halt
kept_take m n k f true t h w g =
    record {
      output = omega arith;
      flags = or_lt 4 k.flag 8 (omega (arith, w.flag)) (omega arith);
      low = λ z. absurd (z refl);
    }
kept_take m n k f false true h w g =
    record {
      output = omega (arith, length-append k.writes f.output, w.writes, g.output, mul-add m n f.used, more m n h);
      flags = or_lt 4 k.flag f.flags (omega (arith, w.flag)) g.flags;
      low = λ z. or_lt 3 k.flag f.flags w.flag (g.low z);
    }
  where
    more : (m n : ℕ) → 1 ≤ n → m ≤ m * n
    more m zero h = absurd (omega arith)
    more m (suc n) h = omega (arith, mul-suc m n)
kept_take m n k f false false h w g = record { output = omega arith; flags = omega arith; low = λ z. omega arith }

module _ (m : ℕ) (v : Converter) (bounded : Bounded m v) where
  kept_codes : (room : Room) (ks : List Code) (pending : Option ℕ) → Kept m (take_codes v room ks pending)
  unfolding take_codes take_code
  kept_codes room [] none = kept_halt m 0 (λ z. omega arith)
  kept_codes room [] (some c) = kept_halt m 1 (λ z. omega arith)
  kept_codes room (k ∷ ks) pending = kept_take m (size_of k) (v.does k) _ _ _ (omega arith) (bounded.each k) (kept_codes (room_left room (length (v.does k).writes)) ks pending)

  -- every call keeps the bounds, whatever its room and what is pending
  pub kept_from : (last : Bool) (room : Room) (p : Option ℕ) (l : List ℕ) → Kept m (feed_from v last room p l)
  unfolding feed_from
  kept_from last room p l = kept_codes room _ _

  -- with room for m units a code is taken or stops
  taken_some : (n room : ℕ) (k : Effect) (f : Fed) (s : Bool) → m ≤ room → Small m k → n ≤ (take_when s (leb (length k.writes) room) n k f).used
  unfolding take_when stop_at after
  taken_some n room k f true h w = omega arith
  taken_some n room k f false h w = rw (le-leb (length k.writes) room (omega (arith, w.writes))) (omega arith)

  reads_codes : (room : ℕ) (ks : List Code) (pending : Option ℕ) → m ≤ room → 1 ≤ sizes_of ks + length (as_units pending)
      → ((take_codes v (limit room) ks pending).answer ≡ 1) ⊎ (1 ≤ (take_codes v (limit room) ks pending).used)
  unfolding take_codes take_code fits halt
  reads_codes room [] none h n = absurd (omega arith)
  reads_codes room [] (some c) h n = inl refl
  reads_codes room (k ∷ ks) pending h n = inr (omega (arith, taken_some (size_of k) room (v.does k) (take_codes v (room_left (limit room) (length (v.does k).writes)) ks pending) (v.does k).stops h (bounded.each k)))

  -- A call that has units, and room for m, ends with a unit pending or has used one, be it the one that waited before.
  pub reads : (last : Bool) (room : ℕ) (p : Option ℕ) (a : ℕ) (l : List ℕ) → m ≤ room
      → ((feed_from v last (limit room) p (a ∷ l)).answer ≡ 1) ⊎ (1 ≤ (feed_from v last (limit room) p (a ∷ l)).used)
  unfolding feed_from
  reads last room p a l h =
      reads_codes room (call_codes v.reader last p (a ∷ l)) (left_pending v.reader last p (a ∷ l)) h (omega (arith, sizes_cover v.reader last p (a ∷ l)))

-- ---- the two directions
-- how many units a code writes at most
abbrev pub widest : Direction → ℕ
widest Decoding = 1
widest Encoding = 2

small_acted : (m : ℕ) (flag : ℕ) (action : Action) → 1 ≤ m → flag < 2 ^ 3 → Small m (acted flag action)
small_acted m flag Stop h f = record { writes = omega arith; flag = f }
small_acted m flag Skip h f = record { writes = omega arith; flag = f }
small_acted m flag (Write value) h f = record { writes = h; flag = f }

flag_low : (kind : Kind) → flag_of kind < 2 ^ 3
flag_low UndefinedSingle = omega arith
flag_low UndefinedPair = omega arith
flag_low Invalid = omega arith

small_effect : (m : ℕ) (writes : ℕ → List ℕ) (policy : Policy) (default first : ℕ) (found : Lookup) → 1 ≤ m → ((value : ℕ) → length (writes value) ≤ m) → Small m (effect_of writes policy default first found)
unfolding effect_of
small_effect m writes policy default first (Ok value) h w = record { writes = w value; flag = omega arith }
small_effect m writes policy default first (Err kind) h w = small_acted m (flag_of kind) (action_of (digit_of policy kind) default first) h (flag_low kind)

bytes_le : (code : ℕ) → length (bytes_of code) ≤ 2
unfolding bytes_of
bytes_le code = by_test (leb code 0xFF)
  where
    by_test : (t : Bool) → length (pick t (code ∷ []) (code / 256 ∷ code % 256 ∷ [])) ≤ 2
    by_test true = omega arith
    by_test false = omega arith

-- on every page, under every policy, a code of decoding writes at most one unit, one of encoding at most two bytes
pub bounded_of : (direction : Direction) (p : CodePage) (policy : Policy) → Bounded (widest direction) (converter_of direction p policy)
unfolding converter decoder encoder
bounded_of Decoding p policy =
    record {
      each = λ k. small_effect 1 unit_of policy (default_of Decoding p) k.first k.means (omega arith) (λ value. omega arith);
    }
bounded_of Encoding p policy =
    record {
      each = λ k. small_effect 2 bytes_of policy (default_of Encoding p) k.first k.means (omega arith) bytes_le;
    }

-- ---- with room for m units for each unit, no answer is 2
module _ (m : ℕ) (v : Converter) (bounded : Bounded m v) where
  roomy_take : (n room : ℕ) (k : Effect) (f : Fed) (s : Bool) → Small m k → m ≤ room → (f.answer ≡ 2 → ⊥) → (take_when s (leb (length k.writes) room) n k f).answer ≡ 2 → ⊥
  unfolding take_when stop_at after
  roomy_take n room k f true w h q e = omega arith
  roomy_take n room k f false w h q e =
      q (sym (ap (λ (t : Bool). (take_when false t n k f).answer) (le-leb (length k.writes) room (omega (arith, w.writes)))) ∙ e)

  roomy_codes : (room : ℕ) (ks : List Code) (pending : Option ℕ) → m * sizes_of ks ≤ room → (take_codes v (limit room) ks pending).answer ≡ 2 → ⊥
  unfolding take_codes take_code fits room_left halt
  roomy_codes room [] none h e = omega arith
  roomy_codes room [] (some c) h e = omega arith
  roomy_codes room (k ∷ ks) pending h e =
      let more : m * (size_of k + sizes_of ks) ≡ m + m * length k.more + m * sizes_of ks = mul-add m (size_of k) (sizes_of ks) ∙ ap (λ (n : ℕ). n + m * sizes_of ks) (omega (arith, mul-suc m (length k.more))) in
      roomy_take (size_of k) room (v.does k) _ (v.does k).stops (bounded.each k) (omega arith)
      (roomy_codes (room - length (v.does k).writes) ks pending (omega (arith, (bounded.each k).writes))) e

  -- so a call with that much room, also for a unit that is pending, takes all of its codes or is stopped
  pub roomy : (last : Bool) (room : ℕ) (p : Option ℕ) (l : List ℕ) → m * (length (as_units p) + length l) ≤ room → (feed_from v last (limit room) p l).answer ≡ 2 → ⊥
  unfolding feed_from
  roomy last room p l h e =
      let ks : List Code = call_codes v.reader last p l in
      let behind : List ℕ = as_units (left_pending v.reader last p l) in
      let all : m * (length (as_units p) + length l) ≡ m * sizes_of ks + m * length behind = ap (λ (n : ℕ). m * n) (sym (sizes_cover v.reader last p l)) ∙ mul-add m (sizes_of ks) (length behind) in
      roomy_codes room ks (left_pending v.reader last p l) (omega arith) e
