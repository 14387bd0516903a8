-- One step of the engine at an index of a piece, over any converter.
use mathlib.Core.Bool.{Bool, true, false}
use mathlib.Core.List.{List, [], ◌∷◌}
use mathlib.Core.Option.{none, some}
use mathlib.Core.Path.{◌≡◌}
use Prim.Native.Nat.{ℕ, ◌+◌, ◌<◌, ◌≤◌}
use native.Mathlib.Numerals.{add-one}
use native.Mathlib.Omega.{arith}
use lib.ListN.{length, get_or, drop, drop_of_length-le}
use lib.Seq.{drop-cons, drop-drop}
use Rattle.codepage.specs.Reading.{size_of, settled}
use Rattle.engine.specs.Engine.{Effect, Converter, Room, room_left, take_code, feed_from}
use Rattle.engine.specs.Steps.{optional, does_alone, does_settled}
use Rattle.engine.proofs.EngineLaws.{feed_wait, feed_one, feed_settled}

next : (i : ℕ) (l : List ℕ) → i < length l → drop i l ≡ get_or l i 0 ∷ drop (i + 1) l
next i l h = rw (add-one, drop-cons l i 0)

-- from the end of a piece on no unit is left
pub no_more : (i : ℕ) (l : List ℕ) → length l ≤ i → drop i l ≡ []
no_more i l h = drop_of_length-le l h

-- ---- the code at index i of a piece, in any room
module _ (v : Converter) (last : Bool) (piece : List ℕ) (i : ℕ) (k : Effect) (h : i < length piece) where
  -- a unit waits, and the one at the index settles it
  pub settled_step : (waits : Bool) (first m : ℕ) → waits ≡ true → k ≡ does_settled v first (get_or piece i 0) → m ≡ length (settled v.reader first (get_or piece i 0)).more → (room : Room)
      → feed_from v last room (optional waits first) (drop i piece) ≡ take_code room (1 + m) k (feed_from v last (room_left room (length k.writes)) none (drop (i + m) piece))
  settled_step waits first m e q n room =
      let s = settled v.reader first (get_or piece i 0) in
      let size : size_of s ≡ 1 + m = omega (arith, n) in
      let left : drop (length s.more) (get_or piece i 0 ∷ drop (i + 1) piece) ≡ drop (i + m) piece = rw (← next i piece h, ← n) (drop-drop m i piece) in
      rw (e, next i piece h, q, ← size, ← left) (feed_settled v last room first (get_or piece i 0) (drop (i + 1) piece))

  -- no unit waits, and the one at the index is a code alone
  pub one_step : (waits : Bool) (first : ℕ) → waits ≡ false → v.reader.waits (get_or piece i 0) ≡ false → k ≡ does_alone v (get_or piece i 0) → (room : Room)
      → feed_from v last room (optional waits first) (drop i piece) ≡ take_code room 1 k (feed_from v last (room_left room (length k.writes)) none (drop (i + 1) piece))
  one_step waits first e w q room = rw (e, next i piece h, q) (feed_one v last room (get_or piece i 0) (drop (i + 1) piece) w)

-- no unit waits, and the one at the index waits from then on
pub wait_step : (v : Converter) (last : Bool) (piece : List ℕ) (i : ℕ) → i < length piece → (waits : Bool) (first : ℕ) → waits ≡ false → v.reader.waits (get_or piece i 0) ≡ true → (room : Room)
    → feed_from v last room (optional waits first) (drop i piece) ≡ feed_from v last room (some (get_or piece i 0)) (drop (i + 1) piece)
wait_step v last piece i h waits first e w room = rw (e, next i piece h) (feed_wait v last room (get_or piece i 0) (drop (i + 1) piece) w)
