-- Laws of a chunk: it is copied from where nothing was written yet, it always fits, and what it gives is the next part of the reading.
use mathlib.Core.Bool.{Bool, true, false}
use mathlib.Core.List.{List, [], ◌++◌, append_assoc, append-nil}
use mathlib.Core.Option.{none}
use mathlib.Core.Path.{◌≡◌, refl, sym, ap, ap₂, ◌∙◌, subst}
use Prim.Native.Nat.{ℕ, zero, suc, ◌+◌, ◌-◌, ◌*◌, ◌/◌, ◌<◌, ◌≤◌, min}
use native.Mathlib.Nat.{add-zero}
use native.Mathlib.Omega.{arith}
use lib.Bits.{bit_or, or_zero_r}
use lib.Dec.{eqb, leb}
use lib.ListN.{length, take, drop, length-append, length-take, length-drop, take-append-drop, drop_of_length-le}
use lib.Seq.{length-take-le, take_at, drop_at, drop-drop, drop-append-le, take_all}
use borrow.Author.Tests.{eqb-true, eqb-false, eq-eqb, leb-true, leb-false}
use Rattle.codepage.specs.CodePage.{pick}
use Rattle.codepage.specs.Lent.{over}
use Rattle.codepage.specs.Reading.{encoder}
use Rattle.utf16.specs.Utf16.{utf16_units, LaidOver}
use Rattle.utf16.proofs.Utf16Laws.{units_length, units_drop}
use Rattle.engine.specs.declared.progress.Progress.{Progress}
use Rattle.engine.specs.declared.Direction.TheVariants.{Encoding}
use Rattle.engine.specs.declared.Policy.{Policy}
use Rattle.engine.specs.Engine.{Converter, converter, limit, endless, Fed, halt, after, feed_from, feed}
use Rattle.engine.specs.Steps.{summary, sofar, Ends}
use Rattle.engine.proofs.EngineLaws.{uncut, after_none, after_after, Cut, cut, Shape, shape_from, feed_end}
use Rattle.engine.proofs.BoundLaws.{Bounded, Kept, kept_from, roomy, bounded_of}
use Rattle.engine.proofs.LoopLaws.{later}
use Rattle.inplace.specs.Steps.{chunk_added, PartDone, ChunkDone}

-- the beginning of the call
pub part_none : (v : Converter) (before : List ℕ) → PartDone v before (record { answer = 0; used = 0; written = 0; flags = 0 }) before
unfolding sofar
part_none v before =
    record {
      going = refl;
      inside = omega arith;
      behind = omega arith;
      same = refl;
      kept = refl;
      sum = sym (after_none (feed v true endless (utf16_units before)));
    }

-- ---- what stands in the buffer
module _ (v : Converter) (before : List ℕ) (s : Progress) (buffer : List ℕ) (g : PartDone v before s buffer) where
  room_for : s.written ≤ length buffer
  room_for = omega (arith, g.inside, g.behind, g.same, units_length before)

  -- THE UNITS STILL TO BE READ ARE AS THEY WERE: nothing was written over them
  pub units_left : utf16_units (drop (2 * s.used) buffer) ≡ drop s.used (utf16_units before)
  units_left = ap utf16_units (later s.written (2 * s.used) buffer before g.behind g.kept) ∙ units_drop before s.used

  -- what was written, and then ys, over the buffer of the beginning
  laid_over : (ys : List ℕ) → take s.written buffer ++ over (drop s.written buffer) ys ≡ over before (take s.written buffer ++ ys)
  unfolding over
  laid_over ys =
      let size : length (take s.written buffer ++ ys) ≡ s.written + length ys = length-append (take s.written buffer) ys ∙ ap (λ (n : ℕ). n + length ys) (length-take-le s.written buffer room_for) in
      let behind : drop (length ys) (drop s.written buffer) ≡ drop (length (take s.written buffer ++ ys)) before =
      ap (drop (length ys)) g.kept ∙ drop-drop (length ys) s.written before ∙ ap (λ (n : ℕ). drop n before) (sym size) in
      sym (append_assoc (take s.written buffer) ys (drop (length ys) (drop s.written buffer))) ∙ ap (λ (zs : List ℕ). (take s.written buffer ++ ys) ++ zs) behind

  -- all units are read: the call ends there
  pub part_all : length (utf16_units before) ≤ s.used → Ends (feed v true endless (utf16_units before)) before buffer s
  unfolding sofar after halt summary feed over
  part_all h =
      let none_left : drop s.used (utf16_units before) ≡ [] = drop_of_length-le (utf16_units before) h in
      let all : feed v true endless (utf16_units before) ≡ sofar s buffer (halt 0) =
      g.sum ∙ ap (λ (l : List ℕ). sofar s buffer (feed v true endless l)) none_left ∙ ap (sofar s buffer) (feed_end v true endless) in
      let size : length (take s.written buffer) ≡ s.written = length-take-le s.written buffer room_for in
      rw all (record {
        result = λ i. record { answer = g.going i; used = sym (add-zero s.used) i; written = sym (ap length (append-nil (take s.written buffer)) ∙ size) i; flags = sym (or_zero_r s.flags) i };
        laid = sym (take-append-drop s.written buffer) ∙ laid_over [];
        same = g.same;
      })

-- ---- one chunk
-- a piece is within the units that are left
piece_within : (n : ℕ) (s : Progress) (buffer piece : List ℕ) → s.used < length buffer / 2 → piece ≡ take n (utf16_units (drop (2 * s.used) buffer)) → s.used + length piece ≤ length buffer / 2
piece_within n s buffer piece h e =
    let behind = length-drop (2 * s.used) buffer in
    omega (arith, ap length e, length-take n (utf16_units (drop (2 * s.used) buffer)), units_length (drop (2 * s.used) buffer), behind)

-- what it gave, added to what was before it, stays within the buffer
pub chunk_small : (n : ℕ) (v : Converter) → Bounded 2 v → (s : Progress) (buffer piece : List ℕ) (last : Bool) (room : ℕ) (made : Progress) → s.used < length buffer / 2 → s.written ≤ 2 * s.used
    → piece ≡ take n (utf16_units (drop (2 * s.used) buffer)) → made ≡ summary (feed_from v last (limit room) none piece)
    → (s.used + made.used ≤ length buffer) × (s.written + made.written ≤ length buffer)
unfolding summary
chunk_small n v bounded s buffer piece last room made h w e m =
    let formed = shape_from v last (limit room) none piece tt in
    let bounds = kept_from 2 v bounded last (limit room) none piece in
    let used : made.used ≡ (feed_from v last (limit room) none piece).used = ap (λ (x : Progress). x.used) m in
    let written : made.written ≡ length (feed_from v last (limit room) none piece).output = ap (λ (x : Progress). x.written) m in
    let inside = piece_within n s buffer piece h e in
    (omega (arith, formed.within), omega (arith, formed.within, bounds.output))

-- what a call of the loop gave on a piece of the units that are left, `last` if none is left behind it, with all the buffer behind
-- what was written as its room; and what was joined of it
pub record Chunk (n : ℕ) (v : Converter) (s : Progress) (buffer piece : List ℕ) (last : Bool) (out : List ℕ) (made : Progress) (out' buffer' : List ℕ) (r : Progress) : Type 0 where
  pub enough : 2 ≤ n
  pub some_left : s.used < length buffer / 2
  pub units : piece ≡ take n (utf16_units (drop (2 * s.used) buffer))
  pub marked : last ≡ eqb (s.used + length piece) (length buffer / 2)
  pub room : out ≡ drop s.written buffer
  pub gave : made ≡ summary (feed_from v last (limit (length out)) none piece)
  pub wrote : out' ≡ over out (feed_from v last (limit (length out)) none piece).output
  pub joined : buffer' ≡ take s.written buffer ++ out'
  pub added : r ≡ chunk_added s made

module _ (n : ℕ) (v : Converter) (bounded : Bounded 2 v) (before : List ℕ) (s : Progress) (buffer : List ℕ) (g : PartDone v before s buffer)
    (piece : List ℕ) (last : Bool) (out : List ℕ) (made : Progress) (out' buffer' : List ℕ) (r : Progress) (k : Chunk n v s buffer piece last out made out' buffer' r) where
  abbrev text : List ℕ
  text = utf16_units before

  abbrev fed : Fed
  fed = feed_from v last (limit (length out)) none piece

  -- the piece and what is left behind it
  abbrev rest : List ℕ
  rest = drop n (drop s.used text)

  piece_is : piece ≡ take n (drop s.used text)
  piece_is = k.units ∙ ap (take n) (units_left v before s buffer g)

  left_is : drop s.used text ≡ piece ++ rest
  left_is = sym (take-append-drop n (drop s.used text)) ∙ ap (λ (l : List ℕ). l ++ rest) (sym piece_is)

  piece_size : length piece ≡ min n (length text - s.used)
  piece_size = ap length piece_is ∙ length-take n (drop s.used text) ∙ ap (min n) (length-drop s.used text)

  text_size : length text ≡ length buffer / 2
  text_size = units_length before ∙ ap (λ (n : ℕ). n / 2) (sym g.same)

  -- a piece that is marked last has nothing behind it
  to_end : last ≡ true → rest ≡ []
  to_end e =
      let all : s.used + length piece ≡ length buffer / 2 = eqb-true (s.used + length piece) (length buffer / 2) (sym k.marked ∙ e) in
      let short : length (drop s.used text) ≤ n = omega (arith, length-drop s.used text, piece_size, text_size) in
      drop_of_length-le (drop s.used text) short

  -- one that is not is a full one
  full : last ≡ false → length piece ≡ n
  full e =
      let more : s.used + length piece ≡ length buffer / 2 → ⊥ = eqb-false (s.used + length piece) (length buffer / 2) (sym k.marked ∙ e) in
      by_size (leb (length text - s.used) n) refl more
    where
      by_size : (t : Bool) → leb (length text - s.used) n ≡ t → (s.used + length piece ≡ length buffer / 2 → ⊥) → length piece ≡ n
      by_size true q more = absurd (more (omega (arith, piece_size, text_size, leb-true (length text - s.used) n q, k.some_left)))
      by_size false q more = omega (arith, piece_size, leb-false (length text - s.used) n q)

  formed : Shape v last piece fed
  formed = shape_from v last (limit (length out)) none piece tt

  bounds : Kept 2 fed
  bounds = kept_from 2 v bounded last (limit (length out)) none piece

  out_size : length out ≡ length buffer - s.written
  out_size = ap length k.room ∙ length-drop s.written buffer

  -- THE PIECE ALWAYS FITS
  fits_all : fed.answer ≡ 2 → ⊥
  fits_all = roomy 2 v bounded last (length out) none piece (omega (arith, out_size, piece_size, text_size, g.behind, k.some_left))

  -- a unit at least is read
  reads : 1 ≤ fed.used
  reads = by_answer fed.answer refl
    where
      by_answer : (n : ℕ) → fed.answer ≡ n → 1 ≤ fed.used
      by_answer zero e = omega (arith, formed.all e, piece_size, text_size, k.some_left, k.enough)
      by_answer (suc zero) e = omega (arith, (formed.holds e).0, k.enough, full (formed.holds e).2)
      by_answer (suc (suc zero)) e = absurd (fits_all e)
      by_answer (suc (suc (suc n))) e = formed.reads (omega (arith, formed.known))

  -- what the reading goes on with, by the cut law
  cutting : Cut v piece rest fed (feed v true endless (piece ++ rest))
  unfolding uncut feed
  cutting = cut v last (limit (length out)) piece rest to_end

  so_far : feed v true endless text ≡ sofar s buffer (feed v true endless (piece ++ rest))
  so_far = g.sum ∙ ap (λ (l : List ℕ). sofar s buffer (feed v true endless l)) left_is

  -- the buffer after it
  laid : buffer' ≡ over before (take s.written buffer ++ fed.output)
  laid = k.joined ∙ ap (λ (l : List ℕ). take s.written buffer ++ l) (k.wrote ∙ ap (λ (l : List ℕ). over l fed.output) k.room) ∙ laid_over v before s buffer g fed.output

  -- what was written before, and now
  abbrev front : List ℕ
  front = take s.written buffer ++ fed.output

  front_size : length front ≡ s.written + length fed.output
  front_size = length-append (take s.written buffer) fed.output ∙ ap (λ (n : ℕ). n + length fed.output) (length-take-le s.written buffer (room_for v before s buffer g))

  front_inside : length front ≤ length before
  front_inside = omega (arith, front_size, bounds.output, formed.within, piece_size, text_size, g.behind, g.same, k.some_left)

  taken_front : take (s.written + length fed.output) buffer' ≡ front
  unfolding over
  taken_front = ap (take (s.written + length fed.output)) laid ∙ take_at front (drop (length front) before) (s.written + length fed.output) front_size

  kept_behind : drop (s.written + length fed.output) buffer' ≡ drop (s.written + length fed.output) before
  unfolding over
  kept_behind =
      ap (drop (s.written + length fed.output)) laid
      ∙ drop_at front (drop (length front) before) (s.written + length fed.output) front_size
      ∙ ap (λ (n : ℕ). drop n before) front_size

  same_size : length buffer' ≡ length before
  unfolding over
  same_size = ap length laid ∙ length-append front (drop (length front) before) ∙ omega (arith, length-drop (length front) before, front_inside)

  left_then : drop fed.used piece ++ rest ≡ drop (s.used + fed.used) text
  left_then = sym (drop-append-le fed.used piece rest formed.within) ∙ ap (drop fed.used) (sym left_is) ∙ drop-drop fed.used s.used text

  -- the call goes on behind the chunk
  abbrev now_at : Progress
  now_at = chunk_added s (summary fed)

  goes_on : (fed.answer ≡ 3 → ⊥) → feed v true endless text ≡ sofar now_at buffer' (feed v true endless (drop now_at.used text))
  unfolding uncut feed sofar summary
  goes_on ne =
      so_far
      ∙ ap (sofar s buffer) (cutting.goes_on ne)
      ∙ sym (after_after s.used fed.used (take s.written buffer) fed.output s.flags fed.flags (uncut v (drop fed.used piece ++ rest)))
      ∙ ap₂ (λ (ys l : List ℕ). after (s.used + fed.used) ys (bit_or s.flags fed.flags) (uncut v l)) (sym taken_front) left_then

  not_stopped : now_at.answer ≡ 0 → fed.answer ≡ 3 → ⊥
  unfolding summary
  not_stopped e q = let z : ◌≡◌ {A = ℕ} 3 0 = sym (ap (λ (b : Bool). pick b 3 0) (eq-eqb fed.answer 3 q)) ∙ e in omega arith

  stopped : (now_at.answer ≡ 0 → ⊥) → fed.answer ≡ 3
  unfolding summary
  stopped ne = by_test (eqb fed.answer 3) refl
    where
      by_test : (t : Bool) → eqb fed.answer 3 ≡ t → fed.answer ≡ 3
      by_test true q = eqb-true fed.answer 3 q
      by_test false q = absurd (ne (ap (λ (b : Bool). pick b 3 0) q))

  part_done : now_at.answer ≡ 0 → PartDone v before now_at buffer'
  unfolding summary
  part_done e =
      record {
        going = e;
        inside = omega (arith, formed.within, piece_size, text_size, k.some_left);
        behind = omega (arith, bounds.output, g.behind);
        same = same_size;
        kept = kept_behind;
        sum = goes_on (not_stopped e);
      }

  ends_there : fed.answer ≡ 3 → Ends (feed v true endless text) before buffer' now_at
  unfolding summary sofar after
  ends_there q =
      let all : feed v true endless text ≡ sofar s buffer fed = so_far ∙ ap (sofar s buffer) (cutting.stopped q) in
      let answer : pick (eqb fed.answer 3) 3 0 ≡ fed.answer = ap (λ (b : Bool). pick b 3 0) (eq-eqb fed.answer 3 q) ∙ sym q in
      rw all (record {
        result = λ i. record { answer = answer i; used = s.used + fed.used; written = sym front_size i; flags = bit_or s.flags fed.flags };
        laid = laid;
        same = same_size;
      })

  -- A CHUNK IS THE NEXT PART OF THE READING, or stops it.
  pub chunk_done : ChunkDone v before s buffer' r
  unfolding summary
  chunk_done =
      let is : r ≡ now_at = k.added ∙ ap (chunk_added s) k.gave in
      subst (λ (x : Progress). ChunkDone v before s buffer' x) (sym is)
      (record { further = omega (arith, reads); goes = part_done; ends = λ ne. ends_there (stopped ne) })

-- ---- the same, in the terms of the program: parts of slices, and units laid over an array
-- the part of a list from a place to its end
part_rest : (a : ℕ) (l : List ℕ) → take (length l - a) (drop a l) ≡ drop a l
part_rest a l = take_all (length l - a) (drop a l) (omega (arith, length-drop a l))

-- nothing is behind it
part_behind : (a : ℕ) (l : List ℕ) → drop (length l - a) (drop a l) ≡ []
part_behind a l =
    let all : length (drop a l) ≤ length l - a = omega (arith, length-drop a l) in
    drop_of_length-le (drop a l) all

-- a code of encoding writes at most two bytes
pub encodes_small : (index blocks : List ℕ) (policy : Policy) (default : ℕ) → Bounded 2 (converter (encoder index blocks) policy default)
encodes_small index blocks policy default =
    bounded_of Encoding (record { page = 0; default_byte = default; default_unit = 0; classes = []; singles = []; pairs = []; index = index; blocks = blocks }) policy

module _ (s : Progress) (buffer chunk units : List ℕ) (count : ℕ)
    (copied : LaidOver (take (length chunk) (utf16_units (take (length buffer - 2 * s.used) (drop (2 * s.used) buffer)))) chunk units count) where
  copied_is : take (length chunk) (utf16_units (take (length buffer - 2 * s.used) (drop (2 * s.used) buffer))) ≡ take (length chunk) (utf16_units (drop (2 * s.used) buffer))
  copied_is = ap (λ (l : List ℕ). take (length chunk) (utf16_units l)) (part_rest (2 * s.used) buffer)

  -- the piece that is lent
  pub piece_copied : take count units ≡ take (length chunk) (utf16_units (drop (2 * s.used) buffer))
  unfolding over
  piece_copied =
      ap (take count) copied.lent
      ∙ take_at (take (length chunk) (utf16_units (take (length buffer - 2 * s.used) (drop (2 * s.used) buffer)))) _ count (sym copied.size)
      ∙ copied_is

  piece_count : length (take count units) ≡ count
  piece_count = ap length piece_copied ∙ sym (ap length copied_is) ∙ sym copied.size

  abbrev out_of : List ℕ
  out_of = take (length buffer - s.written) (drop s.written buffer)

  -- a turn of the call
  pub chunk_from : (v : Converter) → Bounded 2 v → (before out' : List ℕ) (made r : Progress) → PartDone v before s buffer → 2 ≤ length chunk → s.used < length buffer / 2
      → made ≡ summary (feed_from v (eqb (s.used + count) (length buffer / 2)) (limit (length out_of)) none (take count units))
      → out' ≡ over out_of (feed_from v (eqb (s.used + count) (length buffer / 2)) (limit (length out_of)) none (take count units)).output
      → r ≡ chunk_added s made → ChunkDone v before s (take s.written buffer ++ (out' ++ drop (length buffer - s.written) (drop s.written buffer))) r
  chunk_from v bounded before out' made r g l h m w a =
      chunk_done (length chunk) v bounded before s buffer g (take count units) (eqb (s.used + count) (length buffer / 2)) out_of made out' _ r
      (record {
        enough = l;
        some_left = h;
        units = piece_copied;
        marked = ap (λ (n : ℕ). eqb (s.used + n) (length buffer / 2)) (sym piece_count);
        room = part_rest s.written buffer;
        gave = m;
        wrote = w;
        joined = ap (λ (l : List ℕ). take s.written buffer ++ (out' ++ l)) (part_behind s.written buffer) ∙ ap (λ (l : List ℕ). take s.written buffer ++ l) (append-nil out');
        added = a;
      })
