-- The turns and the ends of a loop that counts, over any converter: nothing is written, and room never ends.
use mathlib.Core.Bool.{Bool, true, false, false≢true}
use mathlib.Core.List.{List, [], ◌++◌, append-nil}
use mathlib.Core.Option.{none}
use mathlib.Core.Path.{◌≡◌, refl, sym, ap, ap₂, ◌∙◌, subst}
use Prim.Native.Nat.{ℕ, zero, suc, ◌+◌, ◌-◌, ◌^◌, ◌<◌, ◌≤◌}
use native.Mathlib.Nat.{add-zero}
use native.Mathlib.Omega.{arith}
use lib.Dec.{eqb, ltb}
use borrow.Author.Tests.{ltb-true, ltb-false}
use lib.ListN.{length, get_or, drop, length-append}
use lib.Bits.{or_zero_r}
use Rattle.codepage.specs.CodePage.{pick}
use Rattle.codepage.specs.Reading.{Reader, settled}
use Rattle.codepage.proofs.ReadingLaws.{more_le}
use Rattle.engine.specs.declared.Policy.{Policy}
use Rattle.engine.specs.declared.policies.CodeEffect.{CodeEffect}
use Rattle.engine.specs.declared.progress.Progress.{Progress}
use Rattle.engine.specs.Engine.{Effect, Converter, converter, endless, fits, room_left, Fed, halt, after, stop_at, take_when, take_code, feed_from}
use Rattle.engine.specs.Steps.{unit_effect, byte_effect, summary, optional, one_if, stopped_by, taken_by, does_alone, does_settled}
use Rattle.engine.proofs.EngineLaws.{after_none, after_after, feed_end, feed_last}
use Rattle.engine.proofs.TurnLaws.{no_more, wait_step, settled_step, one_step}
use Rattle.engine_fastpath.specs.Counts.{Met}
use Rattle.engine_loops.specs.declared.turns.Turn.{Turn}
use Rattle.engine_loops.specs.Turns.{start_turn, moved_turn, past_turn, wait_turn, steps_left}
use Rattle.engine_loops.specs.Counts.{Came, Counting, CountTurn}
use Rattle.engine_loops.proofs.TurnedLaws.{wait_falls}

-- counting begins: no code is met, and no unit waits
pub count_start : (v : Converter) (text : List ℕ) {t : Turn} → length text < 2 ^ 63 → t ≡ start_turn false 0 → Counting v text t
count_start v text h q =
    subst (Counting v text) (sym q)
    (record {
      inside = omega arith;
      short = h;
      few = omega arith;
      little = omega arith;
      pending_waits = λ e. absurd (false≢true e);
      zero_so_far = refl;
      ys = [];
      count = refl;
      sum = sym (after_none _);
    })

-- ---- one code with room that never ends
code_stop : (n : ℕ) (k : Effect) (rest : Fed) → k.stops ≡ true → take_code endless n k rest ≡ stop_at n k
unfolding take_code take_when
code_stop n k rest e = rw e

code_taken : (n : ℕ) (k : Effect) (rest : Fed) → k.stops ≡ false → take_code endless n k rest ≡ after n k.writes k.flag rest
unfolding take_code take_when fits
code_taken n k rest e = rw e

-- a call ends with these numbers
summary_stop : (F : Fed) (s : Progress) (ys : List ℕ) (n : ℕ) (k : Effect) → length ys ≡ s.written → F ≡ after s.used ys s.flags (stop_at n k) → stopped_by k.flag n s ≡ summary F
unfolding summary after stop_at
summary_stop F s ys n k c e = rw (e, append-nil, c)

summary_end : (F : Fed) (s : Progress) (ys : List ℕ) → s.answer ≡ 0 → length ys ≡ s.written → F ≡ after s.used ys s.flags (halt 0) → s ≡ summary F
unfolding summary after halt
summary_end F s ys z c e = rw (e, append-nil, c, add-zero, or_zero_r) (λ i. record { answer = z i; used = s.used; written = s.written; flags = s.flags })

picked_taken : (b : Bool) (x y : Progress) → (x.answer ≡ 0 → ⊥) → (pick b x y).answer ≡ 0 → (b ≡ false) × (pick b x y ≡ y)
picked_taken true x y h e = absurd (h e)
picked_taken false x y h e = (refl, refl)

picked_stop : (b : Bool) (x y : Progress) → y.answer ≡ 0 → ((pick b x y).answer ≡ 0 → ⊥) → (b ≡ true) × (pick b x y ≡ x)
picked_stop true x y h e = (refl, refl)
picked_stop false x y h e = absurd (e h)

module _ {k : Effect} {n : ℕ} {s r : Progress} (came : Came k n s r) where
  came_taken : r.answer ≡ 0 → (k.stops ≡ false) × (r ≡ taken_by k.flag n s (length k.writes))
  came_taken z =
      let q = picked_taken k.stops (stopped_by k.flag n s) (taken_by k.flag n s (length k.writes)) (λ y. omega arith) (sym (ap (λ (x : Progress). x.answer) came.to) ∙ z) in
      (q.0, came.to ∙ q.1)

  came_stop : (r.answer ≡ 0 → ⊥) → (k.stops ≡ true) × (r ≡ stopped_by k.flag n s)
  came_stop z =
      let q = picked_stop k.stops (stopped_by k.flag n s) (taken_by k.flag n s (length k.writes)) refl (λ y. z (ap (λ (x : Progress). x.answer) came.to ∙ y)) in
      (q.0, came.to ∙ q.1)

-- `Came` holds of an equal effect too
pub came_as : {k k' : Effect} {n : ℕ} {s r : Progress} → k ≡ k' → Came k n s r → Came k' n s r
came_as {n = n} {s = s} {r = r} e c = subst (λ (x : Effect). Came x n s r) e c

-- ---- what counting has come to
-- a turn nearer to the end, and then another
pub turn_then : {v : Converter} {text : List ℕ} {t m r : Turn} → steps_left text m ≤ steps_left text t → CountTurn v text m r → CountTurn v text t r
turn_then h c = record { left = omega (arith, c.left); last = c.last; goes = c.goes; ends = c.ends }

-- within a text no unit waits
pub none_waits : {waits : Bool} {i n : ℕ} → (waits ≡ true → n ≤ i) → i < n → waits ≡ false
none_waits {waits = true} w h = absurd (omega (arith, w refl))
none_waits {waits = false} w h = refl

module _ {v : Converter} {text : List ℕ} {t : Turn} (g : Counting v text t) where
  -- nothing was done
  pub count_none : t.waits ≡ false → CountTurn v text t t
  count_none e = record { left = omega arith; last = λ w. absurd (false≢true (sym e ∙ w)); goes = λ z. g; ends = λ z. absurd (z g.zero_so_far) }

  -- the unit waits
  module _ {r : Turn} (e : t.waits ≡ false) (h : t.at < length text) (w : v.reader.waits (get_or text t.at 0) ≡ true) (q : r ≡ wait_turn t (get_or text t.at 0)) where
    -- counting goes on with the unit that waits
    pub count_wait : Counting v text r
    count_wait =
        subst (Counting v text) (sym q)
        (record {
          inside = omega arith;
          short = g.short;
          few = omega (arith, g.few, ap one_if e);
          little = g.little;
          pending_waits = λ y. w;
          zero_so_far = g.zero_so_far;
          ys = g.ys;
          count = g.count;
          sum = g.sum ∙ ap (after t.progress.used g.ys t.progress.flags) (wait_step v true text t.at h t.waits t.first e w endless);
        })

    -- it is the text's last
    pub count_waits : length text ≤ r.at → CountTurn v text t r
    count_waits l =
        record {
          left = omega (arith, wait_falls text t q h);
          last = λ y. l;
          goes = λ z. count_wait;
          ends = λ z. absurd (z count_wait.zero_so_far);
        }

  -- a code of n units is counted, or ends the counting
  module _ {k : Effect} {s : Progress} {n : ℕ} (came : Came k n t.progress s) (rest : List ℕ)
      (step : feed_from v true endless (optional t.waits t.first) (drop t.at text) ≡ take_code endless n k (feed_from v true endless none rest)) where
    code_sum : s.answer ≡ 0 → feed_from v true endless none text ≡ after s.used (g.ys ++ k.writes) s.flags (feed_from v true endless none rest)
    code_sum z =
        let f = came_taken came z in
        g.sum ∙ ap (after t.progress.used g.ys t.progress.flags) (step ∙ code_taken n k _ f.0)
        ∙ sym (after_after t.progress.used n g.ys k.writes t.progress.flags k.flag _)
        ∙ ap (λ (x : Progress). after x.used (g.ys ++ k.writes) x.flags (feed_from v true endless none rest)) (sym f.1)

    code_count : s.answer ≡ 0 → length (g.ys ++ k.writes) ≡ s.written
    code_count z =
        length-append g.ys k.writes ∙ ap (λ (m : ℕ). m + length k.writes) g.count ∙ ap (λ (x : Progress). x.written) (sym (came_taken came z).1)

    code_ends : (s.answer ≡ 0 → ⊥) → s ≡ summary (feed_from v true endless none text)
    code_ends z =
        let f = came_stop came z in
        f.1
        ∙ summary_stop _ t.progress g.ys n k g.count (g.sum ∙ ap (after t.progress.used g.ys t.progress.flags) (step ∙ code_stop n k _ f.0))

  -- it ends m units on
  count_code : {k : Effect} {s : Progress} {r : Turn} (n m : ℕ) → Came k n t.progress s → 1 ≤ n → t.at + m ≤ length text → n ≤ m + one_if t.waits
      → feed_from v true endless (optional t.waits t.first) (drop t.at text) ≡ take_code endless n k (feed_from v true endless none (drop (t.at + m) text))
      → r ≡ past_turn t m s → CountTurn v text t r
  count_code {k} {s} n m came some h fit step q =
      subst (CountTurn v text t) (sym q)
      (record {
        left = omega arith;
        last = λ y. absurd (false≢true y);
        goes = λ z.
            let f = (came_taken came z).1 in
            record {
              inside = h;
              short = g.short;
              few = omega (arith, g.few, fit, ap (λ (x : Progress). x.used) f);
              little = omega (arith, g.little, came.short, ap (λ (x : Progress). x.used) f, ap (λ (x : Progress). x.written) f);
              pending_waits = λ y. absurd (false≢true y);
              zero_so_far = z;
              ys = g.ys ++ k.writes;
              count = code_count came (drop (t.at + m) text) step z;
              sum = code_sum came (drop (t.at + m) text) step z;
            };
        ends = code_ends came (drop (t.at + m) text) step;
      })

  module _ {k : Effect} {s : Progress} {r : Turn} where
    -- a code of one unit
    pub count_one : Came k 1 t.progress s → t.waits ≡ false → t.at < length text → v.reader.waits (get_or text t.at 0) ≡ false → k ≡ does_alone v (get_or text t.at 0)
        → r ≡ past_turn t 1 s → CountTurn v text t r
    unfolding room_left
    count_one c e h w q p = count_code 1 1 c (omega arith) (omega arith) (omega arith) (one_step v true text t.at k h t.waits t.first e w q endless) p

    -- the pending unit is settled by the next
    pub count_settled : {m : ℕ} → Came k (1 + m) t.progress s → t.waits ≡ true → t.at < length text → k ≡ does_settled v t.first (get_or text t.at 0)
        → m ≡ length (settled v.reader t.first (get_or text t.at 0)).more → r ≡ past_turn t m s → CountTurn v text t r × (steps_left text r < steps_left text t)
    unfolding room_left
    count_settled {m} c e h q n p =
        let most : m ≤ 1 = omega (arith, n, more_le v.reader t.first (get_or text t.at 0)) in (
          count_code (1 + m) m c (omega arith) (omega arith) (omega (arith, ap one_if e)) (settled_step v true text t.at k h t.waits t.first m e q n endless) p,
          subst (λ (x : Turn). steps_left text x < steps_left text t) (sym p) (omega (arith, ap one_if e)),
        )

  -- the ends
  pub count_end : t.waits ≡ false → length text ≤ t.at → t.progress ≡ summary (feed_from v true endless none text)
  count_end e h = summary_end _ t.progress g.ys g.zero_so_far g.count (rw (e, no_more t.at text h, feed_end v true endless) at g.sum)

  -- a unit that waits at the text's end is a code alone: what counting gives
  pub count_last : {k : Effect} {r : Progress} → Came k 1 t.progress r → t.waits ≡ true → length text ≤ t.at → k ≡ does_alone v t.first → r ≡ summary (feed_from v true endless none text)
  count_last {k} {r} c e h q = by_answer r.answer refl
    where
      step : feed_from v true endless (optional t.waits t.first) (drop t.at text) ≡ take_code endless 1 k (feed_from v true endless none [])
      step = rw (e, no_more t.at text h, q, feed_end v true endless) (feed_last v endless t.first)

      by_answer : (n : ℕ) → r.answer ≡ n → r ≡ summary (feed_from v true endless none text)
      by_answer zero z = summary_end _ r (g.ys ++ k.writes) z (code_count c [] step z) (rw (feed_end v true endless) at (code_sum c [] step z))
      by_answer (suc n) z = code_ends c [] step (λ y. omega arith)

-- ---- codes that have characters are met
module _ (policy : Policy) (default : ℕ) {R : Reader} {text : List ℕ} {t r : Turn} {i n : ℕ} (g : Counting (converter R policy default) text t) (e : t.waits ≡ false) (m : Met R text t.at i n)
    (q : r ≡ moved_turn t i (t.progress.written + n)) where
  -- counting has come past them
  pub count_met : Counting (converter R policy default) text r
  count_met =
      let rest = feed_from (converter R policy default) true endless none (drop i text) in
      subst (Counting (converter R policy default) text) (sym q)
      (record {
        inside = m.inside;
        short = g.short;
        few = omega (arith, g.few, m.ahead);
        little = omega (arith, g.little, m.little);
        pending_waits = λ y. absurd (false≢true y);
        zero_so_far = refl;
        ys = g.ys ++ m.ys;
        count = length-append g.ys m.ys ∙ ap (λ (x : ℕ). x + length m.ys) g.count ∙ ap (λ (x : ℕ). t.progress.written + x) m.count;
        sum = rw e at g.sum ∙ ap (after t.progress.used g.ys t.progress.flags) (m.goes policy default)
            ∙ sym (after_after t.progress.used (i - t.at) g.ys m.ys t.progress.flags 0 rest)
            ∙ ap (λ (f : ℕ). after (t.progress.used + (i - t.at)) (g.ys ++ m.ys) f rest) (or_zero_r t.progress.flags);
      })

  -- and the code behind them
  pub met_then : {u : Turn} → t.at < length text → CountTurn (converter R policy default) text r u → (r.at < length text → steps_left text u < steps_left text r)
      → CountTurn (converter R policy default) text t u × (steps_left text u < steps_left text t)
  met_then {u} h c falls = (turn_then (omega (arith, m.ahead, at, ap one_if no_wait)) c, by_end (ltb r.at (length text)) refl)
    where
      at : r.at ≡ i
      at = ap (λ (x : Turn). x.at) q

      no_wait : r.waits ≡ false
      no_wait = ap (λ (x : Turn). x.waits) q

      by_end : (b : Bool) → ltb r.at (length text) ≡ b → steps_left text u < steps_left text t
      by_end true y = omega (arith, falls (ltb-true r.at (length text) y), m.ahead, at, ap one_if no_wait)
      by_end false y = omega (arith, ltb-false r.at (length text) y, c.left, at, ap one_if no_wait)

-- a whole text of them
pub count_whole : (policy : Policy) (default : ℕ) {R : Reader} {text : List ℕ} → length text < 2 ^ 63 → Met R text 0 (length text) (length text)
    → record { answer = 0; used = length text; written = length text; flags = 0 } ≡ summary (feed_from (converter R policy default) true endless none text)
count_whole policy default {R} {text} h m =
    let read : length text ≡ 0 + (length text - 0) = omega arith in
    let wrote : length text ≡ 0 + length text = omega arith in
    ap₂ (λ (u w : ℕ). record { answer = 0; used = u; written = w; flags = 0 }) read wrote
    ∙ count_end (count_met policy default (count_start (converter R policy default) text h refl) refl m refl) refl (omega arith)

-- ---- the program's numbers
module _ (d : CodeEffect) where
  units_by_lem : (t : Bool) → eqb d.count 0 ≡ t → length (unit_effect d).writes ≤ 1
  unfolding unit_effect
  units_by_lem true e = rw e (omega arith)
  units_by_lem false e = rw e (omega arith)

  pub units_least : length (unit_effect d).writes ≤ 1
  units_least = units_by_lem (eqb d.count 0) refl

  -- a code of decoding writes at most two, as `Came` asks of every code
  pub units_short : length (unit_effect d).writes ≤ 2
  units_short = omega (arith, units_least)

  bytes_by_lem : (t₁ t₂ : Bool) → eqb d.count 0 ≡ t₁ → eqb d.count 1 ≡ t₂ → length (byte_effect d).writes ≤ 2
  unfolding byte_effect
  bytes_by_lem true t₂ e₁ e₂ = rw e₁ (omega arith)
  bytes_by_lem false true e₁ e₂ = rw (e₁, e₂) (omega arith)
  bytes_by_lem false false e₁ e₂ = rw (e₁, e₂) (omega arith)

  -- a code of encoding writes at most two bytes
  pub bytes_short : length (byte_effect d).writes ≤ 2
  bytes_short = bytes_by_lem (eqb d.count 0) (eqb d.count 1) refl refl

  -- a code of decoding: the program's numbers are where counting comes to
  pub came_units : (n : ℕ) (s r : Progress) (count : ℕ) → count ≡ length (unit_effect d).writes → r ≡ pick d.stops (stopped_by d.flag n s) (taken_by d.flag n s count) → Came (unit_effect d) n s r
  unfolding unit_effect
  came_units n s r count e q = record { short = units_short; to = q ∙ ap (λ (m : ℕ). pick d.stops (stopped_by d.flag n s) (taken_by d.flag n s m)) e }

  -- a code of encoding: the program's numbers are where counting comes to
  pub came_bytes : (n : ℕ) (s r : Progress) (count : ℕ) → count ≡ length (byte_effect d).writes → r ≡ pick d.stops (stopped_by d.flag n s) (taken_by d.flag n s count) → Came (byte_effect d) n s r
  unfolding byte_effect
  came_bytes n s r count e q = record { short = bytes_short; to = q ∙ ap (λ (m : ℕ). pick d.stops (stopped_by d.flag n s) (taken_by d.flag n s m)) e }
