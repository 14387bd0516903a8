-- The turns of a loop, one after the other, and what a loop keeps, over any converter.
use mathlib.Core.Bool.{Bool, true, false, false≢true}
use mathlib.Core.List.{List, [], append-nil}
use mathlib.Core.Option.{Option, none, some}
use mathlib.Core.Path.{◌≡◌, refl, sym, ap, ◌∙◌, subst}
use Prim.Native.Nat.{ℕ, zero, suc, ◌+◌, ◌-◌, ◌<◌, ◌≤◌}
use native.Mathlib.Nat.{add-zero}
use native.Mathlib.Omega.{arith}
use lib.ListN.{length, get_or, drop, take-append-drop}
use lib.Seq.{length-take-le}
use lib.Bits.{or_zero_r}
use lib.Dec.{ltb}
use borrow.Author.Tests.{ltb-true, ltb-false}
use Rattle.codepage.specs.Lent.{over}
use Rattle.codepage.specs.Reading.{Reader, settled}
use Rattle.codepage.proofs.ReadingLaws.{more_le}
use Rattle.engine.specs.declared.Policy.{Policy}
use Rattle.engine.specs.declared.progress.Progress.{Progress}
use Rattle.engine.specs.Engine.{Effect, Converter, converter, Room, limit, room_left, Fed, halt, after, take_code, feed_from}
use Rattle.engine.specs.Steps.{sofar, ended, summary, Took, Ends, optional, one_if, does_alone, does_settled}
use Rattle.engine.specs.Pending.{waiting}
use Rattle.std.proofs.Common as std
use Rattle.std.proofs.Common.{Some, None}
use Rattle.std.specs.Option.{is_some}
use Rattle.engine.proofs.EngineLaws.{after_none, feed_end, feed_last, feed_stays}
use Rattle.engine.proofs.LoopLaws.{later}
use Rattle.engine.proofs.TurnLaws.{one_step, settled_step, wait_step, no_more}
use Rattle.engine_fastpath.specs.Runs.{Ran}
use Rattle.engine_loops.specs.declared.turns.Turn.{Turn}
use Rattle.engine_loops.specs.Turns.{start_turn, first_turn, moved_turn, past_turn, wait_turn, stays_pending, steps_left, Ready, rest_of, Turned, Advanced, Settled, Closed, Loop}

-- `Took` holds of an equal effect too
pub took_as : {k k' : Effect} {n : ℕ} {s : Progress} {out : List ℕ} {r : Progress} {out' : List ℕ} → k ≡ k' → Took k n s out r out' → Took k' n s out r out'
took_as {n = n} {s = s} {out = out} {r = r} {out' = out'} e w = subst (λ (x : Effect). Took x n s out r out') e w

-- a turn past one unit comes nearer to the end
pub past_falls : (piece : List ℕ) (t : Turn) {r : Turn} {s : Progress} → r ≡ past_turn t 1 s → t.at < length piece → steps_left piece r < steps_left piece t
past_falls piece t {r} q h = subst (λ (x : Turn). steps_left piece x < steps_left piece t) (sym q) (omega arith)

-- so does a turn on a unit that waits from then on
pub wait_falls : (piece : List ℕ) (t : Turn) {r : Turn} {first : ℕ} → r ≡ wait_turn t first → t.at < length piece → steps_left piece r < steps_left piece t
wait_falls piece t {r} q h = subst (λ (x : Turn). steps_left piece x < steps_left piece t) (sym q) (omega arith)

-- behind a code of one unit a loop can go on, where the call has not ended
pub one_ready : {k : Effect} {piece out : List ℕ} {t : Turn} {s : Progress} {out' : List ℕ} {r : Turn} → Took k 1 t.progress out s out' → t.at < length piece → Ready piece out t → r ≡ past_turn t 1 s
    → r.progress.answer ≡ 0 → Ready piece out' r
one_ready {piece = piece} {out' = out'} u h g q z =
    subst (λ (x : Turn). x.progress.answer ≡ 0 → Ready piece out' x) (sym q)
    (λ y. record { going = y; inside = omega arith; within = u.within; few = omega (arith, g.few, (u.more y).1) }) z

-- ---- one turn
module _ {v : Converter} {piece out : List ℕ} {t : Turn} where
  -- nothing was done
  pub turned_none : t.progress.answer ≡ 0 → t.progress.written ≤ length out → (t.waits ≡ true → v.reader.waits t.first ≡ true) → Turned v piece out t out t
  turned_none z h w =
      record {
        same = refl;
        within = h;
        grows = omega arith;
        kept = refl;
        left = omega arith;
        ready = λ y g. g;
        pending_waits = w;
        goes = λ y last. refl;
        ends = λ y. absurd (y z);
      }

  -- the unit waits
  pending_turn : t.progress.answer ≡ 0 → t.progress.written ≤ length out → t.waits ≡ false → t.at < length piece → v.reader.waits (get_or piece t.at 0) ≡ true
      → Turned v piece out t out (wait_turn t (get_or piece t.at 0))
  unfolding rest_of
  pending_turn z f e h w =
      record {
        same = refl;
        within = f;
        grows = omega arith;
        kept = refl;
        left = omega arith;
        ready = λ y g. record { going = z; inside = omega arith; within = f; few = omega (arith, g.few) };
        pending_waits = λ y. w;
        goes = λ y last. ap (sofar t.progress out) (wait_step v last piece t.at h t.waits t.first e w (limit (length out - t.progress.written)));
        ends = λ y. absurd (y z);
      }

  -- the unit at the turn's index waits from then on
  pub turned_wait : {r : Turn} → t.progress.answer ≡ 0 → t.progress.written ≤ length out → t.waits ≡ false → t.at < length piece → v.reader.waits (get_or piece t.at 0) ≡ true
      → r ≡ wait_turn t (get_or piece t.at 0) → Turned v piece out t out r
  turned_wait z f e h w q = subst (Turned v piece out t out) (sym q) (pending_turn z f e h w)

  -- a code of n units is taken that ends m units on, or ends the call
  turned_took : {k : Effect} {s : Progress} {out' : List ℕ} (n m : ℕ) → Took k n t.progress out s out' → t.at + m ≤ length piece → n ≤ m + one_if t.waits
      → ((last : Bool) (room : Room)
      → feed_from v last room (optional t.waits t.first) (drop t.at piece) ≡ take_code room n k (feed_from v last (room_left room (length k.writes)) none (drop (t.at + m) piece)))
      → Turned v piece out t out' (past_turn t m s)
  unfolding rest_of room_left
  turned_took {k} {s} {out'} n m w h fit step =
      record {
        same = w.same;
        within = w.within;
        grows = w.grows;
        kept = w.kept;
        left = omega arith;
        ready = λ z g. record { going = z; inside = omega arith; within = w.within; few = omega (arith, g.few, (w.more z).1, fit) };
        pending_waits = λ y. absurd (false≢true y);
        goes = λ z last.
            let room : length out - t.progress.written - length k.writes ≡ length out' - s.written = omega (arith, (w.more z).0, w.same) in
            ap (sofar t.progress out) (step last (limit (length out - t.progress.written))) ∙ w.goes z _
            ∙ ap (λ (x : ℕ). sofar s out' (feed_from v last (limit x) none (drop (t.at + m) piece))) room;
        ends = λ z last. ap (sofar t.progress out) (step last (limit (length out - t.progress.written))) ∙ w.ends z _;
      }

  module _ {k : Effect} {s : Progress} {out' : List ℕ} {r : Turn} where
    -- the unit at the turn's index is a code alone
    pub turned_one : Took k 1 t.progress out s out' → t.waits ≡ false → t.at < length piece → v.reader.waits (get_or piece t.at 0) ≡ false → k ≡ does_alone v (get_or piece t.at 0)
        → r ≡ past_turn t 1 s → Turned v piece out t out' r
    turned_one u e h w q m =
        subst (Turned v piece out t out') (sym m) (turned_took 1 1 u (omega arith) (omega arith) (λ last. one_step v last piece t.at k h t.waits t.first e w q))

    -- and the turn comes nearer to the end
    pub advanced_one : Took k 1 t.progress out s out' → t.waits ≡ false → t.at < length piece → v.reader.waits (get_or piece t.at 0) ≡ false → k ≡ does_alone v (get_or piece t.at 0)
        → r ≡ past_turn t 1 s → Advanced v piece out t out' r
    advanced_one u e h w q m = record { turned = turned_one u e h w q m; falls = past_falls piece t m h }

    -- the unit that waits is settled by the next
    pub settled_turn : {m : ℕ} → Took k (1 + m) t.progress out s out' → t.waits ≡ true → t.at < length piece → k ≡ does_settled v t.first (get_or piece t.at 0)
        → m ≡ length (settled v.reader t.first (get_or piece t.at 0)).more → r ≡ past_turn t m s → Advanced v piece out t out' r
    settled_turn {m} u e h q n p =
        let little : m ≤ 1 = omega (arith, n, more_le v.reader t.first (get_or piece t.at 0)) in
        record {
          turned = subst (Turned v piece out t out') (sym p)
              (turned_took (1 + m) m u (omega arith) (omega (arith, ap one_if e)) (λ last. settled_step v last piece t.at k h t.waits t.first m e q n));
          falls = subst (λ (x : Turn). steps_left piece x < steps_left piece t) (sym p) (omega (arith, ap one_if e));
        }

-- codes that have characters are taken
pub turned_ran : (policy : Policy) (default : ℕ) {R : Reader} {piece out : List ℕ} {t : Turn} {out' : List ℕ} {i w : ℕ} → t.waits ≡ false → Ran R piece out t.at t.progress.written out' i w
    → Turned (converter R policy default) piece out t out' (moved_turn t i w)
unfolding rest_of
turned_ran policy default {R} {piece} {out} {t} {out'} {i} {w} e a =
    let from : Bool → Bool → Fed = λ last waits. sofar t.progress out (feed_from (converter R policy default) last (limit (length out - t.progress.written)) (optional waits t.first) (drop t.at piece)) in
    record {
      same = a.same;
      within = a.within;
      grows = a.grows;
      kept = a.kept;
      left = omega (arith, a.ahead);
      ready = λ z g. record { going = refl; inside = a.inside; within = a.within; few = omega (arith, g.few, a.ahead) };
      pending_waits = λ y. absurd (false≢true y);
      goes = λ z last. ap (from last) e ∙ a.goes policy default last t.progress refl;
      ends = λ z. absurd (z refl);
    }

-- one turn, and then another
turned_then : {v : Converter} {piece out : List ℕ} {t : Turn} {out₁ : List ℕ} {m : Turn} {out₂ : List ℕ} {r : Turn} → Turned v piece out t out₁ m → m.progress.answer ≡ 0
    → Turned v piece out₁ m out₂ r → Turned v piece out t out₂ r
turned_then {out = out} {out₁ = out₁} {m = m} {r = r} a z b =
    record {
      same = b.same ∙ a.same;
      within = b.within;
      grows = omega (arith, a.grows, b.grows);
      kept = b.kept ∙ later m.progress.written r.progress.written out₁ out b.grows a.kept;
      left = omega (arith, a.left, b.left);
      ready = λ y g. b.ready y (a.ready z g);
      pending_waits = b.pending_waits;
      goes = λ y last. a.goes z last ∙ b.goes y last;
      ends = λ y last. a.goes z last ∙ b.ends y last;
    }

-- a unit that waits is settled, if there is one
module _ {v : Converter} {piece out : List ℕ} {t : Turn} where
  -- a unit waits, and the next one settles it
  pub settled_one : {out' : List ℕ} {r : Turn} → t.waits ≡ true → Advanced v piece out t out' r → r.waits ≡ false → Settled v piece out t out' r
  settled_one e a n = record { turned = a.turned; none_waits = n; as_before = λ w. absurd (false≢true (sym w ∙ e)); falls = λ w. a.falls }

  -- no unit waits, and nothing is done
  pub settled_none : t.progress.answer ≡ 0 → t.progress.written ≤ length out → t.waits ≡ false → Settled v piece out t out t
  settled_none z h e =
      record { turned = turned_none z h (λ w. absurd (false≢true (sym e ∙ w))); none_waits = e; as_before = λ w. refl; falls = λ w. absurd (false≢true (sym e ∙ w)) }

  module _ {out₁ : List ℕ} {m : Turn} (a : Settled v piece out t out₁ m) where
    -- where something was done, the turn comes nearer to the end
    pub settled_advanced : (m ≡ t → ⊥) → Advanced v piece out t out₁ m
    settled_advanced n = by_wait t.waits refl
      where
        by_wait : (b : Bool) → t.waits ≡ b → Advanced v piece out t out₁ m
        by_wait true e = record { turned = a.turned; falls = a.falls e }
        by_wait false e = absurd (n (a.as_before e))

    -- and then another turn
    pub settled_then : {out₂ : List ℕ} {r : Turn} → m.progress.answer ≡ 0 → Advanced v piece out₁ m out₂ r → Advanced v piece out t out₂ r
    settled_then z b = record { turned = turned_then a.turned z b.turned; falls = omega (arith, a.turned.left, b.falls) }

-- a turn that comes nearer to the end, and then codes that have characters
pub advanced_ran : {R : Reader} (policy : Policy) (default : ℕ) {piece out : List ℕ} {t : Turn} {out₁ : List ℕ} {m : Turn} {out₂ : List ℕ} {i w : ℕ} {r : Turn}
    → Advanced (converter R policy default) piece out t out₁ m → m.progress.answer ≡ 0 → m.waits ≡ false → Ran R piece out₁ m.at m.progress.written out₂ i w → r ≡ moved_turn m i w
    → Advanced (converter R policy default) piece out t out₂ r
advanced_ran {R} policy default {piece} {out₁ = out₁} {m = m} {out₂ = out₂} a z e b q =
    let then = subst (Turned (converter R policy default) piece out₁ m out₂) (sym q) (turned_ran policy default e b) in
    record { turned = turned_then a.turned z then; falls = omega (arith, a.falls, then.left) }

-- codes that have characters, and what follows them
module _ {R : Reader} {piece out : List ℕ} {t : Turn} {out₁ : List ℕ} {i w : ℕ} {m : Turn} where
  -- behind them a loop can go on, and no unit waits
  pub ran_ready : Ready piece out t → t.waits ≡ false → Ran R piece out t.at t.progress.written out₁ i w → m ≡ moved_turn t i w → Ready piece out₁ m × (m.waits ≡ false)
  ran_ready g e a q = (
    record {
      going = ap (λ (x : Turn). x.progress.answer) q;
      inside = omega (arith, ap (λ (x : Turn). x.at) q, a.inside);
      within = omega (arith, ap (λ (x : Turn). x.progress.written) q, a.within);
      few =
          omega
          (arith, ap (λ (x : Turn). x.at) q, ap (λ (x : Turn). x.progress.used) q, ap (λ (x : Turn). one_if x.waits) q, g.few, a.ahead);
    },
    ap (λ (x : Turn). x.waits) q,
  )

  turned_moved : (policy : Policy) (default : ℕ) → t.waits ≡ false → Ran R piece out t.at t.progress.written out₁ i w → m ≡ moved_turn t i w → Turned (converter R policy default) piece out t out₁ m
  turned_moved policy default e a q = subst (Turned (converter R policy default) piece out t out₁) (sym q) (turned_ran policy default e a)

  -- a turn that follows them comes, with them, nearer to the end
  pub ran_then : (policy : Policy) (default : ℕ) {out₂ : List ℕ} {r : Turn} → t.at < length piece → t.waits ≡ false → Ran R piece out t.at t.progress.written out₁ i w
      → m ≡ moved_turn t i w → Turned (converter R policy default) piece out₁ m out₂ r → (m.at < length piece → steps_left piece r < steps_left piece m)
      → Advanced (converter R policy default) piece out t out₂ r
  ran_then policy default {out₂} {r} h e a q b falls =
      let ran = turned_moved policy default e a q in
      record { turned = turned_then ran (ap (λ (x : Turn). x.progress.answer) q) b; falls = nearer (ltb m.at (length piece)) refl ran.left b.left }
    where
      nearer : (t' : Bool) → ltb m.at (length piece) ≡ t' → steps_left piece m ≤ steps_left piece t → steps_left piece r ≤ steps_left piece m → steps_left piece r < steps_left piece t
      nearer true x y z = omega (arith, falls (ltb-true m.at (length piece) x))
      nearer false x y z = omega (arith, ltb-false m.at (length piece) x, ap (λ (x : Turn). one_if x.waits) q)

-- ---- the end of a piece
pub closed_as : {v : Converter} {last : Bool} {out : List ℕ} {t : Turn} {out' : List ℕ} {r r' : Progress} → r ≡ r' → Closed v last out t out' r' → Closed v last out t out' r
closed_as {v} {last} {out} {t} {out'} e h = subst (Closed v last out t out') (sym e) h

nothing_more : (r : Progress) (out : List ℕ) → r.answer ≡ 0 → sofar r out (halt 0) ≡ ended r out
unfolding sofar halt after ended
nothing_more r out z = rw (z, append-nil, add-zero, or_zero_r)

module _ {v : Converter} {last : Bool} {out : List ℕ} {t : Turn} where
  -- no unit waits: the call answers what it has come to
  pub closed_none : t.progress.answer ≡ 0 → t.progress.written ≤ length out → t.waits ≡ false → Closed v last out t out t.progress
  unfolding rest_of halt sofar after ended
  closed_none z h e =
      let room = length out - t.progress.written in
      let s = t.progress in
      record {
        same = refl;
        within = h;
        grows = omega arith;
        kept = refl;
        gives = ap (λ (b : Bool). sofar s out (feed_from v last (limit room) (optional b t.first) [])) e ∙ rw (feed_end v last (limit room), z, append-nil, add-zero, or_zero_r);
      }

  -- the text goes on: the unit that waits is left pending, answer 1
  pub closed_wait : t.progress.written ≤ length out → t.waits ≡ true → last ≡ false
      → Closed v last out t out (stays_pending t.progress)
  unfolding rest_of halt sofar after ended
  closed_wait h e l =
      let room = length out - t.progress.written in
      let s = t.progress in
      record {
        same = refl;
        within = h;
        grows = omega arith;
        kept = refl;
        gives = ap (λ (b : Bool). sofar s out (feed_from v last (limit room) (optional b t.first) [])) e ∙ rw (l, feed_stays v (limit room) t.first, append-nil, add-zero, or_zero_r);
      }

  -- the text ends: the unit that waits is a code alone
  pub closed_last : {k : Effect} {r : Progress} {out' : List ℕ} → Took k 1 t.progress out r out' → t.waits ≡ true → last ≡ true → k ≡ does_alone v t.first → Closed v last out t out' r
  unfolding rest_of
  closed_last {k} {r} {out'} w e l q =
      let room = length out - t.progress.written in
      let s = t.progress in
      record {
        same = w.same;
        within = w.within;
        grows = w.grows;
        kept = w.kept;
        gives =
            ap (λ (b : Bool). sofar s out (feed_from v last (limit room) (optional b t.first) [])) e
            ∙ ap (λ (b : Bool). sofar s out (feed_from v b (limit room) (some t.first) [])) l
            ∙ ap (sofar s out) (feed_last v (limit room) t.first ∙ ap (λ (x : Effect). take_code (limit room) 1 x (halt 0)) (sym q)) ∙ either r.answer refl;
      }
    where
      either : (n : ℕ) → r.answer ≡ n → sofar t.progress out (take_code (limit (length out - t.progress.written)) 1 k (halt 0)) ≡ ended r out'
      either zero z = w.goes z (halt 0) ∙ nothing_more r out' z
      either (suc n) z = w.ends (λ y. omega arith) (halt 0)

-- ---- the loop
one_at_most : (b : Bool) → one_if b ≤ 1
one_at_most true = omega arith
one_at_most false = omega arith

-- a turn does not go back in the piece
pub not_back : {v : Converter} {piece out : List ℕ} {t : Turn} {out' : List ℕ} {r : Turn} → Advanced v piece out t out' r → Ready piece out t → r.progress.answer ≡ 0 → t.at ≤ r.at
not_back {t = t} a g z = omega (arith, a.falls, (a.turned.ready z g).inside, g.inside, one_at_most t.waits)

-- what a loop keeps holds at its beginning
pub loop_start : (v : Converter) (last waits : Bool) (first : ℕ) (piece out : List ℕ) {t : Turn} → (waits ≡ true → v.reader.waits first ≡ true) → t ≡ start_turn waits first
    → Loop v last (feed_from v last (limit (length out)) (optional waits first) piece) out piece out t
unfolding rest_of sofar
loop_start v last waits first piece out w q =
    let whole : length out ≡ length out - 0 = omega arith in
    subst (Loop v last (feed_from v last (limit (length out)) (optional waits first) piece) out piece out) (sym q)
    (record {
      ready = record { going = refl; inside = omega arith; within = omega arith; few = omega (arith, one_at_most waits) };
      pending_waits = w;
      sum = sym (after_none _ ∙ ap (λ (n : ℕ). feed_from v last (limit n) (optional waits first) piece) (sym whole));
      same = refl;
      kept = refl;
    })

-- the same, by what is pending
pub loop_first : (v : Converter) (last : Bool) (pending : std.Option ℕ) (piece out : List ℕ) {t : Turn} → ((first : ℕ) → pending ≡ Some first → v.reader.waits first ≡ true) → t ≡ first_turn pending
    → Loop v last (feed_from v last (limit (length out)) (waiting pending) piece) out piece out t
loop_first v last None piece out w q = loop_start v last false 0 piece out (λ e. absurd (false≢true e)) q
loop_first v last (Some first) piece out w q = loop_start v last true first piece out (λ e. w first refl) q

-- the turn that a call begins with
pub start_ready : {piece out : List ℕ} {waits : Bool} {first : ℕ} {t : Turn} → t ≡ start_turn waits first → Ready piece out t
start_ready {piece} {out} {waits} q =
    subst (Ready piece out) (sym q) (record { going = refl; inside = omega arith; within = omega arith; few = omega (arith, one_at_most waits) })

-- what holds of a pending unit holds of the unit that waits at the call's first turn
pub start_waits : (P : ℕ → Type 0) {waits : Bool} {first : ℕ} {t : Turn} → t ≡ start_turn waits first → (waits ≡ true → P first) → t.waits ≡ true → P t.first
start_waits P q h e = subst P (sym (ap (λ (x : Turn). x.first) q)) (h (sym (ap (λ (x : Turn). x.waits) q) ∙ e))

ends_of : (F : Fed) (out₀ out : List ℕ) (r : Progress) → F ≡ ended r out → r.written ≤ length out → drop r.written out ≡ drop r.written out₀ → length out ≡ length out₀
    → Ends F out₀ out r
unfolding summary over ended
ends_of F out₀ out r e h k q =
    record {
      result = rw (e, length-take-le r.written out h);
      laid = rw (e, length-take-le r.written out h, ← k, take-append-drop);
      same = q;
    }

module _ {v : Converter} {last : Bool} {F : Fed} {out₀ piece out : List ℕ} {t : Turn} (g : Loop v last F out₀ piece out t) where
  module _ {out' : List ℕ} {r : Turn} (a : Turned v piece out t out' r) where
    -- a turn that goes on keeps it
    pub loop_turn : r.progress.answer ≡ 0 → Loop v last F out₀ piece out' r
    loop_turn z =
        record {
          ready = a.ready z g.ready;
          pending_waits = a.pending_waits;
          sum = g.sum ∙ a.goes z last;
          same = a.same ∙ g.same;
          kept = a.kept ∙ later t.progress.written r.progress.written out out₀ a.grows g.kept;
        }

    -- a turn that ends the call: what it has come to is what the call gives
    pub loop_stop : (r.progress.answer ≡ 0 → ⊥) → Ends F out₀ out' r.progress
    loop_stop z =
        ends_of F out₀ out' r.progress (g.sum ∙ a.ends z last) a.within (a.kept ∙ later t.progress.written r.progress.written out out₀ a.grows g.kept) (a.same ∙ g.same)

  -- the end of the piece: what the call answers there is what it gives
  pub loop_end : {out' : List ℕ} {r : Progress} → length piece ≤ t.at → Closed v last out t out' r → Ends F out₀ out' r
  loop_end {out'} {r} h a =
      ends_of F out₀ out' r (g.sum ∙ ap (rest_of v last out t) (no_more t.at piece h) ∙ a.gives) a.within
      (a.kept ∙ later t.progress.written r.written out out₀ a.grows g.kept) (a.same ∙ g.same)

-- what a loop keeps, where the call begins with codes that have characters
pub loop_ran : (policy : Policy) (default : ℕ) (last : Bool) {R : Reader} {piece out out' : List ℕ} {k : ℕ} {t r : Turn} → t ≡ start_turn false 0 → Ran R piece out 0 0 out' (0 + k) (0 + k)
    → r ≡ moved_turn t k k → Loop (converter R policy default) last (feed_from (converter R policy default) last (limit (length out)) none piece) out piece out' r × (r.waits ≡ false)
loop_ran policy default last {R} {piece} {out} {out'} {k} {t} q a m =
    let v = converter R policy default in
    let begun = loop_start v last false 0 piece out (λ e. absurd (false≢true e)) refl in
    let same : 0 + k ≡ k = omega arith in
    let ran : Ran R piece out 0 0 out' k k = subst (λ (n : ℕ). Ran R piece out 0 0 out' n n) same a in
    let whole = ap (λ (x : Turn). moved_turn x k k) q in
    let turned = turned_ran policy default {t = start_turn false 0} refl ran in
    let kept = loop_turn begun turned refl in
    (subst (Loop v last (feed_from v last (limit (length out)) none piece) out piece out') (sym (m ∙ whole)) kept, ap (λ (x : Turn). x.waits) m)

-- ---- what a call answers: the output by another name, nothing pending by its test, and the two parts of a promise
pub ends_from : (v : Converter) (last : Bool) (p : Option ℕ) (piece : List ℕ) {out₁ out₀ out : List ℕ} {r : Progress} → out₁ ≡ out₀ → Ends (feed_from v last (limit (length out₁)) p piece) out₁ out r
    → Ends (feed_from v last (limit (length out₀)) p piece) out₀ out r
ends_from v last p piece {out = out} {r = r} e h = subst (λ (l : List ℕ). Ends (feed_from v last (limit (length l)) p piece) l out r) e h

-- a call gives the same where the test for a pending unit found none
pub ends_none : (v : Converter) (last : Bool) (pending : std.Option ℕ) (room : Room) (piece : List ℕ) {out₀ out : List ℕ} {r : Progress} → pending ≡ None → Ends (feed_from v last room none piece) out₀ out r
    → Ends (feed_from v last room (waiting pending) piece) out₀ out r
ends_none v last pending room piece {out₀} {out} {r} e h =
    subst (λ (p : std.Option ℕ). Ends (feed_from v last room (waiting p) piece) out₀ out r) (sym e) h

-- none is pending where the test found none
pub none_pending : (pending : std.Option ℕ) → is_some pending ≡ false → pending ≡ None
none_pending None e = refl
none_pending (Some first) e = absurd (false≢true (sym e))

-- the numbers that a call answers, and its lent output
pub ends_both : {F : Fed} {out₀ out : List ℕ} {r : Progress} → Ends F out₀ out r → (r ≡ summary F) × (out ≡ over out₀ F.output)
ends_both h = (h.result, h.laid)
