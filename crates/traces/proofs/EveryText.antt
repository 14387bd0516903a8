-- Every text has a list of calls that ends with the whole output, on tables of a good shape and the run's page.
use mathlib.Core.Bool.{Bool, true, false, true≢false, false≢true}
use mathlib.Core.List.{List, [], ◌∷◌, ◌++◌, append-nil}
use mathlib.Core.Logic.{◌⊎◌, inl, inr}
use mathlib.Core.Option.{some}
use mathlib.Core.Path.{◌≡◌, refl, sym, ap, ◌∙◌}
use Prim.Native.Nat.{ℕ, zero, suc, ◌+◌, ◌*◌, ◌<◌, ◌≤◌}
use native.Mathlib.Omega.{arith}
use lib.Dec.{leb, eqb}
use lib.ListN.{length, take, drop, replicate, length-append, length-take, length-drop, length-replicate, take-append-drop}
use borrow.Author.Tests.{eqb-false, eq-eqb, ne_eqb, leb-true, leb-false, lt-ltb}
use Rattle.codepage.specs.Reading.{as_units}
use Rattle.codepage.specs.CodePage.{GoodShape}
use Rattle.engine.specs.declared.Direction.{Direction}
use Rattle.engine.specs.declared.Direction.TheVariants.{Decoding, Encoding}
use Rattle.convert.specs.declared.Run.{Run}
use Rattle.engine.specs.Engine.{Fed}
use Rattle.convert.specs.Runs.{piece_limit}
use Rattle.convert.specs.Calls.{refusal, pending_unit, units_read, ended_after, fed_by, accepted_call, run_call}
use Rattle.engine.specs.Engine.{converter_of}
use Rattle.engine.proofs.EngineLaws.{Shape}
use Rattle.engine.proofs.BoundLaws.{roomy, widest, bounded_of}
use Rattle.convert.proofs.CallLaws.{accepted_facts, count_le_one, feed_shape}
use Rattle.convert.proofs.RuleLaws.{rules_exact}
use Rattle.convert.proofs.RefusalLaws.{accepted_of}
use Rattle.traces.specs.Model.{Setting, by_value, Call, feeding, Model, opened, says, is_accepted, joined_by, accepted_by, next, play, Allowed, AllAllowed, whole_of}
use Rattle.traces.specs.Traces.{Entry, calls_of, Proper, Trace}
use Rattle.traces.proofs.ModelLaws.{Kept, kept_start, kept_next, fair_whole}
use Rattle.traces.proofs.ListLaws.{kept_list, traces_exist, lead_pending, left_text}

-- ---- one call with room enough
module _ (s : Setting) (h : Proper s) (good : GoodShape s.tables) (own : s.page ≡ s.tables.page) (m : Model) (g : Kept s m) (going : m.ended ≡ false) (piece rest : List ℕ)
    (begins : drop m.position s.text ≡ piece ++ rest) (last : Bool) (to_end : last ≡ true → rest ≡ []) (short : length piece ≤ piece_limit) where
  abbrev enough : ℕ
  enough = widest s.direction * (1 + length piece)

  accepted : refusal s.direction m.run s.tables (length piece) ≡ 0
  accepted =
      accepted_of s.direction m.run s.tables (length piece) (
        (((((good, short), (rules_exact m.run).0 g.fair.valid), (g.fair.direction, g.fair.page ∙ own)), lead_pending s h m g good own s.direction refl), g.fair.end ∙ going),
        omega (arith, left_text s h m g good own piece rest begins, h.within),
      )

  given : Fed
  given = fed_by s.direction m.run s.tables piece last enough

  formed : Shape (converter_of s.direction s.tables m.run.policy) last (as_units (pending_unit m.run.pending) ++ piece) given
  unfolding given
  formed = feed_shape s.direction m.run s.tables piece last enough (accepted_facts s.direction m.run s.tables (length piece) accepted)

  not_full : given.answer ≡ 2 → ⊥
  unfolding given fed_by
  not_full =
      roomy (widest s.direction) (converter_of s.direction s.tables m.run.policy) (bounded_of s.direction s.tables m.run.policy) last enough (pending_unit m.run.pending) piece
      (widen s.direction (length (as_units (pending_unit m.run.pending))) (length piece) (count_le_one m.run.pending))
    where
      widen : (d : Direction) (a n : ℕ) → a ≤ 1 → widest d * (a + n) ≤ widest d * (1 + n)
      widen Decoding a n q = omega arith
      widen Encoding a n q = omega arith

  abbrev call : Call
  call = feeding by_value piece last (replicate enough 0)

  call_allowed : Allowed s m call
  unfolding Allowed
  call_allowed = (rest, begins, to_end)

  call_is : run_call s.direction m.run s.tables piece last (length (replicate {A = ℕ} enough 0)) ≡ accepted_call m.run piece last given
  unfolding run_call given
  call_is =
      let e : eqb (refusal s.direction m.run s.tables (length piece)) 0 ≡ true = eq-eqb _ _ accepted in
      rw (e, length-replicate {A = ℕ} enough 0)

  -- the model after it
  next_is : next s m call ≡ joined_by m last (record { number = given.answer; read = (accepted_call m.run piece last given).read; output = given.output; run = some (accepted_call m.run piece last given).run })
  unfolding next accepted_by says accepted_call
  next_is =
      let low : is_accepted given.answer ≡ true = lt-ltb given.answer 10 (omega (arith, formed.known)) in
      rw (call_is, low)

  ended_then : (next s m call).ended ≡ ended_after last given.answer
  unfolding joined_by
  ended_then = ap (λ (x : Model). x.ended) next_is

  position_then : (next s m call).position ≡ m.position + units_read m.run.pending (length piece) given.answer given.used
  unfolding joined_by accepted_call
  position_then = ap (λ (x : Model). x.position) next_is

  -- a call marked last ends the list
  last_ends : last ≡ true → (next s m call).ended ≡ true
  unfolding ended_after
  last_ends l = ended_then ∙ by_answer (eqb given.answer 3) (eqb given.answer 0) refl refl
    where
      by_answer : (t₁ t₂ : Bool) → eqb given.answer 3 ≡ t₁ → eqb given.answer 0 ≡ t₂ → ended_after last given.answer ≡ true
      by_answer true t₂ e₁ e₂ = rw e₁
      by_answer false true e₁ e₂ = rw (e₁, e₂) l
      by_answer false false e₁ e₂ = absurd (none_other given.answer refl)
        where
          none_other : (n : ℕ) → given.answer ≡ n → ⊥
          none_other zero q = eqb-false _ _ e₂ q
          none_other (suc zero) q = true≢false (sym l ∙ (formed.holds q).2)
          none_other (suc (suc zero)) q = not_full q
          none_other (suc (suc (suc zero))) q = eqb-false _ _ e₁ q
          none_other (suc (suc (suc (suc n)))) q = omega (arith, formed.known)

  -- any other ends it or reads all of its piece
  ends_or_reads : ((next s m call).ended ≡ true) ⊎ (((next s m call).ended ≡ false) × ((next s m call).position ≡ m.position + length piece))
  ends_or_reads = by_end (next s m call).ended refl
    where
      reads_all : (next s m call).ended ≡ false → (n : ℕ) → given.answer ≡ n → units_read m.run.pending (length piece) given.answer given.used ≡ length piece
      reads_all e zero q = unfold units_read in rw (ne_eqb given.answer 1 (λ z. omega arith)) (omega (arith, formed.all q, length-append (as_units (pending_unit m.run.pending)) piece))
      reads_all e (suc zero) q = unfold units_read in rw (eq-eqb given.answer 1 q)
      reads_all e (suc (suc zero)) q = absurd (not_full q)
      reads_all e (suc (suc (suc zero))) q = absurd (true≢false (sym (ended_then ∙ unfold ended_after in rw (eq-eqb given.answer 3 q)) ∙ e))
      reads_all e (suc (suc (suc (suc n)))) q = absurd (omega (arith, formed.known))

      by_end : (t : Bool) → (next s m call).ended ≡ t → ((next s m call).ended ≡ true) ⊎ (((next s m call).ended ≡ false) × ((next s m call).position ≡ m.position + length piece))
      by_end true e = inl e
      by_end false e = inr (e, position_then ∙ ap (λ (n : ℕ). m.position + n) (reads_all e given.answer refl))

-- ---- call after call
-- a list of allowed calls that ends
pub record Ends (s : Setting) (m : Model) : Type 0 where
  pub calls : List Call
  pub allowed : AllAllowed s m calls
  pub ended : (play s m calls).ended ≡ true

-- A trace that ends, with the whole output.
pub record Finished (s : Setting) : Type 0 where
  pub start : Run
  pub entries : List Entry
  pub trace : Trace s start entries
  pub ended : (play s (opened s) (calls_of entries)).ended ≡ true
  pub joined_all : (play s (opened s) (calls_of entries)).joined ≡ (whole_of s).output

one_call : (s : Setting) (m : Model) (c : Call) → Allowed s m c → (next s m c).ended ≡ true → Ends s m
unfolding AllAllowed play
one_call s m c ok e = record { calls = c ∷ []; allowed = (ok, tt); ended = e }

then_more : (s : Setting) (m : Model) (c : Call) → Allowed s m c → Ends s (next s m c) → Ends s m
unfolding AllAllowed play
then_more s m c ok e = record { calls = c ∷ e.calls; allowed = (ok, e.allowed); ended = e.ended }

module _ (s : Setting) (h : Proper s) (good : GoodShape s.tables) (own : s.page ≡ s.tables.page) where
  -- what is left fits one piece
  last_piece : (m : Model) → Kept s m → m.ended ≡ false → length (drop m.position s.text) ≤ piece_limit → Ends s m
  last_piece m g going short =
      one_call s m _ (call_allowed s h good own m g going (drop m.position s.text) [] (sym (append-nil _)) true (λ e. refl) short)
      (last_ends s h good own m g going (drop m.position s.text) [] (sym (append-nil _)) true (λ e. refl) short refl)

  -- a full piece, and then the rest
  full_piece : (fuel : ℕ) → ((m : Model) → Kept s m → m.ended ≡ false → length (drop m.position s.text) ≤ fuel → Ends s m)
      → (m : Model) → Kept s m → m.ended ≡ false → length (drop m.position s.text) ≤ suc fuel → piece_limit < length (drop m.position s.text) → Ends s m
  full_piece fuel rest m g going q long = by_end (ends_or_reads s h good own m g going piece others begins false (λ e. absurd (false≢true e)) short)
    where
      piece : List ℕ
      piece = take piece_limit (drop m.position s.text)

      others : List ℕ
      others = drop piece_limit (drop m.position s.text)

      begins : drop m.position s.text ≡ piece ++ others
      begins = sym (take-append-drop piece_limit (drop m.position s.text))

      size : length piece ≡ piece_limit
      size = length-take piece_limit (drop m.position s.text) ∙ omega arith

      short : length piece ≤ piece_limit
      short = omega (arith, size)

      ok : Allowed s m (feeding by_value piece false (replicate (widest s.direction * (1 + length piece)) 0))
      ok = call_allowed s h good own m g going piece others begins false (λ e. absurd (false≢true e)) short

      by_end : ((next s m (feeding by_value piece false (replicate (widest s.direction * (1 + length piece)) 0))).ended ≡ true)
          ⊎ (((next s m (feeding by_value piece false (replicate (widest s.direction * (1 + length piece)) 0))).ended ≡ false)
          × ((next s m (feeding by_value piece false (replicate (widest s.direction * (1 + length piece)) 0))).position ≡ m.position + length piece)) → Ends s m
      by_end (inl e) = one_call s m _ ok e
      by_end (inr e) =
          then_more s m _ ok
          (rest (next s m (feeding by_value piece false (replicate (widest s.direction * (1 + length piece)) 0))) (kept_next s h m g _ ok) e.0
          (omega (
            arith,
            length-drop (next s m (feeding by_value piece false (replicate (widest s.direction * (1 + length piece)) 0))).position s.text,
            length-drop m.position s.text,
            e.1,
            size,
          )))

  ends_step : (fuel : ℕ) → ((m : Model) → Kept s m → m.ended ≡ false → length (drop m.position s.text) ≤ fuel → Ends s m) → (m : Model) → Kept s m → m.ended ≡ false
      → length (drop m.position s.text) ≤ suc fuel → (t : Bool) → leb (length (drop m.position s.text)) piece_limit ≡ t → Ends s m
  ends_step fuel rest m g going q true e = last_piece m g going (leb-true _ _ e)
  ends_step fuel rest m g going q false e = full_piece fuel rest m g going q (leb-false _ _ e)

  ends_from : (fuel : ℕ) (m : Model) → Kept s m → m.ended ≡ false → length (drop m.position s.text) ≤ fuel → Ends s m
  ends_from zero m g going q = last_piece m g going (omega arith)
  ends_from (suc fuel) m g going q = ends_step fuel (ends_from fuel) m g going q (leb (length (drop m.position s.text)) piece_limit) refl

  -- EVERY TEXT has a trace that ends, with the whole output.
  pub every_text : Finished s
  every_text =
      let e = ends_from (length (drop (opened s).position s.text)) (opened s) (kept_start s h) (unfold opened in refl) (omega arith) in
      let t = traces_exist s h e.calls e.allowed in
      record {
        start = t.start;
        entries = t.entries;
        trace = t.trace;
        ended = ap (λ (cs : List Call). (play s (opened s) cs).ended) t.calls ∙ e.ended;
        joined_all =
            ap (λ (cs : List Call). (play s (opened s) cs).joined) t.calls ∙ (fair_whole s _ _ _ _ (kept_list s h e.calls e.allowed).fair e.ended).0;
      }
