-- One accepted call, and the whole reading of the text: what holds of the run before it holds of the run after it.
use mathlib.Core.Bool.{Bool, true, false, true≢false, false≢true}
use mathlib.Core.List.{List, [], ◌∷◌, ◌++◌, append_assoc, append-nil}
use mathlib.Core.Option.{Option, some}
use mathlib.Core.Path.{◌≡◌, refl, sym, ap, ◌∙◌, subst}
use Prim.Native.Nat.{ℕ, suc, ◌+◌, ◌-◌, ◌≤◌}
use native.Mathlib.Omega.{arith}
use lib.Dec.{eqb}
use lib.ListN.{length, get_or, drop, length-append, length-drop, drop_of_length-le}
use lib.Seq.{drop-append-le, drop-append-add, drop-drop, drop-cons, drop-append_seam}
use lib.Bits.{bit_or, or_zero_r}
use borrow.Author.Tests.{eqb-true, eqb-false, eq-eqb, ne_eqb}
use Rattle.codepage.specs.Reading.{as_units}
use Rattle.convert.specs.declared.Pending.{Pending}
use Rattle.convert.specs.declared.Pending.TheVariants.{Nothing, Byte, High}
use Rattle.convert.specs.declared.Run.{Run}
use Rattle.engine.specs.Engine.{Converter, limit, endless, Fed, halt, after, feed_from, feed}
use Rattle.convert.specs.Calls.{pending_unit, pending_count, final_unit, units_read, pending_after, ended_after, run_after, accepted_call}
use Rattle.engine.proofs.EngineLaws.{uncut, after_after, Cut, cut, Shape, shape_from, Waits, feed_wait, feed_end}
use Rattle.convert.proofs.CallLaws.{pending_units, count_le_one, final_unit_lem}

-- What a run on a text has done of the whole reading, with its joined output.
pub record Reads (v : Converter) (text : List ℕ) (run : Run) (joined : List ℕ) : Type 0 where
  pub inside : run.read ≤ length text
  pub behind : pending_count run.pending ≤ run.read
  pub waits : Waits v (pending_unit run.pending)
  pub going : run.ended ≡ false
      → uncut v text ≡ after (run.read - pending_count run.pending) joined run.flags (uncut v (pending_units run.pending ++ drop run.read text))
  pub over : run.ended ≡ true → ((uncut v text).output ≡ joined) × ((uncut v text).flags ≡ run.flags) × ((uncut v text).used ≡ run.read)

-- feeding what is pending and the piece is feeding both in one list
pub fed_as_one : (v : Converter) (last : Bool) (room : ℕ) (pending : Pending) (piece : List ℕ) → Waits v (pending_unit pending)
    → feed_from v last (limit room) (pending_unit pending) piece ≡ feed v last (limit room) (pending_units pending ++ piece)
unfolding feed
fed_as_one v last room Nothing piece h = refl
fed_as_one v last room (Byte byte) piece h = sym (feed_wait v last (limit room) byte piece h)
fed_as_one v last room (High unit) piece h = sym (feed_wait v last (limit room) unit piece h)

module _ (v : Converter) (text : List ℕ) (run : Run) (joined piece rest : List ℕ) (last : Bool) (room : ℕ) (g : Reads v text run joined) (going : run.ended ≡ false)
    (whole_piece : drop run.read text ≡ piece ++ rest) (to_end : last ≡ true → rest ≡ []) where
  units : List ℕ
  units = pending_units run.pending ++ piece

  f : Fed
  f = feed_from v last (limit room) (pending_unit run.pending) piece

  formed : Shape v last units f
  unfolding units f
  formed = shape_from v last (limit room) (pending_unit run.pending) piece g.waits

  count : length units ≡ pending_count run.pending + length piece
  unfolding units
  count = length-append (pending_units run.pending) piece

  left_text : length text ≡ run.read + (length piece + length rest)
  left_text = omega (arith, g.inside, length-drop run.read text, ap length whole_piece, length-append piece rest)

  together : pending_units run.pending ++ drop run.read text ≡ units ++ rest
  unfolding units
  together = ap (λ (l : List ℕ). pending_units run.pending ++ l) whole_piece ∙ sym (append_assoc (pending_units run.pending) piece rest)

  law : Cut v units rest f (uncut v (pending_units run.pending ++ drop run.read text))
  unfolding units f
  law = rw (together, fed_as_one v last room run.pending piece g.waits) (cut v last (limit room) (pending_units run.pending ++ piece) rest to_end)

  -- the run after the call
  abbrev read' : ℕ
  read' = units_read run.pending (length piece) f.answer f.used

  abbrev pending' : Pending
  pending' = pending_after run.direction run.pending piece f.answer f.used

  -- what the call left: what is pending after it, and the text from its position on
  record Left (pending : Pending) (read : ℕ) : Type 0 where
    units_left : drop f.used units ++ rest ≡ pending_units pending ++ drop (run.read + read) text
    taken : run.read + read - pending_count pending ≡ run.read - pending_count run.pending + f.used
    inside : run.read + read ≤ length text
    behind : pending_count pending ≤ run.read + read
    waits : Waits v (pending_unit pending)

  left_none : f.used ≡ 0 → Left run.pending 0
  left_none e =
      let z : run.read + 0 ≡ run.read = omega arith in
      record {
        units_left = rw (e, z) (sym together);
        taken = omega arith;
        inside = omega (arith, g.inside);
        behind = omega (arith, g.behind);
        waits = g.waits;
      }

  left_some : (f.used ≡ 0 → ⊥) → Left Nothing (f.used - pending_count run.pending)
  left_some e =
      let q : f.used ≡ length (pending_units run.pending) + (f.used - pending_count run.pending) = omega (arith, count_le_one run.pending) in
      record {
        units_left =
            sym (drop-append-le f.used units rest formed.within) ∙ ap (drop f.used) (sym together)
            ∙ ap (λ (n : ℕ). drop n (pending_units run.pending ++ drop run.read text)) q
            ∙ drop-append-add (pending_units run.pending) (drop run.read text) (f.used - pending_count run.pending)
            ∙ drop-drop (f.used - pending_count run.pending) run.read text;
        taken = omega (arith, count_le_one run.pending, g.behind);
        inside = omega (arith, formed.within, count, left_text);
        behind = omega arith;
        waits = tt;
      }

  left_wait : f.answer ≡ 1 → Left (final_unit run.direction run.pending piece) (length piece)
  unfolding units
  left_wait e =
      let n : f.used + 1 ≡ length (pending_units run.pending ++ piece) = (formed.holds e).0 in
      let unit : ℕ = get_or (pending_units run.pending ++ piece) f.used 0 in
      let final : pending_unit (final_unit run.direction run.pending piece) ≡ some unit = final_unit_lem run.direction run.pending piece f.used n in
      let one : pending_count (final_unit run.direction run.pending piece) ≡ 1 = ap (λ (o : Option ℕ). length (as_units o)) final in
      record {
        units_left =
            ap (λ (l : List ℕ). l ++ rest)
            (drop-cons (pending_units run.pending ++ piece) f.used 0 (omega arith)
            ∙ ap (λ (l : List ℕ). unit ∷ l) (drop_of_length-le (pending_units run.pending ++ piece) {i = suc f.used} (omega arith)))
            ∙ ap (λ (l : List ℕ). unit ∷ l)
            (sym (drop-append_seam piece rest) ∙ ap (drop (length piece)) (sym whole_piece) ∙ drop-drop (length piece) run.read text)
            ∙ ap (λ (o : Option ℕ). as_units o ++ drop (run.read + length piece) text) (sym final);
        taken = omega (arith, count, g.behind, one);
        inside = omega (arith, left_text);
        behind = omega (arith, count, one);
        waits = subst (Waits v) (sym final) (formed.holds e).1;
      }

  left : (t₁ t₂ : Bool) → eqb f.answer 1 ≡ t₁ → eqb f.used 0 ≡ t₂ → Left pending' read'
  unfolding pending_after units_read
  left true t₂ e₁ e₂ = rw e₁ (left_wait (eqb-true _ _ e₁))
  left false true e₁ e₂ =
      let z : f.used - pending_count run.pending ≡ 0 = omega (arith, eqb-true f.used 0 e₂) in
      rw (e₁, e₂, z) (left_none (eqb-true _ _ e₂))
  left false false e₁ e₂ = rw (e₁, e₂) (left_some (eqb-false _ _ e₂))

  behind_it : Left pending' read'
  behind_it = left (eqb f.answer 1) (eqb f.used 0) refl refl

  -- the run goes on
  goes_on : (f.answer ≡ 3 → ⊥)
      → uncut v text ≡ after (run.read + read' - pending_count pending') (joined ++ f.output) (bit_or run.flags f.flags) (uncut v (pending_units pending' ++ drop (run.read + read') text))
  goes_on e =
      g.going going ∙ ap (after (run.read - pending_count run.pending) joined run.flags) (law.goes_on e)
      ∙ sym (after_after (run.read - pending_count run.pending) f.used joined f.output run.flags f.flags _)
      ∙ ap (λ (n : ℕ). after n (joined ++ f.output) (bit_or run.flags f.flags) (uncut v (drop f.used units ++ rest))) (sym behind_it.taken)
      ∙ ap (λ (l : List ℕ). after (run.read + read' - pending_count pending') (joined ++ f.output) (bit_or run.flags f.flags) (uncut v l)) behind_it.units_left

  abbrev Ended : Type 0
  Ended = ((uncut v text).output ≡ joined ++ f.output) × ((uncut v text).flags ≡ bit_or run.flags f.flags) × ((uncut v text).used ≡ run.read + read')

  ended_stop : f.answer ≡ 3 → Ended
  unfolding after pending_after units_read
  ended_stop e =
      let u : uncut v text ≡ after (run.read - pending_count run.pending) joined run.flags f =
      g.going going ∙ ap (after (run.read - pending_count run.pending) joined run.flags) (law.stopped e) in
      let one : f.answer ≡ 1 → ⊥ = λ q. omega arith in
      let r : read' ≡ f.used - pending_count run.pending = rw (ne_eqb f.answer 1 one) in
      (rw u, rw u, ap (λ (x : Fed). x.used) u ∙ omega (arith, formed.reads e, count_le_one run.pending, g.behind))

  nothing_left : f.answer ≡ 0 → last ≡ true → pending_units pending' ++ drop (run.read + read') text ≡ []
  nothing_left e l =
      sym behind_it.units_left
      ∙ ap (λ (xs : List ℕ). drop f.used units ++ xs) (to_end l) ∙ append-nil (drop f.used units) ∙ drop_of_length-le units {i = f.used} (omega (arith, formed.all e))

  ended_all : f.answer ≡ 0 → last ≡ true → Ended
  unfolding after uncut feed halt
  ended_all e l =
      let u : uncut v text ≡ after (run.read + read' - pending_count pending') (joined ++ f.output) (bit_or run.flags f.flags) (halt 0) =
      rw (nothing_left e l, feed_end v true endless) at (goes_on (λ q. omega arith)) in
      let z : pending_count pending' ≡ 0 = omega (arith, simp length-append at (ap length (nothing_left e l))) in
      (rw (u, append-nil), rw (u, or_zero_r), ap (λ (x : Fed). x.used) u ∙ omega arith)

  -- ONE ACCEPTED CALL keeps what the run and the joined output say of the whole reading.
  ended_is : ended_after last f.answer ≡ true → Ended
  unfolding ended_after
  ended_is e = by_answer (eqb f.answer 3) (eqb f.answer 0) refl refl
    where
      by_answer : (t₁ t₂ : Bool) → eqb f.answer 3 ≡ t₁ → eqb f.answer 0 ≡ t₂ → Ended
      by_answer true t₂ e₁ e₂ = ended_stop (eqb-true _ _ e₁)
      by_answer false true e₁ e₂ = ended_all (eqb-true _ _ e₂) (sym (rw (e₁, e₂)) ∙ e)
      by_answer false false e₁ e₂ = absurd (false≢true (sym (rw (e₁, e₂)) ∙ e))

  not_stopped : ended_after last f.answer ≡ false → f.answer ≡ 3 → ⊥
  unfolding ended_after
  not_stopped e q = true≢false (sym (rw (eq-eqb f.answer 3 q)) ∙ e)

  -- What the run and the joined output say of the whole reading before an accepted call, they say after it.
  pub call_reads : Reads v text (accepted_call run piece last (feed_from v last (limit room) (pending_unit run.pending) piece)).run (joined ++ (feed_from v last (limit room) (pending_unit run.pending) piece).output)
  unfolding accepted_call run_after f
  call_reads =
      record {
        inside = behind_it.inside;
        behind = behind_it.behind;
        waits = behind_it.waits;
        going = λ e. goes_on (not_stopped e);
        over = ended_is;
      }
