-- What was written and read is that of one call marked last on a fresh run; need and flags are the whole reading's; with room for
-- all they agree.
use mathlib.Core.Bool.{true, true≢false}
use mathlib.Core.List.{List}
use mathlib.Core.Option.{none}
use mathlib.Core.Path.{◌≡◌, refl, sym, ap}
use Prim.Native.Nat.{ℕ, ◌-◌, ◌≤◌}
use native.Mathlib.Omega.{arith}
use lib.ListN.{length}
use lib.Bits.{or_zero_l}
use borrow.Author.Tests.{eq-eqb, ne_eqb}
use Rattle.codepage.specs.CodePage.{CodePage}
use Rattle.engine.specs.declared.Direction.{Direction}
use Rattle.engine.specs.declared.Policy.{Policy}
use Rattle.engine.specs.Engine.{limit, endless, Fed, feed_from, feed, whole}
use Rattle.convert.specs.Runs.{fresh, start_of}
use Rattle.convert.specs.Calls.{refusal, Called, units_read, run_after, fed_by, accepted_call, run_call}
use Rattle.engine.specs.Engine.{converter_of, reader_of, default_of}
use Rattle.oneshot.specs.Texts.{text_refusal, Text, accepted_text, text_fed, text_of, totals_or_none}
use Rattle.engine.proofs.EngineLaws.{uncut, shape_from}
use Rattle.engine.proofs.CodeLaws.{whole_is_feed}
use Rattle.convert.proofs.RuleLaws.{rules_exact}
use Rattle.convert.proofs.RefusalLaws.{accepted_of}
use Rattle.convert.proofs.RunLaws.{start_kept}
use Rattle.oneshot.proofs.TextLaws.{TextAccepted, text_accepted, ample, answer_is}

-- ---- one call marked last
-- what the call on a text has of a run call: number, read, written and what was written
pub record AsCall (t : Text) (c : Called) : Type 0 where
  pub number : t.number ≡ c.number
  pub read : (totals_or_none t.totals).read ≡ c.read
  pub written : (totals_or_none t.totals).written ≡ length c.output
  pub output : t.output ≡ c.output

-- what it has of the whole reading: need and flags
pub record AsWhole (t : Text) (f : Fed) : Type 0 where
  pub need : (totals_or_none t.totals).need ≡ length f.output
  pub flags : (totals_or_none t.totals).flags ≡ f.flags

-- all of a run call: its flags too, and a need that was written
pub record AllAsCall (t : Text) (c : Called) : Type 0 where
  pub as_call : AsCall t c
  pub flags : (totals_or_none t.totals).flags ≡ c.run.flags
  pub need : (totals_or_none t.totals).need ≡ length c.output

module _ (direction : Direction) (policy : Policy) (p : CodePage) (text : List ℕ) (room : ℕ) (ok : text_refusal direction policy p (length text) ≡ 0) where
  facts : TextAccepted direction policy p (length text)
  facts = text_accepted direction policy p (length text) ok

  start_is : (start_of direction p.page policy).number ≡ 0
  unfolding start_of
  start_is = rw (ne_eqb p.page 0 facts.good.page, facts.policy_allowed)

  -- that call is accepted
  pub call_accepted : refusal direction (fresh direction p.page policy) p (length text) ≡ 0
  call_accepted =
      accepted_of direction (fresh direction p.page policy) p (length text)
      ((((((facts.good, facts.short), (rules_exact (fresh direction p.page policy)).0 (start_kept direction p.page policy start_is)), (refl, refl)), refl), refl), omega (arith, facts.short))

  not_pending : (text_fed direction policy p (limit room) text).answer ≡ 1 → ⊥
  unfolding text_fed
  not_pending e = true≢false ((shape_from (converter_of direction p policy) true (limit room) none text tt).holds e).2

  -- the call that is meant
  abbrev called : Called
  called = run_call direction (fresh direction p.page policy) p text true room

  called_is : called ≡ accepted_call (fresh direction p.page policy) text true (text_fed direction policy p (limit room) text)
  unfolding run_call fed_by text_fed
  called_is = rw (eq-eqb (refusal direction (fresh direction p.page policy) p (length text)) 0 call_accepted)

  text_is : text_of direction policy p text room ≡ accepted_text (text_fed direction policy p endless text) (text_fed direction policy p (limit room) text) room
  unfolding text_of
  text_is = rw (eq-eqb (text_refusal direction policy p (length text)) 0 ok)

  as_accepted : AsCall (accepted_text (text_fed direction policy p endless text) (text_fed direction policy p (limit room) text) room)
      (accepted_call (fresh direction p.page policy) text true (text_fed direction policy p (limit room) text))
  unfolding accepted_text accepted_call run_after units_read text_fed
  as_accepted =
      let f = feed_from (converter_of direction p policy) true (limit room) none text in
      let used : f.used - 0 ≡ f.used = omega arith in
      record { number = answer_is (converter_of direction p policy) room text; read = rw (ne_eqb f.answer 1 not_pending, used); written = refl; output = refl }

  -- NUMBER, READ, WRITTEN AND OUTPUT are those of one call marked last on a fresh run of the set's page.
  pub one_go_is_call : AsCall (text_of direction policy p text room) called
  one_go_is_call = rw (text_is, called_is) as_accepted

  -- NEED AND FLAGS are those of the whole reading, whatever the room.
  pub need_is_whole : AsWhole (text_of direction policy p text room) (whole (reader_of direction p) policy (default_of direction p) text)
  unfolding accepted_text text_fed uncut feed
  need_is_whole = rw (text_is, whole_is_feed (reader_of direction p) policy (default_of direction p) text) (record { need = refl; flags = refl })

  module _ (fits : length (feed_from (converter_of direction p policy) true endless none text).output ≤ room) where
    flags_agree : (totals_or_none (accepted_text (text_fed direction policy p endless text) (text_fed direction policy p (limit room) text) room).totals).flags
        ≡ (accepted_call (fresh direction p.page policy) text true (text_fed direction policy p (limit room) text)).run.flags
    unfolding accepted_text accepted_call run_after text_fed
    flags_agree = rw or_zero_l (ap (λ (f : Fed). f.flags) (sym (ample (converter_of direction p policy) true room none text fits)))

    need_agrees : (totals_or_none (accepted_text (text_fed direction policy p endless text) (text_fed direction policy p (limit room) text) room).totals).need
        ≡ length (accepted_call (fresh direction p.page policy) text true (text_fed direction policy p (limit room) text)).output
    unfolding accepted_text accepted_call text_fed
    need_agrees = ap (λ (f : Fed). length f.output) (sym (ample (converter_of direction p policy) true room none text fits))

  -- WITH ROOM FOR ALL the call agrees with that call in everything, and what it needs is written.
  pub room_for_all : length (whole (reader_of direction p) policy (default_of direction p) text).output ≤ room → AllAsCall (text_of direction policy p text room) called
  unfolding uncut feed
  room_for_all h =
      let fits : length (feed_from (converter_of direction p policy) true endless none text).output ≤ room =
      omega (arith, ap (λ (f : Fed). length f.output) (whole_is_feed (reader_of direction p) policy (default_of direction p) text)) in
      record { as_call = one_go_is_call; flags = rw (text_is, called_is) (flags_agree fits); need = rw (text_is, called_is) (need_agrees fits) }
