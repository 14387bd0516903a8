use mathlib.Core.Path.{refl, subst, ◌∙◌}
use native.Mathlib.Omega.{arith}
use mathlib.Core.List.{List}
use Rattle.codepage_lookup.proofs.TableLaws.{lead_below}
use Rattle.engine.specs.Engine.{Converter}
use Rattle.engine.proofs.DecodeLaws.{decoder_waits, decoder_lead}
use Rattle.engine_loops.specs.Turns.{Closed}
use Rattle.engine_loops.proofs.TurnedLaws.{loop_turn, loop_stop, loop_end}
use Rattle.engine_loops.proofs.decoder.decode_rest.Goals as goal

pub loop-t-init : goal.loop-t-init
loop-t-init c =
    (c.requires.ready.0, λ e. decoder_waits _ _ _ _ _ _ _ (c.requires.ready.1 e), refl, λ F before l. l, c.requires.mixed_page)

pub codes_turn-t-requires : goal.codes_turn-t-requires
codes_turn-t-requires c = record { mixed_page = c.loop-t.invariant.4; ready = (c.loop-t.invariant.0, c.loop-t-test.true); first_value = λ e. decoder_lead _ _ _ _ _ _ (c.loop-t.invariant.1 e) }

pub returns-then-s-ne0 : goal.returns-then-s-ne0
returns-then-s-ne0 c =
    (c.codes_turn-t.ensures.turned.same ∙ c.loop-t.invariant.2, λ F before l. loop_stop (c.loop-t.invariant.3 F before l) c.codes_turn-t.ensures.turned c.if-s-ne0.true)

pub loop-t-preserved : goal.loop-t-preserved
loop-t-preserved c = (
  c.codes_turn-t.ensures.turned.ready c.if-s-ne0.false c.loop-t.invariant.0,
  c.codes_turn-t.ensures.turned.pending_waits,
  c.codes_turn-t.ensures.turned.same ∙ c.loop-t.invariant.2,
  λ F before l. loop_turn (c.loop-t.invariant.3 F before l) c.codes_turn-t.ensures.turned c.if-s-ne0.false,
  λ e. c.requires.mixed_page (c.goes_on-long.ensures e),
)

pub at_end-requires : goal.at_end-requires
at_end-requires c = record { answer_value = (c.loop-t.invariant.0.going, c.loop-t.invariant.0.within, omega (arith, c.loop-t.invariant.0.few, c.loop-t.invariant.0.inside, c.well_formed.1.1.0)); first_bound = λ e. lead_below c.args.v.now.tables.tables.classes.now _ c.args.v.now.tables.tables.all_classes (decoder_lead _ _ _ _ _ _ (c.loop-t.invariant.1 e)) }

pub returns : goal.returns
returns c =
    let closed = subst (λ (v : Converter). Closed v c.args.last c.loop-t.out c.loop-t.t c.at_end.new.out c.at_end.result) c.bytes.ensures c.at_end.ensures in
    (closed.same ∙ c.loop-t.invariant.2, λ F before l. loop_end (c.loop-t.invariant.3 F before l) c.loop-t-test.false closed)
