use borrow.Author.Tests.{not-true, not-false}
use mathlib.Core.Path.{refl}
use Rattle.codepage_lookup.proofs.TableLaws.{lead_below}
use Rattle.engine.proofs.DecodeLaws.{decoder_lead}
use Rattle.engine_loops.proofs.CountLaws.{count_end, count_last}
use native.Mathlib.Omega.{arith}
use Rattle.engine_loops.proofs.counter.end_decoded.Goals as goal

pub returns-then-not-t : goal.returns-then-not-t
returns-then-not-t c = count_end c.requires.0 (not-true _ c.if-not-t.true) c.requires.1

pub overflow_cast-t : goal.overflow_cast-t
overflow_cast-t c =
    let lead = decoder_lead _ _ _ _ _ _ (c.requires.0.pending_waits (not-false _ c.if-not-t.false)) in
    omega (arith, lead_below c.args.v.now.tables.classes.now c.args.t.first c.args.v.now.tables.all_classes lead)

pub returns : goal.returns
returns c = count_last c.requires.0 c.alone_decoded.ensures (not-false _ c.if-not-t.false) c.requires.1 refl
