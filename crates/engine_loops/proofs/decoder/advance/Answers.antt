use mathlib.Core.List.{List}
use mathlib.Core.Path.{subst}
use Rattle.engine.specs.Engine.{Converter}
use Rattle.engine_loops.specs.Turns.{Turned}
use Rattle.engine_loops.proofs.TurnedLaws.{ran_then}
use Rattle.engine_loops.proofs.decoder.advance.Goals as goal

pub returns : goal.returns
returns c =
    let next = subst (λ (v : Converter). Turned v c.args.piece.now c.run_of-place.new.out c.moved-next.result c.next_code.new.out c.next_code.result) c.bytes.ensures c.next_code.ensures.0 in
    ran_then _ _ c.requires.ready.1 c.requires.ready.2 c.run_of-place.ensures c.moved-next.ensures next c.next_code.ensures.1
