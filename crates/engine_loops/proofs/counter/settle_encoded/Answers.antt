use mathlib.Core.Path.{ap}
use Rattle.engine.specs.Steps.{one_if}
use Rattle.engine.proofs.EncodeLaws.{encoder_high}
use Rattle.engine_loops.proofs.CountLaws.{came_bytes, bytes_short, count_settled}
use native.Mathlib.Omega.{arith}
use Rattle.engine_loops.proofs.counter.settle_encoded.Goals as goal

pub settled-code-requires : goal.settled-code-requires
settled-code-requires c = encoder_high _ _ _ _ _ (c.requires.0.pending_waits c.requires.2)

pub overflow_add-code : goal.overflow_add-code
overflow_add-code c = omega (arith, c.settled-code.ensures.more.0)

pub count_code-counted-requires : goal.count_code-counted-requires
count_code-counted-requires c =
    let waits = ap one_if c.requires.2 in
    let more = c.settled-code.ensures.more.0 in
    (omega (arith, c.requires.0.few, c.requires.0.short, waits, more, c.requires.1), omega (arith, c.bytes_written.ensures, bytes_short c.settled-code.result.effect, c.requires.0.little, c.requires.0.few, c.requires.0.short, waits, c.requires.1))

pub past-requires : goal.past-requires
past-requires c = omega (arith, c.settled-code.ensures.more.0, c.requires.0.short, c.requires.1)

pub returns : goal.returns
returns c =
    let came = came_bytes _ _ _ _ _ c.bytes_written.ensures c.count_code-counted.ensures in
    count_settled c.requires.0 came c.requires.2 c.requires.1 c.settled-code.ensures.effect c.settled-code.ensures.more.1 c.past.ensures
