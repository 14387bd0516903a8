use Rattle.std.proofs.Common.{sym, ◌∙◌}
use native.Mathlib.Omega.{arith}
use Rattle.console_script.proofs.WordLaws.{hex_turn, hex_stop, hex_end, none_by_test, some_by_test}
use Rattle.console_script.proofs.words.is_hex.Goals as goal

pub returns-then-is_none : goal.returns-then-is_none
returns-then-is_none c =
    sym (c.loop-byte.invariant ∙ hex_stop c.args.word.now c.loop-byte.byte-index (omega arith) (none_by_test _ c.hex_value.ensures c.is_none.ensures c.if-is_none.true))

pub loop-byte-preserved : goal.loop-byte-preserved
loop-byte-preserved c =
    c.loop-byte.invariant ∙ some_by_test _ c.hex_value.ensures c.is_none.ensures c.if-is_none.false (λ value is. hex_turn c.args.word.now c.loop-byte.byte-index value (omega arith) is)

pub returns : goal.returns
returns c = sym (c.loop-byte.invariant ∙ hex_end c.args.word.now _ (omega arith))
