use Prim.Native.Nat.{◌*◌}
use Rattle.fields.specs.Steps.{NoSeparator}
use Rattle.fields.proofs.field_size.Given as goal

abbrev pub invariant-loop-word : goal.invariant-loop-word
invariant-loop-word l = NoSeparator l.block (4 * l.word)
