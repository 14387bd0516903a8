use Prim.Native.Nat.{◌-◌}
use lib.ListN.{length}
use Rattle.codepage_lookup.specs.Tables.{byte_reader}
use Rattle.spelling.specs.Steps.{SpanSame}
use Rattle.spelling.proofs.Speller.pass_same.Given as goal

abbrev pub invariant-loop-place : goal.invariant-loop-place
invariant-loop-place l = SpanSame (byte_reader l.self.bytes.tables) l.self.units.index.now l.self.units.blocks.now l.text l.from l.place

abbrev pub decreases-loop-place : goal.decreases-loop-place
decreases-loop-place l = length l.text - l.place
