use Prim.Native.Nat.{◌-◌, ◌≤◌}
use lib.ListN.{length}
use Rattle.codepage_lookup.specs.Tables.{byte_reader}
use Rattle.spelling.proofs.LoopLaws.{Writing}
use Rattle.spelling.proofs.Speller.write_rest.Given as goal

abbrev pub invariant-loop-place : goal.invariant-loop-place
invariant-loop-place l = (l.place ≤ length l.text) × Writing (byte_reader l.self.bytes.tables) l.self.units.index.now l.self.units.blocks.now l.text l.initial.out l.place l.written l.out

abbrev pub decreases-loop-place : goal.decreases-loop-place
decreases-loop-place l = length l.text - l.place
