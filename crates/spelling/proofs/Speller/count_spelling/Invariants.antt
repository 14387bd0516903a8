use Prim.Native.Nat.{◌-◌, ◌*◌, ◌≤◌}
use lib.ListN.{length}
use Rattle.codepage_lookup.specs.Tables.{byte_reader}
use Rattle.spelling.proofs.LoopLaws.{Counting}
use Rattle.spelling.proofs.Speller.count_spelling.Given as goal

abbrev pub invariant-loop-place : goal.invariant-loop-place
invariant-loop-place l = (l.place ≤ length l.text) × (l.bytes ≤ 2 * l.place) × Counting (byte_reader l.self.bytes.tables) l.self.units.index.now l.self.units.blocks.now l.text l.place l.bytes

abbrev pub decreases-loop-place : goal.decreases-loop-place
decreases-loop-place l = length l.text - l.place
