use Rattle.std.proofs.Common.{length}
use Rattle.tillbox_listing.proofs.reading.take_bytes.Given as goal

abbrev pub decreases-loop-rest : goal.decreases-loop-rest
decreases-loop-rest l = length l.rest
