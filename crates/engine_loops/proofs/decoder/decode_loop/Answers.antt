use mathlib.Core.Path.{refl}
use Rattle.engine_fastpath.proofs.PlainLaws.{plain_ends}
use Rattle.engine_loops.proofs.TurnedLaws.{ends_none, ends_both}
use Rattle.engine_loops.proofs.WayLaws.{way_known}
use Rattle.engine_loops.proofs.decoder.decode_loop.Goals as goal

pub returns-in-Copied : goal.returns-in-Copied
returns-in-Copied c = let known = way_known c.way_of-way.ensures c.in-Copied.is in record { value = (ends_both (ends_none _ _ _ _ _ known.0 (plain_ends _ _ _ _ known.1 refl))).0; out_after = (ends_both (ends_none _ _ _ _ _ known.0 (plain_ends _ _ _ _ known.1 refl))).1 }
