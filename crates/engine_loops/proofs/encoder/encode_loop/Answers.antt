use Rattle.engine_fastpath.proofs.PlainLaws.{plain_ends}
use Rattle.engine_loops.proofs.TurnedLaws.{ends_none, ends_both}
use Rattle.engine_loops.proofs.encoder.encode_loop.Goals as goal

pub returns-then-copied_plain : goal.returns-then-copied_plain
returns-then-copied_plain c = record { value = (ends_both (ends_none _ _ _ _ _ (c.copied_plain.ensures.0 c.if-copied_plain.true) (plain_ends _ _ _ _ c.copied_plain.ensures.1 c.if-copied_plain.true))).0; out_after = (ends_both (ends_none _ _ _ _ _ (c.copied_plain.ensures.0 c.if-copied_plain.true) (plain_ends _ _ _ _ c.copied_plain.ensures.1 c.if-copied_plain.true))).1 }
