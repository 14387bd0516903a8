use Rattle.checkpoint.proofs.WriteLaws.{put_then}
use Rattle.checkpoint.proofs.writer.put_unit.Goals as goal

pub returns : goal.returns
returns c =
    put_then c.put_hex-low_at.ensures c.put_hex.ensures
