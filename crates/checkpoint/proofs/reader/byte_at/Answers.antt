use mathlib.Core.Path.{sym}
use Rattle.checkpoint.specs.Line.{hex_pair, hex_pending}
use Rattle.checkpoint.proofs.PlaceLaws.{read_then, read_then_none, nothing}
use Rattle.checkpoint.proofs.reader.byte_at.Goals as goal

pub returns-in_err-byte : goal.returns-in_err-byte
unfolding hex_pending
returns-in_err-byte c = nothing _ _ _ c.from_residual.ensures (read_then_none hex_pair _ _ _ (sym c.in_err-byte.ensures))

pub returns : goal.returns
unfolding hex_pending
returns c = sym (read_then hex_pair _ _ _ _ _ c.in_ok-byte.ensures)
