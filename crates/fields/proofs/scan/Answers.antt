use mathlib.Core.Path.{ap, ◌∙◌}
use Rattle.std.proofs.Common.{Option, unwrap_or}
use Prim.Native.Nat.{ℕ}
use lib.ListN.{length}
use Rattle.fields.proofs.CallLaws.{scanned_size}
use Rattle.fields.proofs.scan.Goals as goal

pub returns : goal.returns
returns c =
    c.unwrap_or.ensures ∙ ap (λ (o : Option ℕ). unwrap_or o (length c.args.units.now)) c.first_separator.ensures ∙ scanned_size c.args.units.now
