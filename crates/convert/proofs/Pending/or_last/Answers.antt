use mathlib.Core.Path.{sym, ap, ◌∙◌}
use Rattle.std.specs.Option.{option_copied}
use Rattle.convert.proofs.CallLaws.{final_last}
use Rattle.convert.proofs.Pending.or_last.Goals as goal

pub returns-in-Some : goal.returns-in-Some
returns-in-Some g c =
    c.pending.ensures
    ∙ final_last g.I.Input.direction g.I.Input.unit c.args.self c.args.piece.now _ (g.met.I.Input.each_unit c.args.piece.now) _ (sym c.last.ensures.value ∙ ap option_copied c.in-Some.is)
