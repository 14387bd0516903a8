use Rattle.capi.proofs.InterfaceLaws.{refused_saved, line_saved}
use mathlib.Core.Path.{◌∙◌, sym, refl}
use Rattle.capi.proofs.till_save.Goals as goal

pub returns-then-not-is_run : goal.returns-then-not-is_run
returns-then-not-is_run c = refused_saved _ _ _ (sym c.is_run.ensures ∙ c.if-not-is_run.true) refl refl

pub returns : goal.returns
returns c = let named = sym c.is_run.ensures ∙ c.if-not-is_run.false in
    line_saved _ _ _ _ _ _ named c.run_on-inner.ensures c.write-written.ensures c.from.ensures.0 c.from.ensures.1
