use Rattle.capi.proofs.InterfaceLaws.{call_answered}
use Rattle.capi.specs.Interface.{run_on}
use Rattle.engine.specs.declared.Direction.TheVariants.{Decoding}
use mathlib.Core.Path.{◌∙◌, ap}
use Prim.Native.Nat.{ℕ}
use Rattle.capi.proofs.till_decode.Goals as goal

pub returns : goal.returns
returns c =
    let inner = c.run_on-inner.ensures ∙ ap (λ (page : ℕ). run_on page c.args.run) c.page_named.ensures in
    call_answered Decoding _ _ _ _ _ _ _ _ _ _ inner c.is_last.ensures (rw c.table_set-tables.ensures at c.decode-o.ensures) c.answer_out.ensures
