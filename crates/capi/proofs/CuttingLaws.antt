-- What the exported call that cuts a text gives is what the call behind it gives.
use mathlib.Core.Bool.{Bool}
use mathlib.Core.List.{List}
use mathlib.Core.Path.{◌≡◌, ap, ◌∙◌}
use Prim.Native.Nat.{ℕ}
use Rattle.fields.specs.declared.Answer.{Answer}
use Rattle.fields.specs.declared.Held.{Held}
use Rattle.fields.specs.declared.Refusal.{Refusal}
use Rattle.std.specs.Prelude.{Result}
use Rattle.fields.specs.Fields.{FieldCalled, field_call, FieldAnswered}
use Rattle.capi.specs.declared.cutting.TillField.{TillField}
use Rattle.capi.specs.Interface.{is_last}
use Rattle.capi.specs.Cutting.{field_out, cut_out, TillCut}

-- the promise of the exported call, from that of `field_call`'s
pub called_so : (held : ℕ) (buffer block : List ℕ) (last : ℕ) (mark : Bool) (o : Result Answer Refusal) (s : Held) (r : TillField) (after : List ℕ) → mark ≡ is_last last → FieldAnswered (field_call held buffer block mark) o s after
    → r ≡ field_out o s.count → TillCut held buffer block last r after
unfolding cut_out
called_so held buffer block last mark o s r after m a e =
    let called : FieldCalled = field_call held buffer block mark in
    record {
      result =
          e ∙ ap (λ (w : Result Answer Refusal). field_out w s.count) a.answer ∙ ap (field_out called.answer) a.state
          ∙ ap (λ (b : Bool). cut_out (field_call held buffer block b)) m;
      lent = a.buffer ∙ ap (λ (b : Bool). (field_call held buffer block b).buffer) m;
    }
