-- The C interface: a field as numbers, and what the exported call that cuts a text gives.
use Rattle.std.specs.Prelude.{List, ◌≡◌, ℕ, Result, Ok, Err}
use Rattle.fields.specs.declared.End.{End}
use Rattle.fields.specs.declared.End.TheVariants.{Bar, LineFeed, Text}
use Rattle.fields.specs.declared.Place.{Place}
use Rattle.fields.specs.declared.Place.TheVariants.{Buffer, Block}
use Rattle.fields.specs.declared.Answer.{Answer}
use Rattle.fields.specs.declared.Answer.TheVariants.{Field as FieldFound, Incomplete}
use Rattle.fields.specs.declared.Refusal.{Refusal}
use Rattle.fields.specs.Fields.{FieldCalled, field_call, refusal_number}
use Rattle.capi.specs.declared.cutting.TillField.{TillField}
use Rattle.capi.specs.Interface.{is_last}

-- 0 is no end
abbrev pub end_out : End → ℕ
end_out Bar = 1
end_out LineFeed = 2
end_out Text = 3

-- where a field lies: 0 in the buffer, 1 in the block
abbrev pub place_out : Place → ℕ
place_out Buffer = 0
place_out Block = 1

-- a refusal: nothing is read, and as many units are held as before
unfoldable pub refused_field : (held number : ℕ) → TillField
refused_field held number = record { read = 0; count = 0; held = held; number = number; end = 0; place = 0 }

-- the answer of a call as numbers, with the units that are held after it. number: 0 a field, 1 none is complete, or the refusal's
unfoldable pub field_out : Result Answer Refusal → (held : ℕ) → TillField
field_out (Ok (FieldFound found)) held =
    record { read = found.read; count = found.count; held = held; number = 0; end = end_out found.end; place = place_out found.place }
field_out (Ok (Incomplete read)) held = record { read = read; count = 0; held = held; number = 1; end = 0; place = 0 }
field_out (Err refusal) held = refused_field held (refusal_number refusal)

-- What the call gives: that of `field_call`, and every unit of the buffer. Any mark but 0 is last.
unfoldable pub cut_out : FieldCalled → TillField
cut_out called = field_out called.answer called.held

-- The promise of the exported call: what it returns, and the buffer after it.
pub record TillCut (held : ℕ) (buffer block : List ℕ) (last : ℕ) (r : TillField) (after : List ℕ) : Type 0 where
  pub result : r ≡ cut_out (field_call held buffer block (is_last last))
  pub lent : after ≡ (field_call held buffer block (is_last last)).buffer
