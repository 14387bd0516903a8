-- The C interface: the call on a whole text.
use Rattle.std.specs.Prelude.{List, ◌≡◌, ℕ, Result}
use Rattle.codepage.specs.Lent.{over}
use Rattle.oneshot.specs.declared.Totals.{Totals}
use Rattle.oneshot.specs.declared.Converted.{Converted}
use Rattle.oneshot.specs.declared.TextRefusal.{TextRefusal}
use Rattle.oneshot.specs.Texts.{Text, converted_number, converted_totals, totals_or_none}
use Rattle.capi_text.specs.declared.TillText.{TillText}

-- a number and totals as C sees them
unfoldable pub text_out : (number : ℕ) → Totals → TillText
text_out number t = record { need = t.need; read = t.read; written = t.written; number = number; flags = t.flags }

-- what the call on a whole text returned, as C sees it
abbrev pub converted_out : Result Converted TextRefusal → TillText
converted_out r = text_out (converted_number r) (totals_or_none (converted_totals r))

-- What the call gives: t is what the rules give (`text_of`), r what it returns, and the lent output before and after. Of a refusal
-- all but the number is 0.
pub record TillConverted (t : Text) (r : TillText) (before after : List ℕ) : Type 0 where
  pub result : r ≡ text_out t.number (totals_or_none t.totals)
  pub lent : after ≡ over before t.output
