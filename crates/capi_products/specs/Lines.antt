-- The C interface: breaks of a byte text into lines (document 02, CR 12; docs/RULES.md, "Lines").
use Rattle.std.specs.Prelude.{List, ◌≡◌, ℕ, Result, Ok, Err}
use Rattle.codepage.specs.Lent.{over}
use Rattle.linebreak.specs.declared.Refusal.{Refusal}
use Rattle.linebreak.specs.Calls.{break_number, Proposal}
use Rattle.capi_products.specs.declared.lines.TillBreaks.{TillBreaks}

-- what a check answered, as a number: 0 for breaks that are acceptable
abbrev pub checked_out : Result (Unit {0}) Refusal → ℕ
checked_out (Ok _) = 0
checked_out (Err why) = break_number why

-- what a proposal answered, as C sees it: of a refusal the count is 0
abbrev pub proposed_out : Result ℕ Refusal → TillBreaks
proposed_out (Ok count) = record { count = count; number = 0 }
proposed_out (Err why) = record { count = 0; number = break_number why }

-- What the call gives: c is what the rules give (`proposal_of`), r what it returns, and the lent list before and after.
pub record TillProposed (c : Proposal) (r : TillBreaks) (before after : List ℕ) : Type 0 where
  pub result : r ≡ proposed_out c.answer
  pub lent : after ≡ over before c.breaks
