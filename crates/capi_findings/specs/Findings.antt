-- The C interface: the findings of a byte text (document 02, CR 7; docs/RULES.md, "Findings").
use Rattle.std.specs.Prelude.{List, ◌≡◌, ℕ, Result, Ok, Err}
use Rattle.findings.specs.declared.Finding.{Finding}
use Rattle.findings.specs.declared.Refusal.{Refusal}
use Rattle.findings.specs.Findings.{filled_front}
use Rattle.findings.specs.Calls.{findings_number, FindingsCall}
use Rattle.capi_findings.specs.declared.TillFindings.{TillFindings}

-- what the call answered, as C sees it: of a refusal the count is 0
abbrev pub findings_out : Result ℕ Refusal → TillFindings
findings_out (Ok count) = record { count = count; number = 0 }
findings_out (Err why) = record { count = 0; number = findings_number why }

-- What the call gives: c is what the rules give (`findings_call`), r what it returns, and the lent list before and after.
pub record TillListed (c : FindingsCall) (r : TillFindings) (before after : List Finding) : Type 0 where
  pub result : r ≡ findings_out c.answer
  pub lent : after ≡ filled_front before c.entries
