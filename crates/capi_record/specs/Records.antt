-- Document 02, CR 13, for C: the run call over one run record.
use Rattle.capi.specs.declared.TillRun.{TillRun}
use Rattle.capi.specs.declared.TillOutcome.{TillOutcome}
use Rattle.capi_record.specs.declared.TillHere.{TillHere}

-- The record form's result with the record beside it: the outcome that the promise of a run call speaks of.
abbrev pub till_outcome_of : TillHere → (held : TillRun) → TillOutcome
till_outcome_of here held = record { run = held; read = here.read; written = here.written; number = here.number }
