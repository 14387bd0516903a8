-- Document 02, CR 13: a form of the run call "with equal answers, output and new run". docs/RULES.md, "A call of a run".
use Rattle.convert.specs.declared.Run.{Run}
use Rattle.convert.specs.declared.Outcome.{Outcome}
use Rattle.runrecord.specs.declared.Here.{Here}

-- The record form's result with the record beside it: the outcome that the promise of a run call speaks of.
abbrev pub outcome_of : Here → (held : Run) → Outcome
outcome_of here held = record { answer = here.answer; read = here.read; written = here.written; run = held }
