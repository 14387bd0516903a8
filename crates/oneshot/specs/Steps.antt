-- Definitions that the private functions' contracts cite, and that no promise does.
use Rattle.engine.specs.declared.progress.Progress.{Progress}
use Rattle.std.specs.Prelude.{ℕ, Result, Ok, Err}
use Rattle.oneshot.specs.declared.Totals.{Totals}
use Rattle.oneshot.specs.declared.TextRefusal.{TextRefusal}
use Rattle.oneshot.specs.Texts.{refused_number}

-- what a text gave, from the numbers of the whole reading and of the conversion
abbrev pub totals_by : (whole made : Progress) → Totals
totals_by whole made = record { flags = whole.flags; read = made.used; need = whole.written; written = made.written }

-- the number that checks refuse with, or 0
abbrev pub refused_as : {A : Type 0} → Result A TextRefusal → ℕ
refused_as (Ok passed) = 0
refused_as (Err refusal) = refused_number refusal
