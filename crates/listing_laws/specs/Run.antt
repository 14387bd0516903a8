-- Document 02, CR 3: the writer, call after call.
use Rattle.std.specs.Prelude.{List, [], ◌∷◌, ℕ, zero, suc}
use Rattle.codepage.specs.CodePage.{CodePage}
use Rattle.lister.specs.declared.Cursor.{Cursor}
use Rattle.std.specs.declared.result.Result.{Result}
use Rattle.std.specs.declared.result.Result.TheVariants.{Ok, Err}
use Rattle.std.specs.declared.option.Option.{Option}
use Rattle.std.specs.declared.option.Option.TheVariants.{None, Some}
use Rattle.lister.specs.declared.Refusal.{Refusal}
use Rattle.lister.specs.declared.Line.{Line}
use Rattle.lister.specs.Lister.{list_of}

-- The lines of some calls, and the answer that ended them.
pub record WriterRun : Type 0 where
  pub lines : List (List ℕ)
  pub answer : Result (Option Line) Refusal

-- a line, and what comes behind it
abbrev pub line_then : (line : List ℕ) → WriterRun → WriterRun
line_then line rest = record { lines = line ∷ rest.lines; answer = rest.answer }

-- after a line the next call goes on at its cursor; any other answer ends the run
abbrev pub then_write : Result (Option Line) Refusal → (line : List ℕ) → (Cursor → WriterRun) → WriterRun
then_write (Ok (Some written)) line more = line_then line (more written.next)
then_write (Ok None) line more = record { lines = []; answer = Ok None }
then_write (Err why) line more = record { lines = []; answer = Err why }

-- so many calls at most, each with the same room, from a cursor on
unfoldable pub write_all : CodePage → (room calls : ℕ) → Cursor → WriterRun
write_all p room zero cursor = record { lines = []; answer = Ok None }
write_all p room (suc calls) cursor = then_write (list_of p cursor room).answer (list_of p cursor room).line (λ next. write_all p room calls next)
