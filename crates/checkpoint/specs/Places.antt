-- Definitions that the private functions' contracts cite, and that no promise does: what is read and written at a place of a
-- line.
use Rattle.std.specs.Prelude.{Bool, List, ◌++◌, ◌≡◌, ℕ, ◌+◌, leb, length, drop}
use Rattle.std.proofs.Math.Option.{Option, none, some}
use Rattle.std.proofs.lemmas.List.Edits.{sets}
use Rattle.std.specs.declared.option.Option.{Option as Answer}
use Rattle.std.specs.declared.option.Option.TheVariants.{None, Some}
use Rattle.codepage.specs.CodePage.{pick}
use Rattle.convert.specs.declared.Run.{Run}
use Rattle.checkpoint.specs.declared.reader.Found.{Found}
use Rattle.checkpoint.specs.Line.{decimal, letter_of, digits_of, field_of, Parsed, Parser, succeed, ◌>>=◌}

-- the bytes of a line from a place on; a place behind its end has none
unfoldable pub from : (line : List ℕ) → (place : ℕ) → Option (List ℕ)
from line place = pick (leb place (length line)) (some (drop place line)) none

-- what a parser reads at a place
unfoldable pub read_at : {A : Type 0} → Parser A → (line : List ℕ) → (place : ℕ) → Option (Parsed A)
read_at p line place = elim (from line place) [ none ↦ none | some rest ↦ p rest ]

-- a value that was found, and the place behind it
abbrev pub found_at : {A : Type 0} → A → (line : List ℕ) → (place : ℕ) → Option (Parsed A)
found_at a line place = read_at (succeed a) line place

-- the value that a function gives, if it gives one
abbrev pub given : {A : Type 0} → Answer A → Option A
given None = none
given (Some a) = some a

-- what a function found at a place of a line, and the bytes behind it
abbrev pub found : {A : Type 0} → (line : List ℕ) → Answer (Found A) → Option (Parsed A)
found line None = none
found line (Some f) = found_at f.value line f.next

-- what closes a line, if that is what is left of it
abbrev pub closed : (line : List ℕ) → Answer Bool → Option (Parsed Bool)
closed line None = none
closed line (Some ended) = found_at ended line (length line)

-- a number that is read only if it is at most a limit
unfoldable pub at_most : (limit number : ℕ) → Parser ℕ
at_most limit number bytes = pick (leb number limit) (succeed number bytes) none

-- a parser whose number is read only if it is at most a limit
unfoldable pub up_to : (limit : ℕ) → Parser ℕ → Parser ℕ
up_to limit p = p >>= at_most limit

-- the fields of what a run was started with: letter, page and digits
abbrev pub start_fields : Run → List ℕ
start_fields run = field_of (letter_of run.direction) ++ field_of (decimal run.page) ++ field_of (digits_of run.policy)

-- the fields of what a run gathered: flags, read and written
abbrev pub total_fields : Run → List ℕ
total_fields run = field_of (decimal run.flags) ++ field_of (decimal run.read) ++ field_of (decimal run.written)

-- some bytes are laid over a list from a place on, and `next` is the place behind them
pub record Put (bytes before : List ℕ) (place next : ℕ) (after : List ℕ) : Type 0 where
  pub next_is : next ≡ place + length bytes
  pub lent : after ≡ sets before place bytes
