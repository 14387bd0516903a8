-- Document 02, CR 3: a whole listing.
use Rattle.std.specs.Prelude.{List, [], ◌∷◌, ℕ}
use Rattle.listing.specs.declared.Progress.{Progress}
use Rattle.listing.specs.declared.Refusal.{Refusal}
use Rattle.std.specs.declared.result.Result.{Result}
use Rattle.std.specs.declared.result.Result.TheVariants.{Ok, Err}
use Rattle.listing.specs.Tables.{Tables, Reading, reading_as, line_reading}

-- what comes after an accepted line; a refusal ends the reading
abbrev pub then_read : Result Progress Refusal → Tables → (Progress → Tables → Reading) → Reading
then_read (Ok s) t next = next s t
then_read (Err why) t next = reading_as (Err why) t

-- the lines of a listing, one after the other
unfoldable pub read_all : Progress → (lines : List (List ℕ)) → Tables → Reading
read_all s [] t = reading_as (Ok s) t
read_all s (line ∷ lines) t = then_read (line_reading s line t).answer (line_reading s line t).lent (λ s' t'. read_all s' lines t')
