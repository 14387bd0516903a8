-- Document 02, CR 3: a whole listing of a table set, and the sizes that a whole listing needs.
use Rattle.std.specs.Prelude.{List, [], ◌∷◌, ℕ, zero, suc}
use Rattle.codepage.specs.CodePage.{CodePage, pick}
use Rattle.listing.specs.declared.Progress.{Progress}
use Rattle.codepage.specs.declared.Sizes.{Sizes}
use Rattle.listing.specs.Form.{record_of}
use Rattle.listing.specs.Order.{nothing_read, after_record, sizes_listed}
use Rattle.lister.specs.Lines.{record_line}
use Rattle.lister.specs.Lister.{places, record_at, is_record}

-- the lines of so many places
unfoldable pub lines_from : CodePage → (count place : ℕ) → List (List ℕ)
lines_from p zero place = []
lines_from p (suc count) place = pick (is_record (record_at p place)) (record_line (record_at p place) ∷ lines_from p count (suc place)) (lines_from p count (suc place))

-- the lines of all places
unfoldable pub whole_listing : CodePage → List (List ℕ)
whole_listing p = lines_from p places 0

-- what has been read after some lines, if each of them is accepted
unfoldable pub progress_after : Progress → (lines : List (List ℕ)) → Progress
progress_after s [] = s
progress_after s (line ∷ lines) = progress_after (after_record s (record_of line)) lines

-- The sizes that a whole listing needs: those that its end reports. They are whole classes, singles and index, 256 pairs for each `L`, one
-- empty block and one for each high half among the `W` units, but for a 256th.
abbrev pub needed_sizes : (lines : List (List ℕ)) → Sizes
needed_sizes lines = sizes_listed (progress_after nothing_read lines)
