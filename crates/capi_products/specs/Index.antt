-- The C interface: the index of a journal (document 02, CR 11; docs/RULES.md, "Index").
use Rattle.std.specs.Prelude.{List, ◌≡◌, ℕ, Result, Ok, Err}
use Rattle.charindex.specs.declared.Found.{Found}
use Rattle.charindex.specs.declared.Refusal.{Refusal}
use Rattle.charindex.specs.Calls.{index_number, Appending}
use Rattle.capi_products.specs.declared.index.TillAppended.{TillAppended}
use Rattle.capi_products.specs.declared.index.TillFound.{TillFound}

-- what appending answered, as C sees it: of a refusal the count is 0
abbrev pub appended_out : Result ℕ Refusal → TillAppended
appended_out (Ok count) = record { count = count; number = 0 }
appended_out (Err why) = record { count = 0; number = index_number why }

-- what finding answered, as C sees it: of a refusal place and length are 0
abbrev pub found_out : Result Found Refusal → TillFound
found_out (Ok found) = record { place = found.place; length = found.length; number = 0 }
found_out (Err why) = record { place = 0; length = 0; number = index_number why }

-- What the call gives: c is what the rules give (`appending_of`), r what it returns, and the index after it.
pub record TillIndexed (c : Appending) (r : TillAppended) (after : List ℕ) : Type 0 where
  pub result : r ≡ appended_out c.answer
  pub lent : after ≡ c.entries
