-- The C interface: units encoded inside the one buffer that holds them (document 02, CR 9; docs/RULES.md, "One buffer").
use Rattle.std.specs.Prelude.{List, ◌≡◌, ℕ, Result, Ok, Err}
use Rattle.inplace.specs.declared.Encoded.{Encoded}
use Rattle.inplace.specs.declared.Refusal.{Refusal}
use Rattle.inplace.specs.InPlace.{ending_number, buffer_number, InPlace}
use Rattle.capi_products.specs.declared.buffer.TillInPlace.{TillInPlace}

-- what the call answered, as C sees it: of a refusal all but the number is 0
abbrev pub encoded_out : Result Encoded Refusal → TillInPlace
encoded_out (Ok encoded) = record { read = encoded.read; written = encoded.written; number = ending_number encoded.ending; flags = encoded.flags }
encoded_out (Err why) = record { read = 0; written = 0; number = buffer_number why; flags = 0 }

-- What the call gives: c is what the rules give (`in_place_of`), r what it returns, and the buffer after it.
pub record TillEncodedAs (c : InPlace) (r : TillInPlace) (after : List ℕ) : Type 0 where
  pub result : r ≡ encoded_out c.answer
  pub lent : after ≡ c.buffer
