-- The C interface: the standard spelling (document 02, CR 8; docs/RULES.md, "Spelling").
use Rattle.std.specs.Prelude.{List, ◌≡◌, ℕ, Result, Ok, Err}
use Rattle.codepage.specs.Lent.{over}
use Rattle.spelling.specs.declared.Refusal.{Refusal}
use Rattle.spelling.specs.declared.Refusal.TheVariants.{BadShape, TooLong, AtFault, SpellingTooLong}
use Rattle.spelling.specs.Calls.{spelling_number, Spelling}
use Rattle.capi_products.specs.declared.names.TillSpelled.{TillSpelled}

-- the place of the first code at fault; 0 for another refusal
abbrev pub place_of24 : Refusal → ℕ
place_of24 BadShape = 0
place_of24 TooLong = 0
place_of24 (AtFault place) = place
place_of24 SpellingTooLong = 0

-- a refusal, as C sees it
abbrev pub refused_out : Refusal → TillSpelled
refused_out why = record { written = 0; place = place_of24 why; number = spelling_number why }

-- what the call answered, as C sees it
abbrev pub spelled_out : Result ℕ Refusal → TillSpelled
spelled_out (Ok count) = record { written = count; place = 0; number = 0 }
spelled_out (Err why) = refused_out why

-- What the call gives: c is what the rules give (`spelling_of`), r what it returns, and the lent output before and after.
pub record TillSpelledAs (c : Spelling) (r : TillSpelled) (before after : List ℕ) : Type 0 where
  pub result : r ≡ spelled_out c.answer
  pub lent : after ≡ over before c.bytes
