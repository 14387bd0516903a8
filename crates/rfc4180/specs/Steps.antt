-- What the inner functions promise.
use Rattle.std.specs.Prelude.{Bool, true, false, List, [], ◌∷◌, ◌++◌, ◌≡◌, ℕ, ◌+◌, length, take, drop, count_by, nat_eq}
use Rattle.codepage.specs.CodePage.{pick}
use Rattle.rfc4180.specs.Csv.{escaped_field}
use Rattle.rfc4180.specs.Records.{break_if}

-- units laid over a slice from a place on; every other unit is as before
unfoldable pub laid_at : (before : List ℕ) → (place : ℕ) → (units : List ℕ) → List ℕ
laid_at before place units = (take place before ++ units) ++ drop (place + length units) before

-- units were laid at a place, and r is the place behind them
pub record LaidAt (before after : List ℕ) (place : ℕ) (units : List ℕ) (r : ℕ) : Type 0 where
  pub lent : after ≡ laid_at before place units
  pub next : r ≡ place + length units

-- 1 for a unit that is wanted, else 0
abbrev pub count_if : Bool → ℕ
count_if true = 1
count_if false = 0

-- units, if they are wanted
unfoldable pub when : Bool → (units : List ℕ) → List ℕ
when wanted units = pick wanted units []

-- how many quotes a field has
abbrev pub quotes_in : (field : List ℕ) → ℕ
quotes_in field = count_by (λ (unit : ℕ). nat_eq unit 0x22) field

-- the field's units, each quote written twice, and quotes around them if they are wanted
unfoldable pub in_quotes : (quotes : Bool) → (field : List ℕ) → List ℕ
in_quotes quotes field = when quotes (0x22 ∷ []) ++ (escaped_field field ++ when quotes (0x22 ∷ []))

-- The text of a call, in the order in which it is laid: a comma if the record is begun, the field, a line break if it is closed.
unfoldable pub in_order : (begun quotes closed : Bool) → (field : List ℕ) → List ℕ
in_order begun quotes closed field = when begun (0x2C ∷ []) ++ (in_quotes quotes field ++ break_if closed)
