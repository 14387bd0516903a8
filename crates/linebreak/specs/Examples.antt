-- Document 02, CR 12: worked breaks on the sample page.
use Rattle.std.specs.Prelude.{Result, Ok, Err, List, [], ◌∷◌, ◌≡◌, ℕ, length}
use Rattle.codepage.specs.Lent.{over}
use Rattle.convert.specs.Sample.{sample_page}
use Rattle.linebreak.specs.declared.Refusal.{Refusal}
use Rattle.linebreak.specs.declared.Refusal.TheVariants.{NotAcceptable, NoneExists, ListTooShort}
use Rattle.linebreak.specs.Calls.{check_of, proposal_of}

-- a proposal: the text, the width, the lent list, the answer, and the list after it
pub record ProposeRow : Type 0 where
  pub text : List ℕ
  pub width : ℕ
  pub lent : List ℕ
  pub answer : Result ℕ Refusal
  pub after : List ℕ

abbrev break_row : List ℕ → ℕ → List ℕ → Result ℕ Refusal → List ℕ → ProposeRow
break_row text width lent answer after = record { text = text; width = width; lent = lent; answer = answer; after = after }

-- 81 40 41: a code of two bytes and one of one
abbrev pub pair_and_byte : List ℕ
pair_and_byte = 0x81 ∷ 0x40 ∷ 0x41 ∷ []

-- worked proposals on the sample page, 31 and 32 among them
abbrev pub propose_rows : List ProposeRow
propose_rows =
    -- width 2: one break, at 2; the rest of the list as before
    break_row pair_and_byte 2 (9 ∷ 9 ∷ []) (Ok 1) (2 ∷ 9 ∷ [])
    -- width 3 and over: none
    ∷ break_row pair_and_byte 3 (9 ∷ []) (Ok 0) (9 ∷ [])
    ∷ break_row pair_and_byte 0xFFFFFFFFFFFFFFFF [] (Ok 0) []
    -- width 1 and 0: no acceptable breaks exist, also where the list is too short
    ∷ break_row pair_and_byte 1 (9 ∷ 9 ∷ []) (Err NoneExists) (9 ∷ 9 ∷ [])
    ∷ break_row pair_and_byte 0 [] (Err NoneExists) []
    -- ours do not fit the list
    ∷ break_row pair_and_byte 2 [] (Err ListTooShort) []
    ∷ break_row (0x41 ∷ 0x42 ∷ 0x43 ∷ []) 1 (9 ∷ []) (Err ListTooShort) (9 ∷ [])
    ∷ break_row (0x41 ∷ 0x42 ∷ 0x43 ∷ []) 1 (9 ∷ 9 ∷ 9 ∷ []) (Ok 2) (1 ∷ 2 ∷ 9 ∷ [])
    -- the empty text, any width
    ∷ break_row [] 0 (9 ∷ []) (Ok 0) (9 ∷ [])
    -- 81 0A: the lead alone (CR 2), so a line may end behind it; 81 at the text's end is one byte
    ∷ break_row (0x81 ∷ 0x0A ∷ 0x81 ∷ []) 1 (9 ∷ 9 ∷ []) (Ok 2) (1 ∷ 2 ∷ [])
    -- 41 81 40 at width 2: the pair begins the next line
    ∷ break_row (0x41 ∷ 0x81 ∷ 0x40 ∷ []) 2 (9 ∷ []) (Ok 1) (1 ∷ [])
    ∷ []

abbrev pub ProposeHolds : ProposeRow → Type 0
ProposeHolds r = ((proposal_of sample_page r.text r.width (length r.lent)).answer ≡ r.answer) × (over r.lent (proposal_of sample_page r.text r.width (length r.lent)).breaks ≡ r.after)

-- a check: the text, the width, the breaks, and the answer
pub record CheckRow : Type 0 where
  pub text : List ℕ
  pub width : ℕ
  pub breaks : List ℕ
  pub answer : Result (Unit {0}) Refusal

abbrev good : List ℕ → ℕ → List ℕ → CheckRow
good text width breaks = record { text = text; width = width; breaks = breaks; answer = Ok tt }

abbrev bad : List ℕ → ℕ → List ℕ → CheckRow
bad text width breaks = record { text = text; width = width; breaks = breaks; answer = Err NotAcceptable }

-- worked checks on the sample page, with breaks against each condition
abbrev pub check_rows : List CheckRow
check_rows =
    good pair_and_byte 2 (2 ∷ [])
    ∷ good pair_and_byte 3 (2 ∷ [])
    ∷ good pair_and_byte 3 []
    -- a code is cut; a line over the width; a line without bytes; breaks that do not rise; the text's end listed; behind it
    ∷ bad pair_and_byte 2 (1 ∷ [])
    ∷ bad pair_and_byte 2 []
    ∷ bad pair_and_byte 2 (0 ∷ 2 ∷ [])
    ∷ bad pair_and_byte 3 (2 ∷ 2 ∷ [])
    ∷ bad pair_and_byte 3 (3 ∷ [])
    ∷ bad pair_and_byte 2 (2 ∷ 3 ∷ [])
    ∷ bad pair_and_byte 3 (0xFFFFFFFFFFFFFFFF ∷ [])
    -- the empty text takes the empty proposal
    ∷ good [] 0 []
    ∷ bad [] 5 (0 ∷ [])
    ∷ []

abbrev pub CheckHolds : CheckRow → Type 0
CheckHolds r = check_of sample_page r.text r.width r.breaks ≡ r.answer

-- of every row, the rules give the answer and the list after it
abbrev pub AllProposed : List ProposeRow → Type 0
AllProposed [] = Unit {0}
AllProposed (r ∷ rs) = ProposeHolds r × AllProposed rs

-- of every row, the rules give the answer
abbrev pub AllChecked : List CheckRow → Type 0
AllChecked [] = Unit {0}
AllChecked (r ∷ rs) = CheckHolds r × AllChecked rs
