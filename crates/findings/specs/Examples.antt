-- Document 02, CR 7: worked calls on the sample page.
use Rattle.std.specs.Prelude.{List, [], ◌∷◌, ◌≡◌, ℕ, Result, Ok, Err}
use Rattle.codepage.specs.CodePage.{CodePage}
use Rattle.engine.specs.declared.Policy.{Policy}
use Rattle.engine.specs.Policies.{digits}
use Rattle.convert.specs.Sample.{sample_page}
use Rattle.findings.specs.declared.Finding.{Finding}
use Rattle.findings.specs.declared.Refusal.{Refusal}
use Rattle.findings.specs.declared.Refusal.TheVariants.{BadPolicy, BadShape}
use Rattle.findings.specs.Findings.{filled_front}
use Rattle.findings.specs.Calls.{findings_call}

-- a finding of one byte, and of two
abbrev pub of_one_byte : (place kind first digit : ℕ) → Finding
of_one_byte place kind first digit = record { place = place; kind = kind; size = 1; first = first; second = 0; digit = digit }

abbrev pub of_two_bytes : (place kind first second digit : ℕ) → Finding
of_two_bytes place kind first second digit = record { place = place; kind = kind; size = 2; first = first; second = second; digit = digit }

-- what an entry holds before the call
abbrev pub old : Finding
old = record { place = 7; kind = 7; size = 7; first = 7; second = 7; digit = 7 }

-- a call: the page, the policy, the text, the lent list before it, the answer, and the list after it
pub record FindingsRow : Type 0 where
  pub page : CodePage
  pub policy : Policy
  pub text : List ℕ
  pub before : List Finding
  pub answer : Result ℕ Refusal
  pub after : List Finding

abbrev finds_row : Policy → List ℕ → List Finding → ℕ → List Finding → FindingsRow
finds_row policy text before number after = record { page = sample_page; policy = policy; text = text; before = before; answer = Ok number; after = after }

-- the text of document 02's readings: an undefined single, a lead before a byte that is read afresh, and a lead at the end
abbrev damaged : List ℕ
damaged = 0x80 ∷ 0x81 ∷ 0x0A ∷ 0x82 ∷ []

-- the sample page without its page number
abbrev pageless : CodePage
pageless =
    record {
      page = 0;
      default_byte = sample_page.default_byte;
      default_unit = sample_page.default_unit;
      classes = sample_page.classes;
      singles = sample_page.singles;
      pairs = sample_page.pairs;
      index = sample_page.index;
      blocks = sample_page.blocks;
    }

-- the rows
abbrev pub findings_rows : List FindingsRow
findings_rows =
    finds_row (digits 5 5 5) [] (old ∷ []) 0 (old ∷ [])
    ∷ finds_row (digits 5 5 5) (0x41 ∷ 0x82 ∷ 0x7C ∷ 0x0A ∷ []) (old ∷ []) 0 (old ∷ [])
    -- digit 0 stops: its finding is the last
    ∷ finds_row (digits 0 5 5) damaged (old ∷ old ∷ []) 1 (of_one_byte 0 1 0x80 0 ∷ old ∷ [])
    ∷ finds_row (digits 5 5 0) damaged (old ∷ old ∷ old ∷ []) 2 (of_one_byte 0 1 0x80 5 ∷ of_one_byte 1 4 0x81 0 ∷ old ∷ [])
    -- the true number, whatever the list has room for
    ∷ finds_row (digits 5 5 5) damaged [] 3 []
    ∷ finds_row (digits 5 5 5) damaged (old ∷ []) 3 (of_one_byte 0 1 0x80 5 ∷ [])
    ∷ finds_row (digits 5 5 5) damaged (old ∷ old ∷ []) 3 (of_one_byte 0 1 0x80 5 ∷ of_one_byte 1 4 0x81 5 ∷ [])
    ∷ finds_row (digits 5 5 5) damaged (old ∷ old ∷ old ∷ old ∷ []) 3 (of_one_byte 0 1 0x80 5 ∷ of_one_byte 1 4 0x81 5 ∷ of_one_byte 3 4 0x82 5 ∷ old ∷ [])
    -- a digit of each kind: 6, 1, 3
    ∷ finds_row (digits 6 1 3) (0x41 ∷ 0x80 ∷ 0x81 ∷ 0x5A ∷ 0x83 ∷ []) (old ∷ old ∷ old ∷ []) 3 (of_one_byte 1 1 0x80 6 ∷ of_two_bytes 2 2 0x81 0x5A 1 ∷ of_one_byte 4 4 0x83 3 ∷ [])
    -- a lead and a byte of 80 or more that may not be second: two bytes; and 00 behind a lead is read afresh
    ∷ finds_row (digits 5 5 5) (0x82 ∷ 0x80 ∷ 0x82 ∷ 0x00 ∷ []) (old ∷ old ∷ []) 2 (of_two_bytes 0 4 0x82 0x80 5 ∷ of_one_byte 2 4 0x82 5 ∷ [])
    -- refused: 17 before 10, and the list is as it was
    ∷ record { page = pageless; policy = digits 5 6 5; text = damaged; before = old ∷ []; answer = Err BadPolicy; after = old ∷ [] }
    ∷ record { page = pageless; policy = digits 5 5 5; text = damaged; before = old ∷ []; answer = Err BadShape; after = old ∷ [] }
    ∷ []

-- what a row says
abbrev pub FindingsRowHolds : FindingsRow → Type 0
FindingsRowHolds r = ((findings_call r.policy r.page r.text).answer ≡ r.answer) × (filled_front r.before (findings_call r.policy r.page r.text).entries ≡ r.after)

-- each row
abbrev pub AllHold : List FindingsRow → Type 0
AllHold [] = Unit {0}
AllHold (r ∷ rs) = FindingsRowHolds r × AllHold rs
