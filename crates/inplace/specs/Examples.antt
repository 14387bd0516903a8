-- Document 02, CR 9, worked out on the little page of document 01: calls with their answers and the buffer after them.
use Rattle.std.specs.Prelude.{List, [], ◌∷◌, ◌≡◌, ℕ, Result, Ok, Err}
use Rattle.convert.specs.Sample.{sample_page}
use Rattle.engine.specs.declared.Policy.{Policy}
use Rattle.engine.specs.Policies.{digits, standard, replacing, skipping}
use Rattle.inplace.specs.declared.Refusal.{Refusal}
use Rattle.inplace.specs.declared.Refusal.TheVariants.{BadPolicy, OddBytes}
use Rattle.inplace.specs.declared.Ending.{Ending}
use Rattle.inplace.specs.declared.Ending.TheVariants as ending
use Rattle.inplace.specs.declared.Encoded.{Encoded}
use Rattle.inplace.specs.InPlace.{in_place_of}

-- the policy, the buffer, the answer, and the buffer after the call
pub record BufferRow : Type 0 where
  pub policy : Policy
  pub buffer : List ℕ
  pub answer : Result Encoded Refusal
  pub after : List ℕ

abbrev buffer_row : Policy → List ℕ → Result Encoded Refusal → List ℕ → BufferRow
buffer_row policy buffer answer after = record { policy = policy; buffer = buffer; answer = answer; after = after }

-- an answer that is no refusal
abbrev ended : Ending → (flags read written : ℕ) → Result Encoded Refusal
ended ending flags read written = Ok (record { ending = ending; flags = flags; read = read; written = written })

-- the rows
abbrev pub buffer_rows : List BufferRow
buffer_rows =
    -- 3000 0041: a code of two bytes, one of one; byte 3 is as it was
    buffer_row replacing (0x00 ∷ 0x30 ∷ 0x41 ∷ 0x00 ∷ []) (ended ending.All 0 2 3) (0x81 ∷ 0x40 ∷ 0x41 ∷ 0x00 ∷ [])
    -- 3000 3001 4E00: two_byte codes all along; every byte is written
    ∷ buffer_row replacing (0x00 ∷ 0x30 ∷ 0x01 ∷ 0x30 ∷ 0x00 ∷ 0x4E ∷ []) (ended ending.All 0 3 6) (0x81 ∷ 0x40 ∷ 0x81 ∷ 0x41 ∷ 0x82 ∷ 0x7C ∷ [])
    -- FFFF stops under 055: nothing is written
    ∷ buffer_row (digits 0 5 5) (0xFF ∷ 0xFF ∷ []) (ended ending.Stopped 9 1 0) (0xFF ∷ 0xFF ∷ [])
    -- 0041 FFFF 0042: stopped in the middle, the result so far is at the front
    ∷ buffer_row (digits 0 5 5) (0x41 ∷ 0x00 ∷ 0xFF ∷ 0xFF ∷ 0x42 ∷ 0x00 ∷ []) (ended ending.Stopped 9 2 1) (0x41 ∷ 0x00 ∷ 0xFF ∷ 0xFF ∷ 0x42 ∷ 0x00 ∷ [])
    -- D83D DE00: a pair of surrogates is one code, replaced by one byte
    ∷ buffer_row replacing (0x3D ∷ 0xD8 ∷ 0x00 ∷ 0xDE ∷ []) (ended ending.All 1 2 1) (0x3F ∷ 0xD8 ∷ 0x00 ∷ 0xDE ∷ [])
    -- DE00 D83D: both alone, invalid
    ∷ buffer_row replacing (0x00 ∷ 0xDE ∷ 0x3D ∷ 0xD8 ∷ []) (ended ending.All 4 2 2) (0x3F ∷ 0x3F ∷ 0x3D ∷ 0xD8 ∷ [])
    -- FFFF skipped: nothing is written
    ∷ buffer_row skipping (0xFF ∷ 0xFF ∷ 0x41 ∷ 0x00 ∷ []) (ended ending.All 1 2 1) (0x41 ∷ 0xFF ∷ 0x41 ∷ 0x00 ∷ [])
    -- the empty buffer
    ∷ buffer_row standard [] (ended ending.All 0 0 0) []
    -- 17 ahead of 26; 26
    ∷ buffer_row (digits 6 5 5) (0x41 ∷ []) (Err BadPolicy) (0x41 ∷ [])
    ∷ buffer_row standard (0x41 ∷ 0x00 ∷ 0x42 ∷ []) (Err OddBytes) (0x41 ∷ 0x00 ∷ 0x42 ∷ [])
    ∷ []

-- what a row says
abbrev pub BufferRowHolds : BufferRow → Type 0
BufferRowHolds r = ((in_place_of r.policy sample_page r.buffer).answer ≡ r.answer) × ((in_place_of r.policy sample_page r.buffer).buffer ≡ r.after)

-- each row
abbrev pub AllBufferHold : List BufferRow → Type 0
AllBufferHold [] = Unit {0}
AllBufferHold (r ∷ rs) = BufferRowHolds r × AllBufferHold rs
