-- Definitions that the private functions' contracts cite, and that no promise does.
use Rattle.std.specs.Prelude.{true, false, List, ◌++◌, ◌≡◌, ℕ, ◌+◌, ◌-◌, ◌*◌, ◌≤◌, length, take, drop, Option, Some, None, Result, Ok, Err}
use Rattle.std.proofs.Math.Option.{Option as MathOption, none, some}
use Rattle.codepage.specs.CodePage.{entry_at, is_lead}
use Rattle.codepage.specs.Reading.{byte_alone, byte_pair, unit_alone, Reader, Code, size_of, codes}
use Rattle.codepage.specs.Reading.{Lookup}
use Rattle.std.specs.Prelude.{Ok}
use Rattle.convert.specs.Runs.{piece_limit}
use Rattle.codepage_walk.specs.Walk.{placed_from, CodeAt}
use Rattle.spelling.specs.declared.Refusal.{Refusal}
use Rattle.spelling.specs.declared.Refusal.TheVariants.{AtFault}
use Rattle.spelling.specs.declared.SpelledCode.{SpelledCode}
use Rattle.spelling.specs.Spelling.{code_spelling, first_at_fault, spelling_bytes, fault_of, bytes_for}

-- a code or none, as the functions answer it
abbrev pub option_of : MathOption ℕ → Option ℕ
option_of none = None
option_of (some code) = Some code

-- The promise of spelling the code at a place: its size, and the code that spells it.
pub record SpelledRead (r : Reader) (index blocks text : List ℕ) (place : ℕ) (c : SpelledCode) : Type 0 where
  pub code : Code
  pub at : CodeAt r text place code
  pub size : c.size ≡ size_of code
  pub spelling : c.code ≡ option_of (code_spelling r index blocks code.means)

-- so many bytes, unless some code is at fault
abbrev pub counted_unless : MathOption ℕ → (bytes : ℕ) → Result ℕ Refusal
counted_unless none bytes = Ok bytes
counted_unless (some place) bytes = Err (AtFault place)

-- what checking every code answers
unfoldable pub counted_of : Reader → (index blocks text : List ℕ) → Result ℕ Refusal
counted_of r index blocks text = counted_unless (fault_of r index blocks text) (length (bytes_for r index blocks text))

-- From one place to another no code is at fault, and the codes are spelled by these bytes.
pub record SpanSpelled (r : Reader) (spell : Lookup → MathOption ℕ) (text : List ℕ) (from to : ℕ) (bytes : List ℕ) : Type 0 where
  pub fault : first_at_fault spell (placed_from from (codes r (drop from text))) ≡ first_at_fault spell (placed_from to (codes r (drop to text)))
  pub spelled : spelling_bytes spell (codes r (drop from text)) ≡ bytes ++ spelling_bytes spell (codes r (drop to text))

-- Codes are spelled as they stand, from one place to another.
pub record SpanSame (r : Reader) (index blocks text : List ℕ) (from to : ℕ) : Type 0 where
  pub from_on : from ≤ to
  pub inside : to ≤ length text
  pub passed : SpanSpelled r (code_spelling r index blocks) text from to (take (to - from) (drop from text))

-- A spelling that is begun: up to `from` its bytes are written, and the rest fits the output.
pub record Begun (r : Reader) (index blocks text : List ℕ) (from : ℕ) (out : List ℕ) : Type 0 where
  pub short : length text ≤ piece_limit
  pub inside : from ≤ length text
  pub within : from ≤ length out
  pub passed : SpanSpelled r (code_spelling r index blocks) text 0 from (take from out)
  pub no_fault : fault_of r index blocks text ≡ none
  pub fits : length (bytes_for r index blocks text) ≤ length out

-- A byte that is a code and is spelled by itself.
pub record SameSingle (classes singles index blocks : List ℕ) (byte : ℕ) : Type 0 where
  pub single : is_lead (entry_at classes byte) ≡ false
  pub unit : ℕ
  pub character : byte_alone classes singles byte ≡ Ok unit
  pub own : unit_alone index blocks unit ≡ Ok byte

-- Two bytes that are a code and are spelled by themselves.
pub record SamePair (classes pairs index blocks : List ℕ) (first second : ℕ) : Type 0 where
  pub lead : is_lead (entry_at classes first) ≡ true
  pub unit : ℕ
  pub character : byte_pair classes pairs first second ≡ Ok unit
  pub own : unit_alone index blocks unit ≡ Ok (256 * first + second)

-- The promise of looking at two bytes, where a size is found: 1 or 2, and so many of them are spelled by themselves.
pub record SameSize (classes singles pairs index blocks : List ℕ) (first second size : ℕ) : Type 0 where
  pub some : 1 ≤ size
  pub few : size ≤ 2
  pub one : size ≡ 1 → SameSingle classes singles index blocks first
  pub two : size ≡ 2 → SamePair classes pairs index blocks first second
