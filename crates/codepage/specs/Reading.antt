-- Document 01, "Reading one code from bytes" and "Reading one unit for bytes", as amended by CR 2 and CR 5: what a code means,
-- with no policy. docs/RULES.md, "Reading bytes" and "Reading units".
use Rattle.std.specs.Prelude.{Bool, true, ◌&&◌, ◌||◌, Result, Ok, Err, List, [], ◌∷◌, ◌++◌, ℕ, ◌+◌, ◌*◌, ◌/◌, ◌%◌, leb, eqb, length}
use Rattle.std.proofs.Math.Option.{Option, none, some}
use Rattle.codepage.specs.CodePage.{pick, entry_at, is_single, is_lead, is_trail, leads_below}
use Rattle.codepage.specs.declared.Kind.{Kind}
use Rattle.codepage.specs.declared.Kind.TheVariants.{UndefinedSingle, UndefinedPair, Invalid}

-- what a table says of a code: its character (in encoding, of a unit: its code), or why it has none
abbrev pub Lookup : Type 0
Lookup = Result ℕ Kind

-- what an entry says; FFFF means none
unfoldable pub lookup : Kind → ℕ → Lookup
lookup kind value = pick (eqb value 0xFFFF) (Err kind) (Ok value)

-- Reading one code from bytes.

-- One byte. Class single: its character, or undefined single. Class never, and a lead that nothing is taken with (at the end of
-- the whole text, or before a byte below 80 that may not be second): invalid.
unfoldable pub byte_alone : (classes singles : List ℕ) → ℕ → Lookup
byte_alone classes singles byte = pick (is_single (entry_at classes byte)) (lookup UndefinedSingle (entry_at singles byte)) (Err Invalid)

-- CR 2: a byte is taken with the lead before it if it may be second, or is 80 or more; else it is read afresh.
unfoldable pub byte_joins : (classes : List ℕ) → ℕ → Bool
byte_joins classes byte = is_trail (entry_at classes byte) || leb 0x80 byte

-- Two bytes. A lead followed by a byte that may be second: its character, or undefined pair. Followed by any other that is taken
-- with it: invalid.
-- The lead with j leads below it uses block j, at the second byte.
unfoldable pub byte_pair : (classes pairs : List ℕ) → ℕ → ℕ → Lookup
byte_pair classes pairs lead byte = pick (is_trail (entry_at classes byte)) (lookup UndefinedPair (entry_at pairs (256 * leads_below classes lead + byte))) (Err Invalid)

-- Reading one unit for bytes.

-- the surrogates: high D800 to DBFF, low DC00 to DFFF
unfoldable pub is_high : ℕ → Bool
is_high unit = leb 0xD800 unit && leb unit 0xDBFF

-- a low surrogate: it joins a high one before it (CR 5)
unfoldable pub is_low : ℕ → Bool
is_low unit = leb 0xDC00 unit && leb unit 0xDFFF

-- a high or a low surrogate: it is not looked up
unfoldable pub is_surrogate : ℕ → Bool
is_surrogate unit = is_high unit || is_low unit

-- A unit's code, in the block of its high half at its low half, or undefined single.
unfoldable pub unit_code : (index blocks : List ℕ) → ℕ → Lookup
unit_code index blocks unit = lookup UndefinedSingle (entry_at blocks (256 * entry_at index (unit / 256) + unit % 256))

-- One unit. A surrogate is not looked up: it is invalid.
unfoldable pub unit_alone : (index blocks : List ℕ) → ℕ → Lookup
unit_alone index blocks unit = pick (is_surrogate unit) (Err Invalid) (unit_code index blocks unit)

-- a code up to 00FF is one byte; a larger one is its high half, then its low half
unfoldable pub bytes_of : ℕ → List ℕ
bytes_of code = pick (leb code 0xFF) (code ∷ []) (code / 256 ∷ code % 256 ∷ [])

-- A reader of codes, for both directions.
pub record Reader : Type 0 where
  -- whether a unit needs a second one
  pub waits : ℕ → Bool
  -- whether a pending unit and the one after it are one code
  pub joins : ℕ → ℕ → Bool
  -- a unit alone
  pub one : ℕ → Lookup
  -- a pending unit and the one after it
  pub two : ℕ → ℕ → Lookup
  -- what is written for what was found
  pub writes : ℕ → List ℕ

-- a character's unit
abbrev pub unit_of : ℕ → List ℕ
unit_of unit = unit ∷ []

-- Decoding: a lead waits, and a byte that joins it is one code with it (CR 2).
unfoldable pub decoder : (classes singles pairs : List ℕ) → Reader
decoder classes singles pairs =
    record {
      waits = λ byte. is_lead (entry_at classes byte);
      joins = λ lead byte. byte_joins classes byte;
      one = byte_alone classes singles;
      two = byte_pair classes pairs;
      writes = unit_of;
    }

-- A high surrogate waits; followed by a low one it is one undefined single of two units.
unfoldable pub encoder : (index blocks : List ℕ) → Reader
encoder index blocks =
    record {
      waits = is_high;
      joins = λ high unit. is_low unit;
      one = unit_alone index blocks;
      two = λ high low. Err UndefinedSingle;
      writes = bytes_of;
    }

-- A code of a text: its units, a first and perhaps one more, and what it means.
pub record Code : Type 0 where
  pub first : ℕ
  pub more : List ℕ
  pub means : Lookup

-- the units of a code, in their order
abbrev pub units_of : Code → List ℕ
units_of k = k.first ∷ k.more

-- how many units are read for a code
abbrev pub size_of : Code → ℕ
size_of k = length (units_of k)

-- the code that one unit is by itself
abbrev pub alone : Reader → ℕ → Code
alone r a = record { first = a; more = []; means = r.one a }

-- the code that a pending unit and the one after it are
abbrev pub together : Reader → ℕ → ℕ → Code
together r a b = record { first = a; more = b ∷ []; means = r.two a b }

-- The code of a pending unit, settled by the one after it: both, or the pending one alone, and then the next is read afresh.
unfoldable pub settled : Reader → ℕ → ℕ → Code
settled r c b = pick (r.joins c b) (together r c b) (alone r c)

-- A call takes codes: those of a unit that waits from before, or none, and of the units after it. Which they are does not
-- depend on room or policy.

-- a unit that is read afresh: it waits, or it is a code alone
abbrev pub fresh_codes : Reader → ℕ → List Code
fresh_codes r a = pick (r.waits a) [] (alone r a ∷ [])

abbrev pub fresh_waits : Reader → ℕ → Option ℕ
fresh_waits r a = pick (r.waits a) (some a) none

-- the codes that one more unit completes, and the unit that waits then
unfoldable pub completed : Reader → Option ℕ → ℕ → List Code
completed r none a = fresh_codes r a
completed r (some c) a = settled r c a ∷ pick (r.joins c a) [] (fresh_codes r a)

-- the unit that waits behind one more unit, or none
unfoldable pub waits_then : Reader → Option ℕ → ℕ → Option ℕ
waits_then r none a = fresh_waits r a
waits_then r (some c) a = pick (r.joins c a) none (fresh_waits r a)

-- behind the final unit: at the end of the whole text (`last`) a unit that waits is a code alone, else it stays pending
unfoldable pub codes_at_end : Reader → (last : Bool) → Option ℕ → List Code
codes_at_end r last none = []
codes_at_end r last (some c) = pick last (alone r c ∷ []) []

-- the codes that a call has to take: `last` is whether its piece ends the whole text
unfoldable pub call_codes : Reader → (last : Bool) → Option ℕ → List ℕ → List Code
call_codes r last pending [] = codes_at_end r last pending
call_codes r last pending (a ∷ units) = completed r pending a ++ call_codes r last (waits_then r pending a) units

-- the unit that is pending behind these codes: none in a call marked last
unfoldable pub left_pending : Reader → (last : Bool) → Option ℕ → List ℕ → Option ℕ
left_pending r last pending [] = pick last none pending
left_pending r last pending (a ∷ units) = left_pending r last (waits_then r pending a) units

-- a pending unit or none, as a list
abbrev pub as_units : Option ℕ → List ℕ
as_units none = []
as_units (some c) = c ∷ []

-- The codes of a text, one after the other.
unfoldable pub codes : Reader → List ℕ → List Code
codes r text = call_codes r true none text
