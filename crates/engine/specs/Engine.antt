-- Taking code after code: one engine for both directions, for a run call and for the whole reading.
-- (Document 01, "Policies and flags", "One call of a run" and, for the whole reading, "The lists of demand 3".)
-- docs/RULES.md, "Policies and flags", "A call of a run", "Lists of calls".
use Rattle.std.specs.Prelude.{Bool, true, false, List, [], ◌∷◌, ◌++◌, ℕ, ◌+◌, ◌-◌, leb, length}
use Rattle.std.proofs.Math.Option.{Option, none, some}
use Rattle.std.specs.Int.Bits.{bit_or}
use Rattle.codepage.specs.CodePage.{CodePage}
use Rattle.codepage.specs.Reading.{Reader, decoder, encoder, Code, size_of, call_codes, left_pending, codes}
use Rattle.codepage.specs.Reading.{Lookup}
use Rattle.std.specs.Prelude.{Ok, Err}
use Rattle.engine.specs.declared.Direction.{Direction}
use Rattle.engine.specs.declared.Direction.TheVariants.{Decoding, Encoding}
use Rattle.engine.specs.declared.Policy.{Policy}
use Rattle.engine.specs.declared.policies.Action.{Action}
use Rattle.engine.specs.declared.policies.Action.TheVariants.{Stop, Skip, Write}
use Rattle.engine.specs.Policies.{digit_of, flag_of, stopped_flag, action_of}

-- What a code does: the flag it sets, what it writes, and whether it stops the run.
pub record Effect : Type 0 where
  pub flag : ℕ
  pub writes : List ℕ
  pub stops : Bool

-- what an action does; the code's flag is set in each case
abbrev pub acted : ℕ → Action → Effect
acted flag Stop = record { flag = flag; writes = []; stops = true }
acted flag Skip = record { flag = flag; writes = []; stops = false }
acted flag (Write value) = record { flag = flag; writes = value ∷ []; stops = false }

-- what was found is written; else the policy's digit for its kind decides
unfoldable pub effect_of : (writes : ℕ → List ℕ) → Policy → (default first : ℕ) → Lookup → Effect
effect_of writes policy default first (Ok value) = record { flag = 0; writes = writes value; stops = false }
effect_of writes policy default first (Err kind) = acted (flag_of kind) (action_of (digit_of policy kind) default first)

-- A reader under a policy: what each code does.
pub record Converter : Type 0 where
  pub reader : Reader
  pub does : Code → Effect

-- a reader under a policy, with the default that digit 5 writes
unfoldable pub converter : Reader → Policy → ℕ → Converter
converter r policy default = record { reader = r; does = λ k. effect_of r.writes policy default k.first k.means }

-- The room for output: a number of units, or no limit.
pub data Room : Type 0 where
  limit : ℕ → Room
  endless : Room

-- whether so many units of output fit
unfoldable pub fits : Room → ℕ → Bool
fits (limit n) k = leb k n
fits endless k = true

-- the room that is left behind so many units
unfoldable pub room_left : Room → ℕ → Room
room_left (limit n) k = limit (n - k)
room_left endless k = endless

-- What feeding units gives. answer: 0 all read, 1 a unit waits, 2 the next code does not fit, 3 stopped.
-- used: the units of the codes that were taken; a unit that waits, and what was not read, is not among them.
pub record Fed : Type 0 where
  pub answer : ℕ
  pub used : ℕ
  pub output : List ℕ
  pub flags : ℕ

-- the end of a call with this answer, before any further code
unfoldable pub halt : ℕ → Fed
halt answer = record { answer = answer; used = 0; output = []; flags = 0 }

-- codes of n units that wrote ys and set the flags f, and then what `rest` is
unfoldable pub after : ℕ → List ℕ → ℕ → Fed → Fed
after n ys f rest = record { answer = rest.answer; used = n + rest.used; output = ys ++ rest.output; flags = bit_or f rest.flags }

-- Stopping reads past the code, sets its flag and 8, and writes nothing.
unfoldable pub stop_at : ℕ → Effect → Fed
stop_at n k = record { answer = 3; used = n; output = []; flags = bit_or k.flag stopped_flag }

-- A code of n units is taken only if everything it writes fits; otherwise none of it is written and its input stays unread.
-- A stopping code needs no room. `rest` is what follows a code that was taken.
unfoldable pub take_when : (stops fits : Bool) → ℕ → Effect → Fed → Fed
take_when true fitting n k rest = stop_at n k
take_when false true n k rest = after n k.writes k.flag rest
take_when false false n k rest = halt 2

-- a code of n units, met with this room
unfoldable pub take_code : Room → ℕ → Effect → Fed → Fed
take_code room n k rest = take_when k.stops (fits room (length k.writes)) n k rest

-- The codes are taken one after the other while they fit. Behind them a unit waits, or none.
abbrev pub at_end : Option ℕ → ℕ
at_end none = 0
at_end (some c) = 1

-- each code is met with the room that those before it left; `pending` is what is pending behind the last
unfoldable pub take_codes : Converter → Room → List Code → (pending : Option ℕ) → Fed
take_codes v room [] pending = halt (at_end pending)
take_codes v room (k ∷ ks) pending = take_code room (size_of k) (v.does k) (take_codes v (room_left room (length (v.does k).writes)) ks pending)

-- One call: a pending unit or none, then units. A pending unit that is the final one stays pending in a call not marked
-- last, even with no room; at the end of the whole text it is a code of its own.
unfoldable pub feed_from : Converter → (last : Bool) → Room → Option ℕ → List ℕ → Fed
feed_from v last room pending units = take_codes v room (call_codes v.reader last pending units) (left_pending v.reader last pending units)

-- a call of a run that has nothing pending
unfoldable pub feed : Converter → (last : Bool) → Room → List ℕ → Fed
feed v last room units = feed_from v last room none units

-- The whole reading: code after code of the text, with room for all, to the text's end or the first stop.
unfoldable pub whole : Reader → Policy → ℕ → List ℕ → Fed
whole r policy default text = take_codes (converter r policy default) endless (codes r text) none

-- How many of some codes have no character.
abbrev pub lacks : Lookup → ℕ
lacks (Ok value) = 0
lacks (Err kind) = 1

-- the codes without a character in a list, counted
unfoldable pub lacking_in : List Code → ℕ
lacking_in [] = 0
lacking_in (k ∷ ks) = lacks k.means + lacking_in ks

-- ---- The two directions

-- the reader of a direction, over a page's tables
abbrev pub reader_of : Direction → CodePage → Reader
reader_of Decoding p = decoder p.classes p.singles p.pairs
reader_of Encoding p = encoder p.index p.blocks

-- the default: a unit in decoding, a byte in encoding
abbrev pub default_of : Direction → CodePage → ℕ
default_of Decoding p = p.default_unit
default_of Encoding p = p.default_byte

-- the converter of a direction, on a page under a policy
abbrev pub converter_of : Direction → CodePage → Policy → Converter
converter_of direction p policy = converter (reader_of direction p) policy (default_of direction p)
