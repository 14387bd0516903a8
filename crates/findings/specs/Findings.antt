-- Document 02, CR 7: the findings of a byte text under a policy: the codes that have no character. Places count from 0.
use Rattle.std.specs.Prelude.{List, [], ◌∷◌, ℕ, eqb, drop}
use Rattle.codepage.specs.CodePage.{pick}
use Rattle.codepage.specs.Reading.{Reader, size_of, codes}
use Rattle.codepage.specs.declared.Kind.{Kind}
use Rattle.codepage.specs.Reading.{Lookup}
use Rattle.std.specs.Prelude.{Ok, Err}
use Rattle.engine.specs.declared.Policy.{Policy}
use Rattle.engine.specs.Policies.{digit_of, flag_of}
use Rattle.codepage_walk.specs.Walk.{Placed, placed_from, placed}
use Rattle.findings.specs.declared.Finding.{Finding}

-- "the bytes": the second byte of a code, or 0 where it has one
abbrev pub second_of : (more : List ℕ) → ℕ
second_of [] = 0
second_of (byte ∷ bytes) = byte

-- What is told of a code of a kind: "place (of the first byte, from 0), kind, the bytes, and the policy digit that was applied". The kind
-- is told by its flag.
abbrev pub code_finding : Policy → Kind → Placed → Finding
code_finding policy kind c =
    record {
      place = c.place;
      kind = flag_of kind;
      size = size_of c.code;
      first = c.code.first;
      second = second_of c.code.more;
      digit = digit_of policy kind;
    }

-- a finding, and those behind it: digit 0 stops the reading
abbrev pub until_stop : Finding → (later : List Finding) → List Finding
until_stop f later = f ∷ pick (eqb f.digit 0) [] later

-- a code that has a character is no finding
abbrev pub finding_then : Policy → Placed → Lookup → (later : List Finding) → List Finding
finding_then policy c (Ok unit) later = later
finding_then policy c (Err kind) later = until_stop (code_finding policy kind c) later

-- the findings among codes that follow one another: "in order of place, until .. the reading ends"
unfoldable pub findings_in : Policy → List Placed → List Finding
findings_in policy [] = []
findings_in policy (c ∷ cs) = finding_then policy c c.code.means (findings_in policy cs)

-- THE FINDINGS of a text under a policy.
unfoldable pub findings_of : Reader → Policy → (text : List ℕ) → List Finding
findings_of r policy text = findings_in policy (placed r text)

-- The findings from a place on, at which a code begins.
unfoldable pub findings_from : Reader → Policy → (text : List ℕ) → (place : ℕ) → List Finding
findings_from r policy text place = findings_in policy (placed_from place (codes r (drop place text)))

-- "until the list is full": a lent list after as many findings as it has room for were put to its front. "Entries beyond those filled do
-- not change."
abbrev pub filled_front : (before findings : List Finding) → List Finding
filled_front [] fs = []
filled_front (entry ∷ entries) [] = entry ∷ entries
filled_front (entry ∷ entries) (f ∷ fs) = f ∷ filled_front entries fs
