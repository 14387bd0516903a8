-- Definitions that the private functions' contracts cite, and that no promise does.
use Rattle.std.specs.Prelude.{List, [], ◌∷◌, ◌≡◌, ℕ, ◌+◌, ◌≤◌, ◌<◌, eqb, ltb, length, Option, Some, None}
use Rattle.codepage.specs.CodePage.{pick, entry_at}
use Rattle.codepage.specs.Reading.{Reader}
use Rattle.codepage.specs.declared.Kind.{Kind}
use Rattle.engine.specs.declared.Policy.{Policy}
use Rattle.engine.specs.Policies.{digit_of, flag_of}
use Rattle.findings.specs.declared.Finding.{Finding}
use Rattle.findings.specs.declared.Located.{Located}
use Rattle.findings.specs.declared.Looked.{Looked}
use Rattle.findings.specs.Findings.{findings_from, filled_front}

-- the finding of a code of a kind, by its place and size
abbrev pub finding_at : Policy → Kind → (text : List ℕ) → (place size : ℕ) → Finding
finding_at policy kind text place size =
    record {
      place = place;
      kind = flag_of kind;
      size = size;
      first = entry_at text place;
      second = pick (ltb 1 size) (entry_at text (place + 1)) 0;
      digit = digit_of policy kind;
    }

-- the findings behind one that ends at a place: none if it stops the reading
unfoldable pub behind : Reader → Policy → (text : List ℕ) → Finding → (end : ℕ) → List Finding
behind r policy text f end = pick (eqb f.digit 0) [] (findings_from r policy text end)

-- the findings of what is at a place, and those behind it
abbrev pub with_behind : Reader → Policy → (text : List ℕ) → Option Finding → (end : ℕ) → List Finding
with_behind r policy text None end = findings_from r policy text end
with_behind r policy text (Some f) end = f ∷ behind r policy text f end

-- The promise of looking at the code at a place: a finding with those behind it, or those behind it alone.
pub record LookedAt (r : Reader) (policy : Policy) (text : List ℕ) (place : ℕ) (s : Looked) : Type 0 where
  pub ahead : place < s.end
  pub inside : s.end ≤ length text
  pub all : findings_from r policy text place ≡ with_behind r policy text s.finding s.end

-- From one place to another there is no finding.
pub record Passed (r : Reader) (policy : Policy) (text : List ℕ) (from to : ℕ) : Type 0 where
  pub ahead : from ≤ to
  pub inside : to ≤ length text
  pub same : findings_from r policy text from ≡ findings_from r policy text to

-- The first finding from a place on.
pub record FoundAt (r : Reader) (policy : Policy) (text : List ℕ) (from : ℕ) (s : Located) : Type 0 where
  pub ahead : from < s.end
  pub inside : s.end ≤ length text
  pub one : findings_from r policy text from ≡ s.finding ∷ behind r policy text s.finding s.end

-- The promise of filling a list: how many findings there are, and the list before and after.
pub record Filled (fs : List Finding) (count : ℕ) (before after : List Finding) : Type 0 where
  pub number : count ≡ length fs
  pub lent : after ≡ filled_front before fs
