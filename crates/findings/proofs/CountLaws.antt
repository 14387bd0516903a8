-- Laws of counting the findings from a place on.
use mathlib.Core.List.{List, [], ◌∷◌}
use mathlib.Core.Path.{◌≡◌, sym, ap, ◌∙◌}
use Prim.Native.Nat.{ℕ, suc, ◌+◌, ◌≤◌}
use native.Mathlib.Omega.{arith}
use lib.ListN.{length, drop}
use lib.Seq.{drop-drop}
use borrow.Author.Tests.{eq-eqb, ne_eqb}
use Rattle.codepage.specs.Reading.{Reader}
use Rattle.engine.specs.declared.Policy.{Policy}
use Rattle.convert.specs.Runs.{piece_limit}
use Rattle.findings.specs.declared.Finding.{Finding}
use Rattle.findings.specs.declared.Located.{Located}
use Rattle.findings.specs.Findings.{findings_from}
use Rattle.findings.specs.Steps.{behind, FoundAt}

-- ---- the findings behind one
module _ (r : Reader) (policy : Policy) (text : List ℕ) (f : Finding) (end : ℕ) where
  -- digit 0 stops the reading
  pub behind_stop : f.digit ≡ 0 → behind r policy text f end ≡ []
  unfolding behind
  behind_stop e = rw (eq-eqb f.digit 0 e)

  -- any other goes on
  pub behind_on : (f.digit ≡ 0 → ⊥) → behind r policy text f end ≡ findings_from r policy text end
  unfolding behind
  behind_on e = rw (ne_eqb f.digit 0 e)

-- ---- counting: so many were counted up to a place
pub record Counted (r : Reader) (policy : Policy) (text : List ℕ) (from place count : ℕ) : Type 0 where
  pub short : length text ≤ piece_limit
  pub inside : place ≤ length text
  pub few : count ≤ place
  pub sum : length (findings_from r policy text from) ≡ count + length (findings_from r policy text place)

module _ {r : Reader} {policy : Policy} {text : List ℕ} {from place count : ℕ} where
  -- there is none left
  pub counted_none : Counted r policy text from place count → findings_from r policy text place ≡ [] → count ≡ length (findings_from r policy text from)
  counted_none i e = omega (arith, i.sum, ap (λ (l : List Finding). length l) e)

  module _ (i : Counted r policy text from place count) (s : Located) (h : FoundAt r policy text place s) where
    more : length (findings_from r policy text place) ≡ suc (length (behind r policy text s.finding s.end))
    more = ap (λ (l : List Finding). length l) h.one

    -- one more, which stops the reading
    pub counted_stop : s.finding.digit ≡ 0 → count + 1 ≡ length (findings_from r policy text from)
    counted_stop d = omega (arith, i.sum, more, ap (λ (l : List Finding). length l) (behind_stop r policy text s.finding s.end d))

    -- one more
    pub counted_on : (s.finding.digit ≡ 0 → ⊥) → Counted r policy text from s.end (count + 1)
    counted_on d =
        record {
          short = i.short;
          inside = h.inside;
          few = omega (arith, i.few, h.ahead);
          sum = omega (arith, i.sum, more, ap (λ (l : List Finding). length l) (behind_on r policy text s.finding s.end d));
        }

-- ---- what is left behind an entry
pub drop_next : (n : ℕ) (l : List Finding) (f : Finding) (rest : List Finding) → drop n l ≡ f ∷ rest → drop (n + 1) l ≡ rest
drop_next n l f rest e = sym (drop-drop 1 n l) ∙ ap (drop 1) e
